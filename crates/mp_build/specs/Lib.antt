pub mod Built
pub mod Laws
pub mod Rooms
pub mod Sites
pub mod Sizes
