pub mod Arms
pub mod InPlace
pub mod Leaves
pub mod Queues
