pub mod Composing
pub mod Heads
pub mod Instances
pub mod Laws
pub mod Made
pub mod Moves
pub mod Renamings
pub mod Rows
