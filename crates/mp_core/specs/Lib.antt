pub mod Cores
pub mod Events
pub mod Machine
pub mod Nodes
pub mod Sound
