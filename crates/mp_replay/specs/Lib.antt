pub mod Conditions
pub mod Finding
pub mod Laws
pub mod Nodes
pub mod Verdicts
