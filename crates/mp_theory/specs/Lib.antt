pub mod Allowed
pub mod Fresh
pub mod Laws
pub mod Needs
pub mod Tables
