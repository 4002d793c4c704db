pub mod Addresses
pub mod Building
pub mod Laws
pub mod RewriteStep
pub mod Steps
