pub mod Adding
pub mod FaultWalks
pub mod Narrow
pub mod RewriteSteps
pub mod RewriteTells
