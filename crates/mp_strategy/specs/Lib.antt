pub mod Evaluation
pub mod Fits
pub mod Problems
pub mod Laws
pub mod Strategies
pub mod Works
