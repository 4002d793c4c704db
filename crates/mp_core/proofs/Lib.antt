pub mod Soundness
pub mod Validity
