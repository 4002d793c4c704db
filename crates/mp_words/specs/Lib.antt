pub mod Faults
pub mod Fronts
pub mod Grammars
pub mod Ranges
pub mod Reading
pub mod Seconds
pub mod Texts
pub mod Words
