pub mod Calls
pub mod Causes
pub mod Shelves
pub mod Sinks
pub mod laws
