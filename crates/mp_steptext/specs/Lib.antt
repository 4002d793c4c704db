pub mod Grammar
pub mod Names
pub mod Printing
pub mod Round
pub mod Statics
pub mod Terms
pub mod Values
