pub mod Grammar
pub mod Laws
pub mod Printing
pub mod Reading
pub mod Round
pub mod Statics
pub mod Values
