pub mod Grammar
pub mod Laws
pub mod Reading
pub mod Statics
pub mod Values
