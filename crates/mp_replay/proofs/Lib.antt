pub mod Deciding
pub mod Layers
pub mod Listed
pub mod NodeLists
pub mod Validity
pub mod Walks
