pub mod Keys
pub mod Meeting
pub mod Places
pub mod Tables
