pub mod Bytes
pub mod Forms
pub mod Lex
pub mod Spans
