pub mod Checks
pub mod Refusals
pub mod Results
pub mod Traces
