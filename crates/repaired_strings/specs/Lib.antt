pub mod Errors
pub mod Spans
pub mod Repairs
