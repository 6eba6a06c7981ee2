pub mod Tokens
pub mod ParserState
pub mod Steps
pub mod Views
pub mod ParserSteps
pub mod ParserViews
pub mod VersionReading
