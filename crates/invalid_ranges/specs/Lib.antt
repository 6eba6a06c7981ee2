pub mod Prefixes
pub mod RangeReasons
pub mod TooLarge
pub mod Refusals
pub mod Steps
