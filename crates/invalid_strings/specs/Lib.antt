pub mod Prefixes
pub mod Buffers
pub mod VersionCompletions
pub mod VersionPrefixes
pub mod Reasons
pub mod ReasonTable
pub mod Escaping
