pub mod Shorter
pub mod MadeVersions
pub mod LowBytes
pub mod Places
pub mod TermPlaces
pub mod Replaceable
pub mod RewrittenWords
pub mod RewrittenTerms
