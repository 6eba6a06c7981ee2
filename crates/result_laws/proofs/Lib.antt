pub mod OneResult
pub mod SameSets
pub mod LowestVersions
pub mod RangeResults
pub mod VersionResults
pub mod OneError
