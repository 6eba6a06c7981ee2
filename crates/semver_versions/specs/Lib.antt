pub mod AnyLength
pub mod VersionRefs
pub mod VersionOrder
pub mod PlacedVersions
pub mod ReadVersions
pub mod Steps
