-- which versions are in a set
pub mod Releases
pub mod Boundaries
pub mod VersionSets
pub mod HashedSets
pub mod AtOrAbove
-- two sets that are combined or compared
pub mod Combinations
pub mod Comparisons
-- the rules for pre-releases
pub mod PreReleaseRules
pub mod PreReleaseTable
-- sets as ranges of comparators, and as texts
pub mod SetRanges
pub mod DigitViews
pub mod Printable
-- means of proof
pub mod Steps
