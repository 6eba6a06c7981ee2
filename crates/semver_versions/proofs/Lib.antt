pub mod CutIdentifiers
pub mod DialectVersionRefs
pub mod KeptTexts
pub mod OneVersion
mod PrintedPre
pub mod BorrowedVersions
pub mod ReadTexts
pub mod ReadVersions
pub mod TextSlices
pub mod WhiteSpaces
mod ClonedIdentifiers
pub mod SameParts
