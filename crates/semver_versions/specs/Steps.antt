pub mod Reading
pub mod OrderLaws
pub mod SameParts
pub mod Owned
