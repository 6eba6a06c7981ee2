pub mod Alternatives
pub mod OneResult
pub mod RaisedRanges
pub mod RaisedVersions
pub mod Upgrades
