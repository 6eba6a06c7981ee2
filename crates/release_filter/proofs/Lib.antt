mod Tests
pub mod Matching
mod KeptVersions
mod Prefixes
mod OneOrder
pub mod Verdicts
pub mod LongLines
pub mod Holding
pub mod HeldLines
pub mod Folds
pub mod Cuts
pub mod Sorting
pub mod SortedLines
pub mod Alike
pub mod Pieces
pub mod Outcomes
pub mod NotedLines
