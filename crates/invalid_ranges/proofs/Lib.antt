pub mod OneRefusal
mod Places
mod RangeErrors
mod RangeReasons
mod FirstOffsets
mod RangeLeaves
mod PartialCompletions
mod WordCompletions
mod RangeCompletions
mod CargoCompletions
mod ReadingCompletions
