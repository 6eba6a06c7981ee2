-- lists, identifiers and numbers
mod Lists
pub mod DigitLaws
mod NumberLaws
mod KindLaws
-- which versions are inside boundaries
mod BoundaryLaws
mod SearchLaws
mod BorrowedPlaces
mod EachAnswer
-- from cuts to the boundaries of a set
mod EndLaws
mod SpanLaws
mod HeldBoundaries
-- two sets
mod SweepLaws
mod SetLaws
mod SameSets
mod AtOrAbove
-- the lowest version
mod FirstBoundaries
mod WithinLaws
-- sets as ranges of comparators, and as texts
mod IntervalLaws
mod SetRangeLaws
mod PartTexts
mod PrintedBoundaries
mod WrittenSets
mod ReadBack
