-- versions and sets
pub mod Places
pub mod Numbers
-- from cuts to the boundaries of a set
pub mod Cuts
pub mod Spans
pub mod SpanViews
pub mod EndPlaces
pub mod Ends
-- two sets
pub mod Sweeps
pub mod SweepViews
pub mod Combined
pub mod SameSets
pub mod HashedSets
-- some versions of a set
pub mod Between
pub mod Lower
pub mod Within
-- sets as texts
pub mod ComparatorRefs
