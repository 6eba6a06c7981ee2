-- a text has one tree in each dialect, and the cursor returns its terms
pub mod ComparatorReading
mod Commas
pub mod Comparators
pub mod ItemsFound
mod ReadTrees
pub mod ReadingLaws
-- the table of sides, and which numbers fit
mod NumberSteps
mod TableLaws
mod CheckedEvents
mod TooLargeNumbers
-- a version is between the sides of a term if and only if it satisfies the term
mod Cells
mod CargoCells
mod NpmCells
-- whether one version satisfies a text
mod MatchedTerms
mod MatchedEvents
mod MatchedRanges
mod MatchedMeanings
mod SatisfiesErrors
-- a range that is widened to another one
mod WidenedTerms
mod WidenedRanges
mod WidenedEvents
mod WidenedTexts
-- the set of the versions that satisfy a text
mod BuiltSets
mod ReachedVersions
pub mod ReadSets
mod ContainedTexts
-- the comparators of a text
mod AnySizes
mod SideComparators
mod PrintedSets
mod PrintedMeanings
mod PrintableSets
mod IncludedSets
mod RewrittenSets
-- the highest and the lowest of many versions
mod HighestMembers
pub mod OneHighest
pub mod OneMember
