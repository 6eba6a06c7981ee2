-- which versions satisfy a range
pub mod Satisfied
-- raising the last alternative
pub mod RaisedTerms
pub mod RaisedResults
-- the clauses of a result
pub mod Results
