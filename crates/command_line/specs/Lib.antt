pub mod Options
pub mod RefusedLines
