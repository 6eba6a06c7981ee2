pub mod Decimals
pub mod DottedParts
pub mod PrecedenceLaws
