pub mod ErrorValues
pub mod ErrorTexts
pub mod Conversions
pub mod Names
