pub mod Taking
pub mod Sorting
pub mod Members
