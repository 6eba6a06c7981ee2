pub mod Scanning
pub mod Taking
