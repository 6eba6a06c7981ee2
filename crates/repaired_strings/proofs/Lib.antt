pub mod Runs
pub mod Chains
pub mod OneError
pub mod OneRepair
