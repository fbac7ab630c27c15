pub mod Refused
pub mod Runs
