pub mod Snapshot
pub mod Faults
