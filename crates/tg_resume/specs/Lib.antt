pub mod Inner
pub mod Resuming
pub mod Room
