pub mod Bare
pub mod Lines
pub mod Raising
