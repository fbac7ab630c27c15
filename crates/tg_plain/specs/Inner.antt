-- What private calls ask for and promise. No public clause cites it.
pub mod Reading
pub mod Past
