-- What private calls ask for and promise. No public clause cites it: a reader who checks the store needn't read it.
pub mod Blocks
pub mod Reads
pub mod Steps
