-- What private calls promise. No public clause cites it: a reader who checks the audit needn't read it.
pub mod Steps
pub mod Showing
