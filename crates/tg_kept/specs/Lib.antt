pub mod Deeds
pub mod Keeping
pub mod Reopening
pub mod Runs
pub mod Said
pub mod Texts
