-- What the calls on rows ask for and promise. No other crate cites it: a reader who checks the store needn't read it.
pub mod Cells
pub mod Followed
pub mod Following
pub mod Deeds
