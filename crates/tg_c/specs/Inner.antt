-- The promises of private calls. No clause of a function that C calls cites them, so a reader who checks the store needn't read
-- them.
pub mod Places
pub mod Stores
pub mod Reading
