-- What private calls ask for and promise. No public clause cites it: a reader who checks the store needn't read it.
pub mod Answering
pub mod Entering
pub mod Handing
pub mod Parking
pub mod Unparking
pub mod Reaching
pub mod Saving
pub mod Withdrawing
