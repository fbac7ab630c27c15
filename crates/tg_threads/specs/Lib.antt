pub mod Boxes
pub mod Output
pub mod Race
pub mod Shares
pub mod Tasks
pub mod Telling
