pub mod Texts
pub mod Sums
pub mod Parts
pub mod Pieces
pub mod Kept
pub mod Read
