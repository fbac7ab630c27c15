pub mod Content
pub mod Rows
pub mod Index
pub mod Spots
pub mod Steps
pub mod Inner
pub mod Graph
