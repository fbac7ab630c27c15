pub mod Boxes
pub mod Grown
pub mod Inner
pub mod Lines
pub mod Past
pub mod Refused
