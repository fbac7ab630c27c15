pub mod Values
pub mod Texts
pub mod Lines
pub mod Read
