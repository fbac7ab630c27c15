pub mod Rolling
pub mod Signing
