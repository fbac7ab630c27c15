pub mod Shares
pub mod Tills
pub mod Batch
pub mod Creating
pub mod Keeping
