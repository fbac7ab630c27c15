pub mod Answering
pub mod Chunks
