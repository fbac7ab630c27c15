pub mod ChunkLaws
pub mod KeepingPartLaws
pub mod SoFarLaws
pub mod EndLaws
