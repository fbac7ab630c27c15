pub mod Verdict
pub mod Effect
pub mod Parties
pub mod Laws
