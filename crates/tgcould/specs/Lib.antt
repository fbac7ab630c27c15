pub mod Texts
pub mod Told
pub mod Policies
pub mod Supposed
pub mod Verdict
