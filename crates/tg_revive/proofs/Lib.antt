pub mod Reviving
