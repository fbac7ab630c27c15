pub mod Alone
pub mod Desk
