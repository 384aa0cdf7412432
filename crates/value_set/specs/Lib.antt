pub mod Limits
pub mod Members
pub mod Blocks
pub mod Places
