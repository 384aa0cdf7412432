pub mod Bits
pub mod Counts
pub mod Leasts
pub mod Lists
pub mod Sizes
pub mod Steps
pub mod Blocks
pub mod Masks
