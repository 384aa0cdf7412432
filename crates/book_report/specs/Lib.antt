pub mod Pairs
pub mod Cheapest
pub mod Lines
