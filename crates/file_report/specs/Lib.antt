pub mod Names
pub mod Lines
pub mod Tallies
pub mod Explanations
