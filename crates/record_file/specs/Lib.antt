pub mod Layout
pub mod Rules
pub mod Faults
pub mod Reading
pub mod Tallies
pub mod WorkedExamples
pub mod Numbers
