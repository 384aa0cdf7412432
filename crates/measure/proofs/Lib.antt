pub mod Groupings
pub mod EachOnce
pub mod Choosing
pub mod BlockWeights
pub mod CountWeights
pub mod PriceRecords
pub mod Stored
