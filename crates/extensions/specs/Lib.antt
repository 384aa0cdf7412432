pub mod NearBooks
pub mod Dear
pub mod DearLaws
