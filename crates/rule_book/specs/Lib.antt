pub mod Books
pub mod Joint
pub mod Barred
