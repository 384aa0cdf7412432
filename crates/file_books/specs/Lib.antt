pub mod Domains
pub mod Relations
pub mod Conflicts
pub mod Inequalities
pub mod Files
