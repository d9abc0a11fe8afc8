pub mod Over
pub mod Freed
pub mod Unlocked
