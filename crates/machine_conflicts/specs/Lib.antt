pub mod Clashing
pub mod Way
pub mod Tested
pub mod Ahead
pub mod Circle
pub mod Holders
pub mod Own
