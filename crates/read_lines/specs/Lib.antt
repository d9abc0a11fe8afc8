pub mod Below
pub mod Spelled
pub mod Lower
pub mod Mentioned
pub mod Added
pub mod Held
pub mod Took
pub mod Objects
