pub mod Each
pub mod Append
pub mod Digits
