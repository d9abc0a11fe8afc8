pub mod Took
pub mod Forms
pub mod Lines
pub mod Joins
pub mod Made
