pub mod Actions
pub mod Lines
