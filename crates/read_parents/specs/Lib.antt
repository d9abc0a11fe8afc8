pub mod Walk
pub mod Parents
