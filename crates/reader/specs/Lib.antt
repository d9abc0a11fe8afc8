pub mod Verdicts
pub mod Sizes
pub mod Judging
