pub mod Masks
pub mod Mentions
pub mod Calls
pub mod Says
pub mod Fields
pub mod Gathering
pub mod Lines
pub mod Targets
