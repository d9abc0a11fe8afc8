pub mod Lists
pub mod Ranks
pub mod Commuting
