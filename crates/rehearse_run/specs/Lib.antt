pub mod Plays
pub mod Laws
