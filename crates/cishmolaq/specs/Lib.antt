pub mod Answers
pub mod Lines
pub mod Laws
pub mod Start
pub mod Joined
pub mod Keeps
pub mod Promises
