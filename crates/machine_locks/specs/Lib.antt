pub mod Granted
pub mod Outcomes
pub mod Woken
pub mod OneObject
pub mod Sent
