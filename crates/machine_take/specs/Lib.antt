pub mod Locking
pub mod Begun
pub mod Taken
pub mod Waits
