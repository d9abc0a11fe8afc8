pub mod Worked
pub mod Beside
pub mod Stored
pub mod Started
pub mod Fitting
pub mod Filling
pub mod Installed
