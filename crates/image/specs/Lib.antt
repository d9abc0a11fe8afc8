pub mod Written
pub mod Cells
pub mod Sizes
pub mod Values
pub mod Letters
pub mod Laws
pub mod Starting
