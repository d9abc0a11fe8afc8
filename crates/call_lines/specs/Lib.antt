pub mod Lent
pub mod Says
pub mod Forms
pub mod Names
pub mod Objects
