pub mod Told
pub mod Lent
pub mod Phases
pub mod Phase
