pub mod Pass
pub mod Accepted
pub mod Copies
pub mod Heirs
pub mod Ahead
pub mod Named
pub mod NamedLines
pub mod NamedRuns
