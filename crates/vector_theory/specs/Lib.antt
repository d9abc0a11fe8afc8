pub mod Reachability
pub mod Lawful
pub mod VectorLaws
pub mod Direct
