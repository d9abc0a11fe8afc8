pub mod Chosen
pub mod Tokens
pub mod Reading
pub mod Keywords
pub mod Kinds
pub mod Places
pub mod Spelling
pub mod Expressions
