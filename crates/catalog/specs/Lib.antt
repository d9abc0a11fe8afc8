pub mod View
pub mod Names
pub mod Store
pub mod Rows
pub mod Frames
pub mod Look
pub mod Bodies
