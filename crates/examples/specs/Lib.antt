pub mod ExampleTexts
pub mod Examples
