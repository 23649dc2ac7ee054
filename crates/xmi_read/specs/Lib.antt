pub mod Parts
pub mod Answers
pub mod Groups
pub mod TypeTexts
pub mod Sizes
