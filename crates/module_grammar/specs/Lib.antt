pub mod Keywords
pub mod Marks
pub mod Parts
pub mod Grammar
