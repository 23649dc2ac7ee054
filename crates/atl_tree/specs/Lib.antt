pub mod Cutting
pub mod Front
pub mod Machine
pub mod Pieces
pub mod Refusals
pub mod Scanner
pub mod Slices
pub mod Tokens
