pub mod Outline
pub mod Entries
pub mod Texts
pub mod Enumerations
pub mod Forms
