pub mod Machine
pub mod Nexts
