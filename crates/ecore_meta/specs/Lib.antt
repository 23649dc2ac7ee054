pub mod Inheritance
pub mod Names
pub mod Order
pub mod Tables
pub mod Valid
