pub mod Advancing
pub mod Contexts
pub mod Passing
pub mod Refusals
pub mod Readings
pub mod Unfinished
