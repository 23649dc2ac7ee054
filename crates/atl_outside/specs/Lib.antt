pub mod Contents
pub mod Held
pub mod Memory
pub mod Plan
pub mod Rose
pub mod Taken
