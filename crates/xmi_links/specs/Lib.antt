pub mod References
pub mod ModelOf
pub mod Answers
pub mod Found
pub mod Linking
pub mod Stages
