pub mod References
pub mod Types
pub mod Targets
pub mod DataTypes
pub mod Owns
pub mod Literals
pub mod Classifiers
pub mod FileTables
