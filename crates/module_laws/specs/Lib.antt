pub mod TooDeep
pub mod Laws
pub mod Places
pub mod Held
pub mod ReadBack
