pub mod Roles
pub mod Sound
pub mod TypesKnown
pub mod Places
pub mod SeenBefore
