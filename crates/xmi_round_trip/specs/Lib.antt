pub mod Renumbered
pub mod RoundTrip
