pub mod Spots
pub mod Accepted
