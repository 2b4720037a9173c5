pub mod Escapes
pub mod Lines
pub mod Listings
