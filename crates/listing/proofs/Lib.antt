pub mod Escapes
pub mod Listings
