pub mod Texts
pub mod Admitting
