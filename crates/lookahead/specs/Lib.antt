pub mod Entries
pub mod Stored
pub mod Theorems
