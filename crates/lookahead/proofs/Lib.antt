pub mod Strings
pub mod Entering
pub mod Turns
pub mod Symbols
pub mod Comparing
pub mod Following
