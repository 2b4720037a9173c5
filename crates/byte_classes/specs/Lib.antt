pub mod Classes
pub mod Keywords
