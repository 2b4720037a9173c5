pub mod Entries
pub mod Sets
pub mod Links
pub mod Symbols
pub mod Closures
pub mod Actives
pub mod Nexts
pub mod Reaching
