pub mod Drains
pub mod Quotas
pub mod Skips
