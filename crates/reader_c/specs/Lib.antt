pub mod Causes
pub mod Tables
pub mod Scanning
pub mod Readings
