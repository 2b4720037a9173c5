pub mod Compared
pub mod LookUps
pub mod Outcomes
pub mod Sheets
pub mod Tables
pub mod Readings
pub mod Histories
