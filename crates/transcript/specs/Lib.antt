pub mod Lines
pub mod Transcripts
pub mod Sheets
