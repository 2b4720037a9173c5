pub mod RowFacts
pub mod Meetings
pub mod WordsCut
pub mod Made
