pub mod Orders
pub mod Turns
pub mod Ends
pub mod Words
pub mod Rising
pub mod Entries
pub mod Formed
