pub mod Lowest
pub mod Raw
pub mod Form
pub mod Formed
pub mod Views
