pub mod Laws
pub mod Solution
pub mod Rounds
pub mod YesKind
pub mod YesLaws
