pub mod GroupLaws
pub mod GroupTurns
