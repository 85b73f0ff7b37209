pub mod Selections
pub mod TestLaws
pub mod SelectedSames
pub mod Judges
pub mod Changes
pub mod Begins
pub mod Tidied
