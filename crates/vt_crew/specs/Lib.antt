pub mod DeskPhases
pub mod DeskEnds
pub mod TurnRules
pub mod DeskPlays
pub mod Finds
pub mod Pendings
