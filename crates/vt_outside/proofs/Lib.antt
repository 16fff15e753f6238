pub mod Changes
pub mod UnknownContents
pub mod Fronts
pub mod SameLists
pub mod Named
pub mod Halves
pub mod Refusing
pub mod Writing
