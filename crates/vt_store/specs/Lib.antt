pub mod ChainStores
pub mod Laws
pub mod Widening
pub mod StripStores
pub mod Steps
pub mod StripSteps
pub mod Rings
pub mod Rounds
