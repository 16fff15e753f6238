pub mod Drawn
pub mod PartsDrawn
pub mod Inside
pub mod WantedLevels
pub mod Joined
pub mod PlainBlends
