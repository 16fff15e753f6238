pub mod Shapes
pub mod Stores
pub mod Caches
pub mod Readers
pub mod Tables
pub mod Settlings
