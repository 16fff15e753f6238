mod Making
mod Filling
mod Replaying
mod Knowing
