mod Placing
mod Passes
