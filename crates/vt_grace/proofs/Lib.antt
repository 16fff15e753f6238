mod Legal
mod Keeping
pub mod Rows
pub mod Starts
mod Contents
mod PassSteps
mod WriterSteps
pub mod GivingSteps
