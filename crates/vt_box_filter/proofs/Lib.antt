pub mod PartSamples
pub mod BlockRows
pub mod Bytes
pub mod PutBoxes
