pub mod Boxes
pub mod HalvedRows
pub mod Blocks
