pub mod Weighing
pub mod CountedRuns
pub mod Inside
