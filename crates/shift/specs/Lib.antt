pub mod Shift
pub mod Counting
