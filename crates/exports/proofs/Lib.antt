pub mod Packing
pub mod Loops
