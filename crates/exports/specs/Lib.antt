pub mod Packed
pub mod Contexts
