pub mod Operators
pub mod Contexts
pub mod Seniority
pub mod Weights
pub mod Acting
pub mod Setting
