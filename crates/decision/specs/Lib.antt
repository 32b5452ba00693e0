pub mod Conditions
pub mod Groups
pub mod Members
pub mod Decision
pub mod Granting
