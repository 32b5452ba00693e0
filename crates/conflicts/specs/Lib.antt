pub mod Conflicts
pub mod Rows
pub mod Kinds
pub mod Records
pub mod Exclusions
