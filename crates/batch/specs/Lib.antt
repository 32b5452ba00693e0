pub mod Queries
pub mod Batch
pub mod Asked
pub mod Steps
