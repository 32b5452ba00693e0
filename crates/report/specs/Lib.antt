pub mod Smallest
pub mod Report
pub mod Parts
pub mod Demand
