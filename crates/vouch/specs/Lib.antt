pub mod Register
pub mod Vouching
pub mod Decision
pub mod Granting
pub mod Beside
pub mod Report
pub mod Parts
