pub mod Blocks
pub mod Places
pub mod Sets
pub mod Holding
pub mod Nexts
pub mod Filling
pub mod Reach
pub mod Turned
pub mod Writing
pub mod Bytes
pub mod Rows
mod Reading
mod Begin
