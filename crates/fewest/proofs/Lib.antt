pub mod Asked
pub mod Seek
pub mod Led
