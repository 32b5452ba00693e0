pub mod Search
pub mod Level
pub mod Answer
pub mod Led
