pub mod Agree
pub mod Front
pub mod Granting
pub mod Heads
