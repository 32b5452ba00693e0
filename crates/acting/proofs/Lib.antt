pub mod Wider
pub mod HeadBuyer
