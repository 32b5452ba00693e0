pub mod ByPlace
pub mod Eights
pub mod OneLevel
pub mod Loops
pub mod Firsts
pub mod Looking
pub mod Front
pub mod Groups
