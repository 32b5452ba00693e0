pub mod Related
pub mod Slots
