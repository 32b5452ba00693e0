pub mod Replaced
pub mod Overriding
pub mod Shift
pub mod Laws
