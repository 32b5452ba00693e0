pub mod Tables
pub mod Bits
pub mod Excluding
pub mod Lists
pub mod Found
pub mod Loops
pub mod Listed
