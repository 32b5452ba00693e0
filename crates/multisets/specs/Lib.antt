pub mod Ranks
pub mod Rising
pub mod Standing
pub mod Values
pub mod Ends
pub mod Levels
pub mod Laid
