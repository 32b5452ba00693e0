pub mod Resolution
pub mod Rules
