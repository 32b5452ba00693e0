pub mod Sheets
pub mod Outcomes
pub mod Signings
pub mod Events
pub mod Form
