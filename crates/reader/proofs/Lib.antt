pub mod Frame
pub mod Parameter
pub mod Trying
pub mod Accepted
pub mod Replaced
pub mod Answered
pub mod Results
