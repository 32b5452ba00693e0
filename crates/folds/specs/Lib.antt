pub mod Below
pub mod Sets
