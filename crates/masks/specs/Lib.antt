pub mod Asked
pub mod Clauses
pub mod Masks
pub mod Rows
pub mod Sets
pub mod Striking
