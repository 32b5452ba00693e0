pub mod Order
pub mod Lending
