pub mod Lending
pub mod Tags
