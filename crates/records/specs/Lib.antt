pub mod Catalog
pub mod Record
pub mod Mode
