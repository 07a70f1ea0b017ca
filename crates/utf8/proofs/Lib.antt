pub mod Front
pub mod Reading
pub mod Grammar
pub mod Plain
pub mod Rows
