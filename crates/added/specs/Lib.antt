pub mod Image
pub mod Line
