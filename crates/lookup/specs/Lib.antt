pub mod Record
pub mod Floor
pub mod Sorted
pub mod Cases
pub mod Inside
