pub mod Rfc3629
pub mod Rows
pub mod Plain
pub mod Inside
