pub mod Bytes
pub mod Number
pub mod Order
pub mod Below
pub mod Reads
pub mod Inside
