pub mod Records
pub mod Entries
pub mod Found
pub mod Inside
