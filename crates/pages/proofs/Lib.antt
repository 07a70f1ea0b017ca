pub mod Records
pub mod Accept
pub mod Fields
pub mod Agree
pub mod Empty
pub mod Lookups
