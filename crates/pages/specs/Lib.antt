pub mod Records
pub mod Accept
pub mod Agree
pub mod Empty
pub mod Lookups
