pub mod Sums
pub mod Numbers
pub mod Cases
pub mod Accept
