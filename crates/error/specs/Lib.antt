pub mod Answer
pub mod Demand
pub mod Cases
pub mod Reason
