pub mod Header
pub mod Page
pub mod Unchecked
pub mod View
