pub mod Allocation
pub mod Cleanup
pub mod Workspace
pub mod Internal
pub mod Leaf
pub mod Cases
pub mod Inside
