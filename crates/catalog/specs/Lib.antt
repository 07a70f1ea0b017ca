pub mod Keys
pub mod Times
pub mod Inode
pub mod Entry
pub mod Extent
pub mod Inside
