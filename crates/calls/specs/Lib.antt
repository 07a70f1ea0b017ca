pub mod Told
pub mod Pieces
pub mod Table
pub mod Given
pub mod Refusals
pub mod Held
