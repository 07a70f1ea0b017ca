pub mod Crc
pub mod DataUnit
pub mod Pieces
pub mod Tables
pub mod Inside
