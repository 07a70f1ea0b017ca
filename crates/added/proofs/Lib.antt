pub mod Laying
pub mod Lent
