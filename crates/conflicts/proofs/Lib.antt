pub mod Order
pub mod Sets
pub mod Walk
pub mod Tables
pub mod Unique
pub mod Rows
pub mod Searched
