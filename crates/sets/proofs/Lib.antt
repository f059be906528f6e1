pub mod Counts
pub mod Lowest
pub mod Masks
pub mod Sets
pub mod Tables
