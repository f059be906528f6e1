pub mod Sets
pub mod Statements
pub mod Tables
