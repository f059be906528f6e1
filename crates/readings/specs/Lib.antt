pub mod Bits
pub mod Files
pub mod Refusals
pub mod Statements
pub mod Tables
pub mod Writing
