pub mod Bits
pub mod Files
pub mod Tables
pub mod Writing
