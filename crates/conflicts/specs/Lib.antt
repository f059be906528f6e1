pub mod Conflicts
pub mod Crossing
pub mod Searches
pub mod Seen
pub mod Statements
