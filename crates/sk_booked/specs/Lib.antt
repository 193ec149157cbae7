pub mod Writing
pub mod Paths
pub mod Kept
pub mod Plays
pub mod Of
pub mod Answers
pub mod Engines
pub mod Laws
