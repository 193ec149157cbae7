pub mod Causes
pub mod Calls
pub mod Pieces
pub mod Memory
pub mod Streams
