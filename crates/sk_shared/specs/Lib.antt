pub mod Logged
pub mod Kept
pub mod Pair
pub mod Shared
pub mod Flushing
pub mod Finished
