pub mod Told
pub mod State
pub mod Over
pub mod Kept
pub mod Numbered
pub mod Ended
pub mod Flushing
pub mod Reaching
