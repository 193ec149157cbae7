pub mod Held
pub mod Playing
pub mod Freshness
pub mod Running
pub mod Sessions
pub mod Flushing
pub mod Ended
pub mod Beginnings
