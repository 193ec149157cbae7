pub mod Joined
pub mod Windows
pub mod Entries
pub mod Flushes
pub mod Recorded
pub mod Written
pub mod Growing
pub mod Refused
