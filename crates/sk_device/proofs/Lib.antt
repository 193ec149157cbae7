-- how a run of calls goes on: theory for others
pub mod Moments
-- bytes that a write leaves, whole, taken back or in part
pub mod Bytes
mod Undo
-- the two devices in memory
mod Histories
mod Tears
mod Stops
