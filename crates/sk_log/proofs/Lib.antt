-- what a write and a sync leave
pub mod Synced
-- reading turns, and what an image that grew opens as: theory for others too
pub mod Tools
pub mod Turns
pub mod Openings
pub mod Groups
-- what is spelled is read: groups, images; theory for others too
pub mod Written
pub mod Imaged
-- worked examples
mod StoreExamples
