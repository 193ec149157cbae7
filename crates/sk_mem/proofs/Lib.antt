-- ordered maps of chains, and those of opening rows
pub mod Maps
pub mod Starting
-- what is read of them, and what calls leave of them
pub mod Listing
pub mod Scans
pub mod Showing
-- versions that were given up
pub mod Forgetting
