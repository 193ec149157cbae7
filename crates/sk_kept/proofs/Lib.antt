-- lists with one member changed, and whose the transactions of all sessions are
pub mod Middles
pub mod Numbering
-- one call of one transaction, in the registry, the journals and the numbers that it draws; theory for others too
pub mod Changes
pub mod Drawing
pub mod Journals
pub mod Glimpses
pub mod Founds
pub mod Beginning
pub mod Steps
-- what holds at every moment makes what a run of sessions keeps, at first and at its end
pub mod Plays
pub mod Beginnings
pub mod Ended
-- a line of a session, call by call, and what a flush asks for; theory for others too
pub mod Running
pub mod Sessions
pub mod Flushing
