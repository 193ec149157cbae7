-- the registry and all its points
pub mod Logging
-- a call of an engine, and its entry
pub mod Entries
-- what the sessions share, behind an answer
pub mod Answering
-- and behind the calls of a flush
pub mod Flushes
-- the other numbers of commits over both engines
pub mod Numbered
-- what is left at the end
pub mod Leaving
-- a run may begin without rows
pub mod Opening
