-- What both engines stand for
pub mod Stands
-- Lines, and who said them
pub mod Lines
-- A run that begins
pub mod Beginning
-- The records of transactions that are over
pub mod Over
-- One session that has spoken
pub mod Spoken
-- The labels of its records, and the newest of them
pub mod Labels
-- A line of one session, and leaving it
pub mod Going
-- What the table of refusals refuses
pub mod Refusing
-- What a disk shows behind a flush
pub mod Showing
-- What a flush asks leaves a run that goes on
pub mod Drifting
-- What a flush finds is a flush behind the others
pub mod Finding
-- How far what a flush finds reaches
pub mod Reaching
-- It reaches both counters, where all numbers are decided
pub mod Newest
-- Sessions that end
pub mod Settling
-- The commits of the list have the numbers of their records
pub mod Numbered
-- What a run hands out
pub mod Ending
