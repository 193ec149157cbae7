-- lists, numbers that rise, labels, places in the list: theory for others too
pub mod Lists
pub mod Numbers
pub mod Labels
pub mod Places
-- what writes come to, and the tables after them: theory for others too
pub mod Lookups
pub mod ByTable
pub mod Nets
pub mod NetLaws
-- an expression by its layers
pub mod Layers
-- a journal, and the condition on a row
pub mod Runs
pub mod Openings
pub mod Journals
pub mod Fitting
-- the versions of a row stand by number; what a stamp stamps
pub mod Order
pub mod Stamping
-- what a read finds, and that it stays
pub mod Own
pub mod Quiet
pub mod Reading
-- an engine's commits
pub mod Listed
pub mod Numbered
pub mod Parts
-- what a record asked of the engines, and what that tells: theory for others too
pub mod Answered
pub mod Bridging
pub mod TalksTold
pub mod EngineEnds
-- worked examples
mod ReplyExamples
mod EngineExamples
mod JournalExamples
mod OneDatabaseExamples
