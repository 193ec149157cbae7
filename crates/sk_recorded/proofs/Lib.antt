-- what an engine answers of numbers that are used stays
pub mod Staying
-- what is stamped behind a journal
pub mod Stamped
-- the other number of a commit
pub mod Others
-- lists by rising numbers
pub mod Rising
-- the whole list, in linked traces
pub mod Telling
-- windows of a list, and the entry that tells one
pub mod Windows
pub mod Entries
-- the points from a cut on, what is written behind both engines' logs, and the flushes that join by these points and write there
pub mod Points
pub mod Behind
pub mod Flushes
pub mod Growing
-- the run
pub mod Paused
-- what is common to its sessions grows, and what they say that the registry refused, it refused; theory for others
pub mod Grown
pub mod Denied
pub mod Refused
-- worked examples
mod FlushExamples
