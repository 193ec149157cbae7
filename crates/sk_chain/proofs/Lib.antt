-- the versions of a row; Trimming is theory for others too
pub mod Newest
pub mod Finding
pub mod Trimming
-- what calls of an engine leave
pub mod Legality
-- an engine with a journal
pub mod Entering
pub mod Serving
pub mod Journaled
-- calls that are made where they may be, and else passed over
pub mod Applied
pub mod AppliedJournal
