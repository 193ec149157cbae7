-- identities of rows, and a row's chain of versions: theory for others too
pub mod RowIds
pub mod Changing
pub mod Reading
-- what a call does to the versions of a row, and to the whole engine
pub mod Putting
pub mod Whole
pub mod Acted
pub mod Drops
-- openings, and the floor
pub mod Holding
pub mod Begun
-- numbers that are used, and the horizon
pub mod Entering
pub mod Counting
pub mod Numbering
pub mod UsedNumbers
pub mod Horizons
pub mod Ended
-- scans
pub mod Scanning
-- what a purge leaves
pub mod Purged
-- the commits of a range, with what each wrote
pub mod Entries
pub mod Recorded
pub mod Netted
pub mod Commits
-- the promise of each call
pub mod Serving
pub mod Calls
pub mod Ends
pub mod Permitted
