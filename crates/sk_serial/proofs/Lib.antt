-- the lines of a run, one behind the other, and its end
pub mod Came
pub mod Plays
pub mod Closing
-- who waits, and who was told
pub mod Waiting
pub mod Acknowledged
-- the store
pub mod Showing
pub mod Prefixes
pub mod Lasts
pub mod Saves
pub mod Full
pub mod Opened
-- what is answered, from how it ended
pub mod Found
pub mod Whole
pub mod Ends
-- sums
pub mod Totals
pub mod Printed
