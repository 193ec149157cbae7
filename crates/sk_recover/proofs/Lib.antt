-- reading an image: names, tables that a catalog takes, keys that rise
pub mod Names
pub mod Catalogs
pub mod Rising
pub mod Each
-- reading both logs, turn by turn
pub mod Ranges
pub mod Pairs
pub mod Turning
-- the rows behind the commits
pub mod Entries
-- rows that are read fit their tables, and still do behind what is written
pub mod RowsFit
pub mod LogsRead
pub mod LogsFit
pub mod StateFit
-- each log holds writes to its own engine's tables alone
pub mod LogsOwned
-- making a new store, and what is opened
pub mod Sound
pub mod Roots
pub mod Made
pub mod Opens
pub mod Settled
