-- the history, and the rule of the words
pub mod Histories
pub mod Steps
pub mod Splits
pub mod Makings
-- the ring after a history
pub mod Ring
pub mod Reading
-- what a pass holds and knows
pub mod Held
pub mod Views
pub mod Walking
pub mod Clocks
pub mod Drawing
pub mod Changing
pub mod Finds
pub mod Checking
pub mod Choosing
pub mod Horizons
pub mod Ends
pub mod Passing
