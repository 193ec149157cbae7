-- logs that grow, and the rule of the two words: each step, splits and joins, a call step by step, the close
mod Entries
mod Steps
mod Splits
mod Makings
mod Closes
-- what a call enters into a journal, and that the journal of an engine is legal
pub mod Enterings
mod Legals
-- for who calls: theory for others
pub mod Callers
