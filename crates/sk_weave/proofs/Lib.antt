-- points: the staircase, selections, pairs and cuts; theory for others too
pub mod Staircase
pub mod Picks
pub mod Pairs
pub mod Cuts
-- the list is woven, and has what each engine has; theory for others too
pub mod Merging
pub mod Parts
pub mod Running
pub mod Content
mod Halved
-- at a pair the list splits; prefixes, and what they hold; theory for others too
pub mod Splits
pub mod Alone
pub mod Prefixes
pub mod Holding
-- prefixes that stay, engine by engine; commits over both engines
pub mod Upto
pub mod Engines
pub mod Crossings
-- a registry of points, and what comes ahead of a transaction: theory for others too
pub mod Registers
pub mod Aheads
-- worked examples
pub mod Premises
mod WeaveExamples
mod PrefixExamples
mod AheadExamples
