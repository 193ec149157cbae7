-- what a store opens as goes on: theory for others too
pub mod Growing
-- the receipts and the greatest numbers, from call to call
mod Keeping
