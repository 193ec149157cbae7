-- the order of refusals, and what loses no transaction
pub mod Named
pub mod Refused
pub mod Judged
-- calls behind others: what a statement asks for
pub mod Talking
pub mod Waiting
pub mod Saying
pub mod Going
pub mod Opening
-- a transaction that is given up, and one that commits
pub mod Leaving
pub mod GivenUp
pub mod Committed
pub mod Keeping
-- each call of a session keeps the calls of its transaction
pub mod Starts
pub mod Taken
pub mod Left
-- what each call leaves of the facts of the transaction, and that it is in order
pub mod SoFar
pub mod Answered
pub mod Stepped
pub mod Factual
pub mod Orderly
-- the talks of all records, and between two lines
pub mod Recorded
pub mod Stages
pub mod Pausing
-- a statement that is answered with a desk
pub mod Counting
pub mod Exchanging
pub mod Conversed
-- the facts of all transactions
pub mod Changed
pub mod Wished
-- what the records say that the registry refused; theory for others
pub mod Denials
pub mod Denying
-- the records of transactions that are over
pub mod Over
-- what was printed
pub mod Used
pub mod Lines
pub mod Replying
pub mod Hearing
pub mod Printing
mod PrintedExamples
-- what was refused
pub mod Ways
pub mod Obeyed
mod HeardExamples
