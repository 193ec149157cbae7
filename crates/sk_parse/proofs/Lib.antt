-- a recursion beside a loop, layers of the grammar, tables of single words
pub mod Turns
pub mod Levels
pub mod Nesting
pub mod Pinned
-- what is read is derived by the rules
pub mod Sound
pub mod SoundExpr
pub mod SoundStatement
-- what the rules derive is read
pub mod Complete
pub mod CompleteStatement
-- the first fault: what stands before a word that is refused begins a statement
pub mod Local
pub mod GoesOn
pub mod GoesOnRules
pub mod GoesOnStatements
pub mod Answered
-- what is printed can be spelled, and is read as it was
pub mod Chains
pub mod Prints
pub mod Spelling
pub mod Written
pub mod Said
