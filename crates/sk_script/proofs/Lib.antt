-- pieces and lines, tokens of a line one behind the other, a recursion beside a loop
pub mod Cuts
pub mod Rising
pub mod Turns
-- the tables of a script are such as a catalog takes, and its options such as may be set
pub mod Parts
pub mod Columns
pub mod NewTables
pub mod Choices
pub mod OptionRules
pub mod Takings
-- what the rules make of words, of a line and of bytes is what is read, both ways
pub mod TableRules
pub mod NoSemicolon
pub mod BodyRules
pub mod LineRules
pub mod ScriptRules
-- the sessions and the texts of the lines
pub mod Saying
-- the fault that is answered is the first by the rules
pub mod TableFaults
pub mod OptionFaults
pub mod BodyFaults
pub mod LineFaults
pub mod ScriptFaults
-- the first fault by the rules is answered
pub mod TableFails
pub mod BodyFails
pub mod ScriptFails
-- scripts that are generated
pub mod Making
pub mod Playable
-- the numbers of the command line
pub mod Amounts
