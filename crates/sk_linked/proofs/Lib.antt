-- what a transaction reads and writes over the list: theory for others too
pub mod Held
pub mod Keys
pub mod Writers
pub mod Wins
-- lists and who is in them; one transaction's calls in an engine's journal
pub mod Members
pub mod Projection
pub mod Others
pub mod Stamps
pub mod Puts
-- from linked traces to one database: a run with owed stamps, what reads show, the list's commits, who wins
pub mod Commits
pub mod Grounds
pub mod Telling
pub mod ByTable
pub mod Authors
pub mod Winning
pub mod One
pub mod Recorded
-- what is linked stays linked: a transaction goes on, calls of none; theory for others too
pub mod Growing
pub mod Makers
pub mod Going
pub mod Noting
-- from what each session says to linked traces; theory for others too
pub mod Fitted
pub mod Turns
pub mod Behaving
pub mod Joining
pub mod Sharing
pub mod Coming
pub mod Valuing
pub mod Checking
pub mod Keying
pub mod Speaking
pub mod Stating
pub mod Finishing
pub mod Closing
pub mod Conduct
-- each refusal has its cause
pub mod Meeting
pub mod Refusing
pub mod Causes
pub mod Denying
-- who is alone meets nobody
pub mod Alone
-- what a run of sessions keeps is linked
pub mod Kept
-- each event of the machine keeps its traces linked
pub mod Moving
pub mod Applying
pub mod Events
pub mod Writing
pub mod Deciding
pub mod Stamping
pub mod Beginning
pub mod Horizons
pub mod Stepping
pub mod Theorem
-- and what is replied is what one database shows
pub mod Explained
-- what is durable, and that no session goes back
pub mod Acked
pub mod Seeing
pub mod Freshness
pub mod Sessions
-- an event is answered NotNow exactly where it is not lawful
pub mod Lawfulness
pub mod Ready
pub mod Taking
pub mod Flags
pub mod Steps
pub mod Next
pub mod StepsTaken
pub mod Taken
-- worked examples
mod ReadExamples
mod PlayedExamples
mod SharedExamples
mod KeptExamples
