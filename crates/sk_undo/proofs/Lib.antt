-- places of a log, and those that become free: theory for others too
pub mod Places
pub mod Frees
-- what readers see of paths
pub mod Seen
-- a push, a trim and a cut change no other path
pub mod Pushes
pub mod Trims
pub mod Keeping
pub mod Kept
-- worked examples
mod UndoExamples
