-- the end of the last mark, found by halving; the numbers of marks rise
pub mod Halving
pub mod Rising
-- the ends of marks are places
pub mod Ends
-- worked examples
mod MarkExamples
