pub mod Noted
pub mod Putting
pub mod Placing
pub mod Whole
-- worked examples
pub mod LedgerExamples
