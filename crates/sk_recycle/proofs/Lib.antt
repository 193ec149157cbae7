pub mod Horizons
pub mod Selections
pub mod SweepExamples
