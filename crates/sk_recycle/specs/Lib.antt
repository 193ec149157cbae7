pub mod Sweeping
pub mod SweepLaws
