pub mod RowState
pub mod Entries
pub mod Versions
pub mod Fitting
