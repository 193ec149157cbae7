pub mod Rows
pub mod Stands
pub mod Counts
pub mod Engines
pub mod Permits
pub mod Recording
