pub mod Chained
pub mod Reading
pub mod Writing
pub mod Changing
pub mod Promise
pub mod Runs
pub mod Noting
pub mod Applying
