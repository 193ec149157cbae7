-- the shape of a condition
pub mod Sides
-- the rows that can matter, and what a statement comes to over them
pub mod Extensions
pub mod Taking
pub mod Naming
pub mod Concerning
-- the replayer
pub mod Tables
pub mod Placing
pub mod Telling
