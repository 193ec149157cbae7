-- cells of pages, and the bytes of rows
pub mod Lengths
pub mod Changing
pub mod Moving
-- what is read of a row, of a table and of all rows
pub mod Readings
pub mod Tables
pub mod Scans
-- a write, an end and a purge of one row
pub mod Pushes
pub mod Acts
-- one row's change among all rows
pub mod Mapping
pub mod Lifting
pub mod Serving
-- an engine that begins, and one that stands for some table
pub mod Beginning
pub mod Opening
pub mod InUse
-- worked examples
mod CellExamples
