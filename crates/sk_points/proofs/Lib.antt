-- partitions, and a point behind the others
pub mod Shapes
pub mod Adding
-- what is looked for among the live points
pub mod Searching
pub mod Picking
-- the state that it stands for, call by call
pub mod Settled
pub mod Calls
