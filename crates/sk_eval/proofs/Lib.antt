-- sorts and values along the left side of an expression
pub mod Operations
pub mod Typed
pub mod Checked
pub mod Sound
