pub mod Disk
pub mod Calls
pub mod History
pub mod Memory
pub mod Files
pub mod Changes
pub mod Tearing
