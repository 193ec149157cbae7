pub mod Chains
pub mod Scanning
pub mod Journaled
