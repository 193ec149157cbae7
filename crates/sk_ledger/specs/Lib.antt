pub mod Ledger
pub mod Puts
pub mod Numbered
