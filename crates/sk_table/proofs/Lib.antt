pub mod Placing
pub mod Tables
pub mod Climbing
pub mod Goes
