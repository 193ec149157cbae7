pub mod Taking
pub mod Maps
pub mod Views
pub mod Opened
pub mod Making
pub mod Owning
