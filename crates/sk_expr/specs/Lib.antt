pub mod Changed
pub mod Concerns
pub mod Extended
pub mod Placing
pub mod Shapes
pub mod Telling
