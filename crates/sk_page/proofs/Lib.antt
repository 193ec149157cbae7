pub mod Again
pub mod Cut
mod PageExamples
