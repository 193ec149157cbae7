pub mod Front
pub mod Laws
pub mod Marks
pub mod Scanning
pub mod Spans
pub mod Spelling
