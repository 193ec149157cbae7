-- numbers, keywords, names and the bytes of words: theory for others too
pub mod Amounts
pub mod Keywords
pub mod Words
pub mod Named
-- tokens one behind the other, and a scan that ends before a place
pub mod Spans
pub mod Scans
pub mod Begun
-- what stands at the front of some bytes, and that it is read as it was printed
pub mod Written
pub mod Lexed
-- tokens are of bytes that may be printed
pub mod Printable
