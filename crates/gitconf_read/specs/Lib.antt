pub mod Compact
pub mod Reading
pub mod Parsing
pub mod ParseError
pub mod ParseCause
pub mod EventResult
pub mod Stretches
pub mod ItemReading
