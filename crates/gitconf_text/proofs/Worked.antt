-- Worked rows: what definitions say of single cases, by computation.
pub mod Texts
pub mod Refused
pub mod Quotes
pub mod Typed
