-- Worked rows: what definitions say of single cases, by computation.
pub mod Keys
pub mod Places
