-- Worked rows: what definitions say of single cases, by computation.
pub mod Index
