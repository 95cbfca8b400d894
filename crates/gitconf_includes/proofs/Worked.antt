-- Worked rows: what definitions say of single cases, by computation.
pub mod Rules
pub mod Paths
pub mod Conditions
pub mod Expansions
