-- Worked rows: what definitions say of single cases, by computation.
pub mod Printing
pub mod Edits
pub mod Editors
