-- Worked rows: what definitions say of single calls, by computation.
mod Calls
