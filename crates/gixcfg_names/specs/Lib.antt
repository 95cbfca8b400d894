pub mod Findings
pub mod Known
pub mod Nearest
pub mod Rows
pub mod Values
pub mod Seen
