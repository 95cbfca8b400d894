mod Ends
mod Logging
mod Runs
pub mod Untouched
mod Whole
