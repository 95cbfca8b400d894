pub mod LineEnds
pub mod Open
pub mod Texts
pub mod Runs
