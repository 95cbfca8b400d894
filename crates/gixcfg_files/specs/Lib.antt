pub mod Acts
pub mod Ends
pub mod Faults
pub mod Paths
pub mod Replacing
