pub mod Calls
pub mod Changes
pub mod Disk
pub mod Edit
pub mod Logged
pub mod Steps
