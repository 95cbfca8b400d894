pub mod Keys
pub mod Merging
pub mod Changes
pub mod Conflicts
pub mod Inputs
pub mod Texts
pub mod Unions
