pub mod Layout
pub mod Setting
pub mod Kept
