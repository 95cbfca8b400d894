-- Files and their texts.
pub mod Parsed
pub mod ReadBack
