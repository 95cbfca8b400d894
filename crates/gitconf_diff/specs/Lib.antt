pub mod PlainSettings
pub mod PlainSections
pub mod Settings
pub mod Differences
