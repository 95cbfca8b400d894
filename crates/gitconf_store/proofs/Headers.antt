-- Sections that are made and renamed.
pub mod Making
pub mod Renaming
pub mod Renamed
pub mod RenamingAll
pub mod HeaderBytes
