-- Whole files: put after others, woven, copied.
pub mod Cloning
pub mod Appending
pub mod AppendedFiles
pub mod Appended
pub mod Woven
