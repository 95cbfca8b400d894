-- The items of a section, edited in the table and the buffer.
pub mod Several
pub mod Deleting
pub mod Setting
pub mod Sets
pub mod Editing
pub mod Existing
pub mod Trusting
pub mod LeavingOut
pub mod ItemsEdits
pub mod Numbered
pub mod Refused
