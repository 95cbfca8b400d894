pub mod Texts
pub mod Places
pub mod Edits
pub mod Headers
pub mod Files
