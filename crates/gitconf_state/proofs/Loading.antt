-- The state that a text's tokens make.
pub mod Tokens
pub mod Filters
pub mod Items
pub mod Left
pub mod Names
pub mod Clean
pub mod Document
