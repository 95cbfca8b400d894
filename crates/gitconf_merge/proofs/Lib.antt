pub mod Searches
pub mod Ranges
pub mod Among
pub mod Merges
pub mod ConflictKeys
pub mod UnionLemmas
pub mod Swaps
