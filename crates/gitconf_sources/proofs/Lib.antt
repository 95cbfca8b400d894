pub mod KeyLemmas
pub mod Worked
pub mod InMemoryLemmas
pub mod TakenBytes
pub mod PlaceLemmas
pub mod Everywhere
