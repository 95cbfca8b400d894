pub mod HomesLemmas
pub mod PathLemmas
pub mod TextLemmas
pub mod Boundaries
pub mod Numbers
pub mod Suffixes
