-- Where sections are: by their names, by their numbers, and along walks.
pub mod Named
pub mod NamedSections
pub mod Numbering
pub mod Targets
pub mod PassingPlaces
