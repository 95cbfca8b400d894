pub mod Loading
pub mod Printing
pub mod Exact
pub mod Worked
pub mod Edits
pub mod Listings
