-- What edits do to a state, and what they leave.
pub mod Lists
pub mod Cuts
pub mod Items
pub mod Places
pub mod Values
pub mod KeyEntries
pub mod Others
pub mod Used
pub mod EditorItems
pub mod Keep
pub mod Numbers
pub mod Leaves
