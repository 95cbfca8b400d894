-- The printed text of a state: its parts, and what reads back.
pub mod InsertingTexts
pub mod InsertingLineEnds
pub mod Written
pub mod LastLines
pub mod Follows
pub mod Fitted
pub mod FittedComment
pub mod FittedEntry
pub mod Apart
pub mod PrintedItem
pub mod PrintedApart
pub mod SectionsApart
pub mod PrintedDocument
pub mod ReadsBack
