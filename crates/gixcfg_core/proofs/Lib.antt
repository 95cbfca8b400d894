pub mod Accepting
mod LineLemmas
mod MessageLemmas
mod PlaceLemmas
mod WidthLemmas
mod Digits
mod PartLemmas
mod Choices
mod Told
mod Negated
mod CStringLemmas
mod Folding
mod PosixLemmas
mod UrlLemmas
mod CommentLemmas
pub mod Piecewise
pub mod Ending
