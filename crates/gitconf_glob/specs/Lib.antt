pub mod Bracket
pub mod Counted
pub mod Pattern
pub mod Cursor
pub mod Rows
pub mod Shapes
pub mod Cells
pub mod Places
