-- Texts that are printed byte for byte.
pub mod Ends
pub mod Items
pub mod LineEnds
pub mod Bodies
pub mod Printing
