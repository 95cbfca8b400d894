pub mod Homes
pub mod Paths
pub mod Interpolated
pub mod Integers
