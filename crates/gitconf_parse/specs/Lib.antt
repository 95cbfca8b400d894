pub mod EventIters
pub mod Lookup
pub mod Met
pub mod Places
pub mod Walk
