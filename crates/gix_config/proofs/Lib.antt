pub mod Integers
pub mod Conversions
pub mod Numbers
pub mod Entries
pub mod Repositories
pub mod ValueEditors
pub mod MultiValueEditors
pub mod Standing
