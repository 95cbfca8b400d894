pub mod Headline
pub mod Steps
pub mod Programs
pub mod Beginnings
