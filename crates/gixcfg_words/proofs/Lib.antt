mod Behind
mod Calls
mod Counts
mod Letters
mod Worked
