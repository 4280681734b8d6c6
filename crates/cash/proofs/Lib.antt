pub mod Doubles
pub mod Theorem
pub mod Runs
pub mod Opened
pub mod Rows
