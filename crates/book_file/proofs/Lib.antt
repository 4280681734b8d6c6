pub mod Opened
pub mod Words
pub mod Rows
