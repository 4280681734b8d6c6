pub mod Numbers
pub mod Stored
pub mod Words
pub mod Sound
pub mod Turns
pub mod Theorem
pub mod Opened
pub mod Rows
