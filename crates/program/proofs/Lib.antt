pub mod Opened
pub mod Flags
pub mod Steps
pub mod Theorem
pub mod Coded
pub mod Loop
pub mod Rows
