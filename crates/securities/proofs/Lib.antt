pub mod Opened
pub mod Sound
pub mod Rows
pub mod LentRows
pub mod Checks
