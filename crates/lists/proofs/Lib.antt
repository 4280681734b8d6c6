pub mod Opened
pub mod Fields
pub mod First
