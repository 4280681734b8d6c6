pub mod Opened
pub mod Words
pub mod Judged
pub mod Rows
pub mod Causes
pub mod Posted
pub mod Pieces
pub mod Copied
