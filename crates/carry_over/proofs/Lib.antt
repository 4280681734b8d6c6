pub mod Carried
pub mod Zeros
pub mod Widened
pub mod Lists
pub mod BothSides
pub mod Opened
pub mod Rows
