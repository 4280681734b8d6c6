pub mod Forms
pub mod OwnBook
pub mod Readings
