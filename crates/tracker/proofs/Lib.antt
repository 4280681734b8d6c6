pub mod Forms
pub mod Readings
