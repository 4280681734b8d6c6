pub mod Marks
pub mod Trials
