pub mod Casts
pub mod Summing
pub mod Answers
