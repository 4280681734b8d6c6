pub mod Parties
pub mod Theorem
