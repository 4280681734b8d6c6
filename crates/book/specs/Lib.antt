pub mod Book
pub mod Loans
pub mod Soundness
pub mod Answered
