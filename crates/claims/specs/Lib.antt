pub mod Amounts
pub mod Fails
pub mod Close
pub mod Written
pub mod Passes
pub mod Claimable
pub mod Reached
pub mod Turns
