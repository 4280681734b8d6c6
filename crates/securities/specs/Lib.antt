pub mod Securities
pub mod Cases
pub mod Lent
