pub mod Due
pub mod Claimed
pub mod Turns
