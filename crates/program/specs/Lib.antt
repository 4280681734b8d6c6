pub mod Claimrun
pub mod Steps
pub mod Statement
