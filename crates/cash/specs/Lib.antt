pub mod Cash
pub mod Exact
pub mod Runs
