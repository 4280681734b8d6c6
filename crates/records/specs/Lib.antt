pub mod MessageRecords
pub mod Refusals
