pub mod Opened
pub mod Lengths
pub mod Parts
pub mod Bits
pub mod Months
pub mod OpenDays
pub mod HalfYear
pub mod Rows
