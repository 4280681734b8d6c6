pub mod Days
pub mod Weekdays
pub mod MemoDay
