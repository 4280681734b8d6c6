pub mod Stream
pub mod Serving
pub mod Statement
pub mod ServedRuns
