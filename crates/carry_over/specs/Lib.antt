pub mod CarriedOver
pub mod LendingForm
pub mod Statement
