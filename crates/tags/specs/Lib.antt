pub mod ContractDateTag
pub mod Quick
