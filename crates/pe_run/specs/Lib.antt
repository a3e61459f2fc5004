pub mod Lists
pub mod Model
pub mod Calls
pub mod Run
pub mod Demand
pub mod Instance
