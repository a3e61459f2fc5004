pub mod Calls
pub mod Turns
pub mod Forward
pub mod Instance
