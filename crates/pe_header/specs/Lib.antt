pub mod Find
pub mod Entries
pub mod Names
pub mod Members
