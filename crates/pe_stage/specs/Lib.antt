pub mod Errors
pub mod Stage
pub mod Words
