pub mod Answers
pub mod Slot
