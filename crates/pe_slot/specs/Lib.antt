pub mod Layout
pub mod Slot
pub mod Memory
pub mod Feed
pub mod Records
pub mod Meta
pub mod Order
pub mod Steps
