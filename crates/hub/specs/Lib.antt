pub mod Answers
pub mod Table
pub mod Files
pub mod Header
pub mod Chunks
pub mod Stage
