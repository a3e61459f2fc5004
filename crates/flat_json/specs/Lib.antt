pub mod Abnf
pub mod Grammar
pub mod Table
pub mod Tree
pub mod Parse
