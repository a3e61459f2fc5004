pub mod CutLaws
pub mod PieceLaws
pub mod AskLaws
pub mod ChunkLaws
pub mod SplitLaws
pub mod Theorems
