pub mod Chunk
pub mod Write
pub mod ChunkRef
