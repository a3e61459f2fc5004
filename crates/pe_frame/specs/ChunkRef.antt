-- A chunk that refers to the caller's bytes (document 01: "`PeChunkRef` stays a struct that refers to the caller's frame for
-- header and property; first the same reading is done over a slice and offsets").
-- Assumes nothing.
use Rattle.pe_frame.specs.declared.chunk_ref.PeChunkRef.{PeChunkRef}
use Rattle.pe_frame.specs.Chunk.{Chunk, chunk_from}

-- The chunk that the struct stands for.
abbrev pub chunk_in : PeChunkRef → Chunk
chunk_in c = chunk_from c.request_id c.header.now c.num_chunks c.chunk_num c.property.now
