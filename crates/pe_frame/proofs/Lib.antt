pub mod ResultLaws
pub mod LowLaws
pub mod FieldLaws
pub mod ChunkLaws
pub mod MessageLaws
pub mod RoundTrip
