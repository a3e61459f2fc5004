use mathlib.Core.Path.{◌≡◌, sym, ap, ◌∙◌}
use Prim.Native.Nat.{◌+◌, ◌≤◌}
use lib.ListN.{length}
use native.Mathlib.Omega.{arith}
use borrow.Author.Rules.{rules}
use Rattle.pe_wire.specs.Errors.{pe_told}
use Rattle.pe_frame.specs.Chunk.{Fields, fields_of}
use Rattle.pe_frame.proofs.RoundTrip.{ReadFrom, read_told}
use Rattle.pe_frame.proofs.chunk_ref.PeChunkRef.decode.Goals as goal
use Rattle.pe_frame.proofs.chunk_ref.PeChunkRef.decode.Goals.{In_ok-fields}

-- the fields are those of the bytes, so that header and property lie within them
read : (c : In_ok-fields) → ReadFrom c.args.«data».now (fields_of c.in_ok-fields.fields)
read c = read_told _ _ (sym c.decode_fields.ensures ∙ ap (pe_told fields_of) c.in_ok-fields.was)

pub overflow_add-result : goal.overflow_add-result
overflow_add-result c = let r = read (goal.at.overflow_add-result c).In_ok-fields in search (rules, r.long)

pub slice_bounds-result-end : goal.slice_bounds-result-end
slice_bounds-result-end c = let r = read (goal.at.slice_bounds-result-end c).In_ok-fields in search (rules, r.long)

pub overflow_add-result-2 : goal.overflow_add-result-2
overflow_add-result-2 c = let r = read (goal.at.overflow_add-result-2 c).In_ok-fields in search (rules, r.long, r.at)

pub slice_bounds-result-end-2 : goal.slice_bounds-result-end-2
slice_bounds-result-end-2 c = let r = read (goal.at.slice_bounds-result-end-2 c).In_ok-fields in search (rules, r.long, r.at)
