-- What writing a command uses: the bytes that its stores leave, and the definition's cases.
-- Assumes nothing.
use Prim.Native.Nat.{ℕ, ◌+◌, ◌%◌, ◌≤◌, ◌<◌}
use native.Mathlib.Omega.{arith}
use mathlib.Core.List.{List, [], ◌∷◌, ◌++◌}
use mathlib.Core.Path.{◌≡◌, refl, sym, ap, ap₂, ◌∙◌}
use borrow.Author.Tests.{le-leb, lt-leb}
use lib.Dec.{leb}
use lib.ListN.{length, get_or, set, length-set}
use Rattle.seven_bit.specs.Parts.{part, put, put_fit}
use Rattle.seven_bit.specs.Reply.{Reply, granted, refused, outcome, writing, ◌else◌then◌}
use Rattle.seven_bit.proofs.PartLaws.{length_part, put_front, fit_yes}
use Rattle.seven_bit.proofs.ReplyLaws.{wrote}
use Rattle.pe_frame.proofs.ChunkLaws.{fit_on}
use Rattle.pe_tape.specs.declared.command.FedChunk.{FedChunk}
use Rattle.pe_tape.specs.declared.command.Command.TheVariants.{Feed, Cancel, Drop, Poll}
use Rattle.pe_tape.specs.Number.{operand_bytes}
use Rattle.pe_tape.specs.Command.{Command, feed, write_command}
use Rattle.pe_tape.specs.Told.{write_call}
use Rattle.std.specs.Int.{bytes_low_first}
use Rattle.pe_tape.proofs.LineLaws.{put_front_byte}
use Rattle.pe_tape.proofs.NumberLaws.{operand_length}
use Rattle.pe_tape.proofs.OperandLaws.{bytes_are}

-- ---- any command
-- the output is too short
pub short : (n : ℕ) (bytes out : List ℕ) → length out < n → outcome (refused 3 0) out ≡ writing (leb n (length out) else 3 then granted bytes) out
short n bytes out h = rw (lt-leb n (length out) h)

-- the bytes are stored
pub stored : (n : ℕ) (bytes out after : List ℕ) → length bytes ≡ n → n ≤ length out → after ≡ put out 0 bytes
    → outcome (granted n) after ≡ writing (leb n (length out) else 3 then granted bytes) out
stored n bytes out after l h e =
    let room : length bytes ≤ length out = omega (arith, l, h) in
    rw (le-leb n (length out) h) (wrote bytes out after n l (e ∙ put_front out bytes room))

-- equal replies leave the same
pub asked : (out : List ℕ) {r q : Reply (List ℕ)} → r ≡ q → writing r out ≡ writing q out
asked out = ap (λ (r : Reply (List ℕ)). writing r out)

-- a byte and what stands behind it are stored
pub short_stored : (kind : ℕ) (operands out after : List ℕ) → 1 + length operands ≤ length out → after ≡ put_fit (set out 0 kind) 1 operands
    → after ≡ put out 0 (kind ∷ operands)
short_stored kind operands out after h e =
    let fits : 1 + length operands ≤ length (set out 0 kind) = omega (arith, h, length-set out 0 kind) in
    e ∙ fit_yes (set out 0 kind) 1 operands fits ∙ put_front_byte out 0 kind operands 1 refl

-- ---- a cancel, a drop and a poll ask only for the room
pub cancel_call : (peer request_id : ℕ) (source : List ℕ) (room : ℕ)
    → write_call (Cancel peer request_id) source room ≡ (leb 6 room else 3 then granted (2 ∷ (operand_bytes 4 peer ++ operand_bytes 1 request_id)))
unfolding write_call write_command operand_bytes
cancel_call peer request_id source room = refl

pub drop_call : (peer : ℕ) (source : List ℕ) (room : ℕ) → write_call (Drop peer) source room ≡ (leb 5 room else 3 then granted (3 ∷ operand_bytes 4 peer))
unfolding write_call write_command operand_bytes
drop_call peer source room = refl

pub poll_call : (now_ms : ℕ) (source : List ℕ) (room : ℕ) → write_call (Poll now_ms) source room ≡ (leb 9 room else 3 then granted (4 ∷ operand_bytes 8 now_ms))
unfolding write_call write_command operand_bytes
poll_call now_ms source room = refl

-- one operand's bytes
pub short_call : (kind width : ℕ) (bs : List ℕ) (n room : ℕ) → bs ≡ operand_bytes width n
    → (leb (1 + length bs) room else 3 then granted (kind ∷ bs)) ≡ (leb (1 + width) room else 3 then granted (kind ∷ operand_bytes width n))
short_call kind width bs n room e =
    ap (λ (l : List ℕ). leb (1 + length l) room else 3 then granted (kind ∷ l)) e
    ∙ ap (λ (k : ℕ). leb (1 + k) room else 3 then granted (kind ∷ operand_bytes width n)) (operand_length width n)

-- a cancel's bytes
pub cancel_bytes : (peer request_id : ℕ) (bs : List ℕ) → bs ≡ bytes_low_first 0 4 peer → request_id < 256
    → 2 ∷ get_or bs 0 0 ∷ get_or bs 1 0 ∷ get_or bs 2 0 ∷ get_or bs 3 0 ∷ request_id ∷ [] ≡ 2 ∷ (operand_bytes 4 peer ++ operand_bytes 1 request_id)
unfolding operand_bytes
cancel_bytes peer request_id bs e h =
    let one : request_id ≡ request_id % 256 = omega (arith, h) in
    ap (λ (l : List ℕ). 2 ∷ get_or l 0 0 ∷ get_or l 1 0 ∷ get_or l 2 0 ∷ get_or l 3 0 ∷ request_id ∷ []) e
    ∙ ap₂ (λ (l : List ℕ) (n : ℕ). 2 ∷ (l ++ (n ∷ []))) (bytes_are 4 peer) one

-- ---- a feed
abbrev pub feed_of : FedChunk → List ℕ → Command
feed_of f source = feed f.peer f.now_ms (part f.chunk_at f.chunk_len source)

feed_length : (peer now_ms : ℕ) (chunk : List ℕ) → length (write_command (feed peer now_ms chunk)) ≡ 15 + length chunk
unfolding write_command operand_bytes
feed_length peer now_ms chunk = omega arith

feed_bytes : (f : FedChunk) (source : List ℕ) → f.chunk_at + f.chunk_len ≤ length source
    → length (write_command (feed_of f source)) ≡ 15 + f.chunk_len
feed_bytes f source h =
    feed_length f.peer f.now_ms (part f.chunk_at f.chunk_len source)
    ∙ ap (λ (n : ℕ). 15 + n) (length_part f.chunk_at f.chunk_len source h)

-- its chunk lies outside of the source
pub feed_outside : (f : FedChunk) (source out : List ℕ) → length source < f.chunk_at + f.chunk_len
    → outcome (refused 30 0) out ≡ writing (write_call (Feed f) source (length out)) out
unfolding write_call
feed_outside f source out h = rw (lt-leb (f.chunk_at + f.chunk_len) (length source) h)

-- it is too long
pub feed_long : (f : FedChunk) (source out : List ℕ) → f.chunk_at + f.chunk_len ≤ length source → 65535 < f.chunk_len
    → outcome (refused 1 0) out ≡ writing (write_call (Feed f) source (length out)) out
unfolding write_call
feed_long f source out h k = rw (le-leb (f.chunk_at + f.chunk_len) (length source) h, lt-leb f.chunk_len 65535 k)

-- it is neither: the room is left to ask for
pub feed_call : (f : FedChunk) (source : List ℕ) (room : ℕ) → f.chunk_at + f.chunk_len ≤ length source → f.chunk_len ≤ 65535
    → write_call (Feed f) source room ≡ (leb (15 + f.chunk_len) room else 3 then granted (write_command (feed_of f source)))
unfolding write_call
feed_call f source room h k =
    rw (le-leb (f.chunk_at + f.chunk_len) (length source) h, le-leb f.chunk_len 65535 k, feed_bytes f source h)

-- what its stores leave
pub feed_stored : (out first second third after chunk : List ℕ) (peer now_ms n : ℕ) → length chunk ≡ n → 15 + n ≤ length out
    → first ≡ put_fit (set out 0 1) 1 (bytes_low_first 0 4 peer) → second ≡ put_fit first 5 (bytes_low_first 0 8 now_ms)
    → third ≡ put_fit second 13 (bytes_low_first 0 2 n) → after ≡ put_fit third 15 chunk → after ≡ put out 0 (write_command (feed peer now_ms chunk))
unfolding write_command operand_bytes
feed_stored out first second third after chunk peer now_ms n l h e f g i =
    let front : List ℕ = 1 ∷ operand_bytes 4 peer in
    let timed : List ℕ = front ++ operand_bytes 8 now_ms in
    let kind : first ≡ put out 0 front =
    short_stored 1 (operand_bytes 4 peer) out first (omega (arith, h)) (e ∙ ap (put_fit (set out 0 1) 1) (bytes_are 4 peer)) in
    let time : second ≡ put out 0 timed =
    f ∙ ap (put_fit first 5) (bytes_are 8 now_ms) ∙ fit_on out first front (operand_bytes 8 now_ms) 0 5 kind refl (omega (arith, h)) in
    let count : third ≡ put out 0 (timed ++ operand_bytes 2 (length chunk)) =
    g ∙ ap (put_fit second 13) (bytes_are 2 n ∙ ap (operand_bytes 2) (sym l))
    ∙ fit_on out second timed (operand_bytes 2 (length chunk)) 0 13 time refl (omega (arith, h)) in
    i ∙ fit_on out third (timed ++ operand_bytes 2 (length chunk)) chunk 0 15 count refl (omega (arith, l, h))

-- the output is too short, or has it
pub feed_short : (f : FedChunk) (source out : List ℕ) → f.chunk_at + f.chunk_len ≤ length source → f.chunk_len ≤ 65535
    → length out < 15 + f.chunk_len → outcome (refused 3 0) out ≡ writing (write_call (Feed f) source (length out)) out
feed_short f source out h k r = short (15 + f.chunk_len) (write_command (feed_of f source)) out r ∙ asked out (sym (feed_call f source (length out) h k))

pub feed_written : (f : FedChunk) (source out after : List ℕ) → f.chunk_at + f.chunk_len ≤ length source → f.chunk_len ≤ 65535
    → 15 + f.chunk_len ≤ length out → after ≡ put out 0 (write_command (feed_of f source))
    → outcome (granted (15 + f.chunk_len)) after ≡ writing (write_call (Feed f) source (length out)) out
feed_written f source out after h k r e =
    stored (15 + f.chunk_len) (write_command (feed_of f source)) out after (feed_bytes f source h) r e
    ∙ asked out (sym (feed_call f source (length out) h k))
