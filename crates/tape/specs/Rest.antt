-- How a tape goes on from block to block.
-- Assumes nothing.
use Rattle.std.specs.Prelude.{ℕ, ◌+◌, ◌-◌, ◌≤◌, Bool, true, false, Option, None, Some, Result, Ok, Err, ◌&&◌, ◌||◌, List, ◌≡◌, eqb, length, take}
use Rattle.seven_bit.specs.Parts.{part, put}
use Rattle.seven_bit.specs.Reply.{Reply, granted, refused}
use Rattle.pe_reassembler.specs.Feed.{Memory, memory}
use Rattle.pe_tape.specs.Play.{play_call}
use Rattle.tape.specs.declared.Failure.{Failure}
use Rattle.tape.specs.declared.Rooms.{Rooms}

-- What came lies in the block, behind the bytes that were there, and they are as they were.
abbrev pub Behind : List ℕ → ℕ → Result ℕ Failure → List ℕ → Type 0
Behind block have (Ok n) after = (have + n ≤ length block) × (take have after ≡ take have block)
Behind block have (Err e) after = Unit {0}

-- The bytes from one place up to another, at the block's front.
abbrev pub moved : List ℕ → ℕ → ℕ → List ℕ
moved block from to = put block 0 (part from (to - from) block)

-- "36 for an unknown command byte .. and the play stops", whatever is behind it; else the play is over where no more bytes come.
abbrev pub is_over : Reply ℕ → Bool → Bool
is_over (granted n) nothing_more = nothing_more
is_over (refused number value) nothing_more = nothing_more || eqb number 36

-- What is left to be played is all that was not, and it stands at the block's front.
abbrev pub Kept : List ℕ → ℕ → ℕ → Bool → Result (Option ℕ) Failure → List ℕ → Type 0
Kept block from to over (Ok (Some n)) after = (over ≡ false) × (n ≡ to - from) × (after ≡ moved block from to)
Kept block from to over (Ok None) after = (over ≡ true) × (after ≡ block)
Kept block from to over (Err e) after = after ≡ block

-- What the rooms hold.
abbrev pub memory_in : Rooms → Memory
memory_in r = memory r.numbers r.index r.headers r.arenas r.out_header r.out_body

-- A block's first bytes are played: table and lines are those of `play`, and nothing more comes where nothing came and nothing was played.
abbrev pub BlockPlayed : Memory → List ℕ → ℕ → Bool → List ℕ → Result (Option ℕ) Failure → Memory → List ℕ → List ℕ → Type 0
BlockPlayed m block len nothing_came out left m' block' out' =
    let p = play_call m (take len block) out in
    (m' ≡ p.memory) × (out' ≡ p.out) × Kept block p.next len (is_over p.stop (nothing_came && eqb p.next 0)) left block'
