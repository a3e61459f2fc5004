-- What a table's lent memory stands for: records in place, each with its four cells, and the calls on that value.
-- Assumes nothing.
use Prim.Native.Nat.{ℕ, zero, suc, ◌+◌, ◌-◌}
use mathlib.Core.Bool.{Bool, true, false, cond, not, ◌&&◌, ◌||◌}
use mathlib.Core.List.{List, [], ◌∷◌, ◌++◌, map}
use mathlib.Core.Option.{Option, none, some}
use Rattle.std.specs.Prelude.{Option as SearchResult, Some, None}
use lib.Dec.{leb, eqb}
use lib.ListN.{get_or, set}
use Rattle.seven_bit.specs.Reply.{Reply, refused}
use Rattle.pe_frame.specs.Chunk.{Chunk}
use Rattle.pe_slot.specs.Layout.{active_at, request_id_at, last_activity_at, lru_tick_at}
use Rattle.pe_slot.specs.Slot.{Event}
use Rattle.pe_slot.specs.Memory.{slot_of, contents}
use Rattle.pe_reassembler.specs.declared.shape.Shape.{Shape}
use Rattle.pe_reassembler.specs.Table.{peer_at, is_bound, or_else}
use Rattle.pe_reassembler.specs.Feed.{words_part, room_part, next_tick}
use Rattle.pe_run.specs.Lists.{tally}
use Rattle.pe_run.specs.Model.{Open, Model, is_none, entry_of, touched_at, Judged, judged}
use Rattle.pe_run.specs.Run.{Table}

pub record Cell : Type 0 where
  pub request_id : ℕ
  pub state : Option Open

pub record Rec : Type 0 where
  pub bound : Bool
  pub muid : ℕ
  pub cells : List Cell

pub record Value : Type 0 where
  pub clock : ℕ
  pub recs : List Rec

-- ---- what memory stands for
unfoldable pub cell_of : List ℕ → List ℕ → List ℕ → List ℕ → Cell
cell_of words index header arena =
    record {
      request_id = get_or words request_id_at 0;
      state = cond (eqb (get_or words active_at 0) 0) none
          (some (record { time = get_or words last_activity_at 0; tick = get_or words lru_tick_at 0; slot = contents (slot_of words) index header arena }));
    }

unfoldable pub cell_at : Shape → Table → ℕ → ℕ → Cell
cell_at shape t p s =
    cell_of (words_part t.numbers p s) (room_part shape.fragment_records t.index p s) (room_part shape.header_bytes t.headers p s)
    (room_part shape.tx_bytes t.arenas p s)

unfoldable pub rec_at : Shape → Table → ℕ → Rec
rec_at shape t p =
    record {
      bound = is_bound t.numbers p;
      muid = get_or t.numbers (peer_at p + 1) 0;
      cells = cell_at shape t p 0 ∷ cell_at shape t p 1 ∷ cell_at shape t p 2 ∷ cell_at shape t p 3 ∷ [];
    }

unfoldable pub recs_from : Shape → Table → ℕ → ℕ → List Rec
recs_from shape t p zero = []
recs_from shape t p (suc k) = rec_at shape t p ∷ recs_from shape t (suc p) k

unfoldable pub value_of : Shape → Table → Value
value_of shape t = record { clock = get_or t.numbers 0 0; recs = recs_from shape t 0 shape.max_peers }

-- ---- what `new` makes
abbrev pub no_cell : Cell
no_cell = record { request_id = 0; state = none }

abbrev pub no_rec : Rec
no_rec = record { bound = false; muid = 0x0FFFFFFF; cells = no_cell ∷ no_cell ∷ no_cell ∷ no_cell ∷ [] }

-- ---- the first place whose element a test takes, as the code's searches tell it
abbrev pub Place : Type 0
Place = SearchResult ℕ

abbrev pub up : Place → Place
up None = None
up (Some i) = Some (suc i)

abbrev pub place : {A : Type 0} → (A → Bool) → List A → Place
place test [] = None
place test (x ∷ xs) = cond (test x) (Some 0) (up (place test xs))

abbrev pub every : {A : Type 0} → (A → Bool) → List A → Bool
every test [] = true
every test (x ∷ xs) = test x && every test xs

abbrev pub is_free : Cell → Bool
is_free c = is_none c.state

abbrev pub has_id : ℕ → Cell → Bool
has_id request_id c = not (is_free c) && eqb request_id c.request_id

abbrev pub is_own : ℕ → Rec → Bool
is_own peer r = r.bound && eqb peer r.muid

abbrev pub is_unbound : Rec → Bool
is_unbound r = not r.bound

abbrev pub is_idle : Rec → Bool
is_idle r = every is_free r.cells

-- the record bound to it, else the first unbound, else the first with nothing open
abbrev pub choose : ℕ → List Rec → Place
choose peer recs = or_else (place (is_own peer) recs) (or_else (place is_unbound recs) (place is_idle recs))

-- the cell open with the id, else the first free one
abbrev pub choose_cell : ℕ → List Cell → Place
choose_cell request_id cells = or_else (place (has_id request_id) cells) (place is_free cells)

-- ---- what is open, by place
abbrev pub cell_open : ℕ → Cell → Model
cell_open peer c = entry_of peer c.request_id c.state

abbrev pub cells_open : ℕ → List Cell → Model
cells_open peer [] = []
cells_open peer (c ∷ cells) = cell_open peer c ++ cells_open peer cells

abbrev pub recs_open : List Rec → Model
recs_open [] = []
recs_open (r ∷ recs) = cells_open r.muid r.cells ++ recs_open recs

abbrev pub opens : Value → Model
opens v = recs_open v.recs

-- ---- a chunk
pub record Taken : Type 0 where
  pub value : Value
  pub answer : Reply Event

-- a cell with what is left open in it; closed, its id is 0
abbrev pub cell_with : ℕ → Option Open → Cell
cell_with request_id none = no_cell
cell_with request_id (some o) = record { request_id = request_id; state = some o }

unfoldable pub take_cell : Shape → Value → ℕ → Chunk → ℕ → ℕ → Rec → ℕ → Taken
take_cell shape v peer c now_ms p r s =
    let j : Judged = judged shape (touched_at (get_or r.cells s no_cell).state now_ms (next_tick v.clock)) c in
    record {
      value = record {
        clock = next_tick v.clock;
        recs = set v.recs p (record { bound = true; muid = peer; cells = set r.cells s (cell_with c.request_id j.left) });
      };
      answer = j.answer;
    }

unfoldable pub take_rec : Shape → Value → ℕ → Chunk → ℕ → ℕ → Rec → Place → Taken
take_rec shape v peer c now_ms p r None = record { value = v; answer = refused 6 0 }
take_rec shape v peer c now_ms p r (Some s) = take_cell shape v peer c now_ms p r s

unfoldable pub take_at : Shape → Value → ℕ → Chunk → ℕ → Place → Taken
take_at shape v peer c now_ms None = record { value = v; answer = refused 7 0 }
take_at shape v peer c now_ms (Some p) = let r = get_or v.recs p no_rec in take_rec shape v peer c now_ms p r (choose_cell c.request_id r.cells)

unfoldable pub takes : Shape → Value → ℕ → Chunk → ℕ → Taken
takes shape v peer c now_ms = take_at shape v peer c now_ms (choose peer v.recs)

-- ---- the calls that close
-- closed: nothing of what a cell was stays that an answer shows
abbrev pub shut : Cell → Cell
shut c = no_cell

abbrev pub with_cells : Rec → List Cell → Rec
with_cells r cells = record { bound = r.bound; muid = r.muid; cells = cells }

abbrev pub with_recs : Value → List Rec → Value
with_recs v recs = record { clock = v.clock; recs = recs }

-- the first element that a test takes is changed
abbrev pub on_first : {A : Type 0} → (A → Bool) → (A → A) → List A → List A
on_first test g [] = []
on_first test g (x ∷ xs) = cond (test x) (g x ∷ xs) (x ∷ on_first test g xs)

unfoldable pub cancelled : Value → ℕ → ℕ → Value
cancelled v peer request_id = with_recs v (on_first (is_own peer) (λ (r : Rec). with_cells r (on_first (has_id request_id) shut r.cells)) v.recs)

abbrev pub shut_open : Cell → Cell
shut_open c = cond (is_free c) c (shut c)

abbrev pub drop_rec : Rec → Rec
drop_rec r = record { bound = false; muid = r.muid; cells = map shut_open r.cells }

unfoldable pub dropped : Value → ℕ → Value
dropped v peer = with_recs v (on_first (is_own peer) drop_rec v.recs)

abbrev pub late_state : ℕ → Option Open → Bool
late_state now_ms none = false
late_state now_ms (some o) = leb 3000 (now_ms - o.time)

abbrev pub poll_cell : ℕ → Cell → Cell
poll_cell now_ms c = cond (late_state now_ms c.state) (shut c) c

abbrev pub poll_rec : ℕ → Rec → Rec
poll_rec now_ms r = with_cells r (map (poll_cell now_ms) r.cells)

unfoldable pub polled : Value → ℕ → Value
polled v now_ms = with_recs v (map (poll_rec now_ms) v.recs)

-- ---- what the calls that close answer
abbrev pub some_cell : (Cell → Bool) → List Cell → Bool
some_cell p [] = false
some_cell p (c ∷ cs) = p c || some_cell p cs

-- was the id open in the peer's own record?
abbrev pub cancels : ℕ → ℕ → List Rec → Bool
cancels peer id [] = false
cancels peer id (r ∷ recs) = cond (is_own peer r) (some_cell (has_id id) r.cells) (cancels peer id recs)

-- how many were open there?
abbrev pub drops : ℕ → List Rec → ℕ
drops peer [] = 0
drops peer (r ∷ recs) = cond (is_own peer r) (tally (λ (c : Cell). not (is_free c)) r.cells) (drops peer recs)
