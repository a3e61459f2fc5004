-- Delivery on the model: a list whose chunks arrive, in any order and among any other calls, is handed out with the last of them.
-- Assumes nothing.
use Prim.Native.Nat.{ℕ}
use mathlib.Core.Bool.{true, false, ◌||◌, or-true}
use mathlib.Core.List.{List, [], ◌∷◌, ◌++◌, map, append_assoc}
use mathlib.Core.Logic.{◌⊎◌, inl, inr}
use mathlib.Core.Option.{none, some}
use mathlib.Core.Path.{◌≡◌, refl, sym, ap, ap₂, subst, ◌∙◌}
use lib.Dec.{eqb}
use lib.ListN.{length}
use Rattle.seven_bit.specs.Reply.{Reply, granted}
use Rattle.seven_bit.proofs.ReplyLaws.{both}
use Rattle.pe_frame.specs.Chunk.{Chunk}
use Rattle.pe_slot.specs.Slot.{Event, waiting, whole}
use Rattle.pe_slot.specs.Feed.{told_answer, header_out, body_out}
use Rattle.pe_chunker.specs.Cut.{body_pieces}
use Rattle.pe_reassembler.specs.Feed.{next_tick}
use Rattle.pe_reassembler.specs.declared.shape.Shape.{Shape}
use Rattle.pe_run.specs.Lists.{Perm}
use Rattle.pe_run.specs.Model.{Clocked, find, judged, Arrived, arrived, arrives, acted}
use Rattle.pe_run.specs.Calls.{Call, Answer, fed, Arrival, act_of, Right, AllRight}
use Rattle.pe_run.specs.Demand.{full_size, is_ours, ours, answers_to, delivered, Room, Spared, Delivery}
use Rattle.pe_run.proofs.ListLaws.{eqb_self}
use Rattle.pe_run.proofs.PermLaws.{perm_sym, perm_map}
use Rattle.pe_run.proofs.Chunks.{Good, perm_good, chunk_in, cut_good}
use Rattle.pe_run.proofs.Arrive.{arrive_open, arrive_new, find_arrived, find_acted}
use Rattle.pe_run.proofs.Taken.{open_at, judged_to, settled, slot_with, judged_good, settled_wait, settled_last}
use Rattle.pe_run.proofs.Carried.{carried, bytes_carried, act_arrives, answer_arrives, Carrying, ours_told, ours_other, peer_is, id_is, ours_first, spared_first, act_other, none_ours}

module _ (n peer request_id m : ℕ) (header body : List ℕ) where
  abbrev full : Shape
  full = full_size n

  abbrev mine : List Call → List Arrival
  mine calls = ours full peer request_id calls

  -- From any model in which the slot holds the chunks that have come, the rest are answered as they should be.
  abbrev Story : List Call → Type 0
  Story calls = (b : Clocked) (held : List Chunk) (last tick : ℕ) (told : List Answer)
      → Good header body m (held ++ carried (mine calls))
      → find peer request_id b.model ≡ some (open_at last tick (slot_with header m held))
      → Spared peer request_id last (map (act_of full) calls)
      → AllRight full b calls told
      → answers_to full peer request_id calls told ≡ delivered header body (mine calls)

  abbrev tells : Reply Event → Arrival → Answer
  tells answer a = fed (told_answer answer) (header_out answer a.out_header) (body_out answer a.out_body)

  -- one of ours, at a slot that holds what has come
  module _ (calls : List Call) (b : Clocked) (held : List Chunk) (c : Call) (k : Carrying full peer request_id c) (count : ℕ) (told : Answer)
      (more : List Answer)
      (g : Good header body m (held ++ k.arrival.chunk ∷ carried (mine calls)))
      (known : (eqb count 0 || eqb count m) ≡ true)
      (here : arrives full b k.arrival.peer k.arrival.chunk k.arrival.time
      ≡ arrived peer request_id b (judged full (open_at k.arrival.time (next_tick b.clock) (slot_with header count held)) k.arrival.chunk))
      (spared : Spared peer request_id k.arrival.time (map (act_of full) calls))
      (right : Right full b c told) (rest_right : AllRight full (acted full b (act_of full c)) calls more) (story : Story calls) where
    abbrev chunk : Chunk
    chunk = k.arrival.chunk

    abbrev time : ℕ
    time = k.arrival.time

    abbrev tick : ℕ
    tick = next_tick b.clock

    abbrev now : Arrived
    now = arrives full b k.arrival.peer chunk time

    now_is : now ≡ arrived peer request_id b (settled time tick (slot_with header m (held ++ (chunk ∷ []))))
    now_is = here ∙ ap (arrived peer request_id b) (judged_good held chunk (carried (mine calls)) g n time tick count known)

    told_is : (answer : Reply Event) → now.answer ≡ answer → told ≡ tells answer k.arrival
    told_is answer e = answer_arrives full b c k.arrival told k.arrives right ∙ ap (λ (r : Reply Event). tells r k.arrival) e

    on : acted full b (act_of full c) ≡ now.left
    on = ap (acted full b) (act_arrives full c k.arrival k.arrives)

    good_on : Good header body m (held ++ (chunk ∷ []) ++ carried (mine calls))
    good_on = subst (Good header body m) (sym (append_assoc held (chunk ∷ []) (carried (mine calls)))) g

    taken : told ∷ answers_to full peer request_id calls more ≡ delivered header body (k.arrival ∷ mine calls)
    taken = go (mine calls) refl
      where
        go : (ds : List Arrival) → mine calls ≡ ds → told ∷ answers_to full peer request_id calls more ≡ delivered header body (k.arrival ∷ ds)
        go [] w =
            ap₂ (λ (a : Answer) (l : List Answer). a ∷ l) (told_is (granted (whole header body)) (ap (λ (r : Arrived). r.answer) ended))
            (none_ours full peer request_id calls more w)
          where
            all : Good header body m (held ++ (chunk ∷ []))
            all = subst (λ (l : List Arrival). Good header body m (held ++ chunk ∷ carried l)) w g

            ended : now ≡ arrived peer request_id b (judged_to none (whole header body))
            ended = now_is ∙ ap (arrived peer request_id b) (settled_last time tick all)
        go (d ∷ ds) w =
            ap₂ (λ (a : Answer) (l : List Answer). a ∷ l) (told_is (granted waiting) (ap (λ (r : Arrived). r.answer) open'))
            (story now.left (held ++ (chunk ∷ [])) time tick more good_on found spared (subst (λ (x : Clocked). AllRight full x calls more) on rest_right)
            ∙ ap (delivered header body) w)
          where
            still_one : Good header body m (held ++ (chunk ∷ []) ++ d.chunk ∷ carried ds)
            still_one = subst (λ (l : List Arrival). Good header body m (held ++ (chunk ∷ []) ++ carried l)) w good_on

            open' : now ≡ arrived peer request_id b (judged_to (some (open_at time tick (slot_with header m (held ++ (chunk ∷ []))))) waiting)
            open' = now_is ∙ ap (arrived peer request_id b) (settled_wait (held ++ (chunk ∷ [])) d.chunk (carried ds) still_one time tick)

            found : find peer request_id now.left.model ≡ some (open_at time tick (slot_with header m (held ++ (chunk ∷ []))))
            found =
                ap (λ (r : Arrived). find peer request_id r.left.model) open'
                ∙ find_arrived peer request_id b.model (open_at time tick (slot_with header m (held ++ (chunk ∷ []))))

  story : (calls : List Call) → Story calls
  story [] b held last tick told g f s r = refl
  story (c ∷ calls) b held last tick [] g f s r = absurd r
  story (c ∷ calls) b held last tick (a ∷ told) g f s r = go (both (is_ours full peer request_id c)) (story calls)
    where
      go : (is_ours full peer request_id c ≡ true) ⊎ (is_ours full peer request_id c ≡ false) → Story calls
          → answers_to full peer request_id (c ∷ calls) (a ∷ told) ≡ delivered header body (mine (c ∷ calls))
      go (inl u) ih =
          rw u (taken calls b held c k m a told
          (subst (λ (l : List Arrival). Good header body m (held ++ carried l)) (ours_first full peer request_id c k calls) g)
          (rw (eqb_self m) (or-true (eqb m 0))) here (spared_first full peer request_id c k (map (act_of full) calls) last s) r.0 r.1 ih)
          ∙ ap (delivered header body) (sym (ours_first full peer request_id c k calls))
        where
          k : Carrying full peer request_id c
          k = ours_told full peer request_id c u

          found : find k.arrival.peer k.arrival.chunk.request_id b.model ≡ some (open_at last tick (slot_with header m held))
          found = ap₂ (λ (p i : ℕ). find p i b.model) (sym (peer_is full peer request_id c k)) (sym (id_is full peer request_id c k)) ∙ f

          here : arrives full b k.arrival.peer k.arrival.chunk k.arrival.time
              ≡ arrived peer request_id b (judged full (open_at k.arrival.time (next_tick b.clock) (slot_with header m held)) k.arrival.chunk)
          here =
              arrive_open full k.arrival.peer b (open_at last tick (slot_with header m held)) k.arrival.chunk k.arrival.time found
              ∙ ap₂ (λ (p i : ℕ). arrived p i b (judged full (open_at k.arrival.time (next_tick b.clock) (slot_with header m held)) k.arrival.chunk))
              (sym (peer_is full peer request_id c k)) (sym (id_is full peer request_id c k))
      go (inr u) ih =
          let p = find_acted peer request_id b (open_at last tick (slot_with header m held)) f full (act_of full c) (map (act_of full) calls)
          (act_other full peer request_id c u) s in
          let q = ours_other full peer request_id c calls u in
          rw u (ih (acted full b (act_of full c)) held last tick told
          (subst (λ (l : List Arrival). Good header body m (held ++ carried l)) q g) p.0 p.1 r.1)
          ∙ ap (delivered header body) (sym q)

-- Every chunk but the last is answered waiting, and the last hands out header and body.
pub deliver : (n : ℕ) (b : Clocked) (peer request_id : ℕ) (header body : List ℕ) (limit : ℕ) (first : Call) (rest : List Call) (told : List Answer)
    → Delivery n b.model peer request_id header body limit first rest
    → AllRight (full_size n) b (first ∷ rest) told
    → answers_to (full_size n) peer request_id (first ∷ rest) told ≡ delivered header body (ours (full_size n) peer request_id (first ∷ rest))
deliver n b peer request_id header body limit first rest [] d r = absurd r
deliver n b peer request_id header body limit first rest (a ∷ told) d r =
    rw d.first_of_them
    (taken n peer request_id m header body rest b [] first k 0 a told good refl here
    (spared_first (full_size n) peer request_id first k (map (act_of (full_size n)) rest) 0 d.spared) r.0 r.1
    (story n peer request_id m header body rest))
    ∙ ap (delivered header body) (sym (ours_first (full_size n) peer request_id first k rest))
  where
    m : ℕ
    m = length (body_pieces limit (length header) body)

    k : Carrying (full_size n) peer request_id first
    k = ours_told (full_size n) peer request_id first d.first_of_them

    perm : Perm (carried (ours (full_size n) peer request_id (first ∷ rest))) (map chunk_in d.chunks)
    perm =
        subst (λ (l : List Chunk). Perm l (map chunk_in d.chunks)) (bytes_carried (full_size n) peer request_id (first ∷ rest))
        (perm_map chunk_in d.each_once)

    good : Good header body m (k.arrival.chunk ∷ carried (ours (full_size n) peer request_id rest))
    good =
        subst (λ (l : List Arrival). Good header body m (carried l)) (ours_first (full_size n) peer request_id first k rest)
        (perm_good (perm_sym perm) (cut_good request_id header body limit d.chunks d.cut d.fits))

    peer_eq : peer ≡ k.arrival.peer
    peer_eq = peer_is (full_size n) peer request_id first k

    id_eq : request_id ≡ k.arrival.chunk.request_id
    id_eq = id_is (full_size n) peer request_id first k

    here : arrives (full_size n) b k.arrival.peer k.arrival.chunk k.arrival.time
        ≡ arrived peer request_id b (judged (full_size n) (open_at k.arrival.time (next_tick b.clock) (slot_with header 0 [])) k.arrival.chunk)
    here =
        arrive_new (full_size n) k.arrival.peer b k.arrival.chunk k.arrival.time
        (subst (λ (p : ℕ). Room n p k.arrival.chunk.request_id b.model) peer_eq (subst (λ (i : ℕ). Room n peer i b.model) id_eq d.room))
        ∙ ap₂ (λ (p i : ℕ). arrived p i b (judged (full_size n) (open_at k.arrival.time (next_tick b.clock) (slot_with header 0 [])) k.arrival.chunk))
        (sym peer_eq) (sym id_eq)
