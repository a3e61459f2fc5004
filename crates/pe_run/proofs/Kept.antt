-- What holds between a table's memory and the model all through a run; every call keeps it, and answers as the model does.
-- Assumes nothing.
use Prim.Native.Nat.{ℕ}
use mathlib.Core.Bool.{Bool, true, false, cond, not, ◌&&◌}
use mathlib.Core.List.{List}
use mathlib.Core.Logic.{◌⊎◌, inl, inr}
use mathlib.Core.Path.{◌≡◌, refl, sym, ap, ◌∙◌, subst}
use native.Mathlib.Omega.{arith}
use Rattle.seven_bit.specs.Reply.{Reply, granted, refused}
use Rattle.seven_bit.proofs.ReplyLaws.{both}
use Rattle.pe_slot.specs.Slot.{Event}
use Rattle.pe_slot.specs.Feed.{told_answer, header_out, body_out}
use Rattle.pe_reassembler.specs.declared.shape.Shape.{Shape}
use Rattle.pe_reassembler.specs.Calls.{cancel_call, drop_call}
use Rattle.pe_reassembler.specs.Feed.{FeedLeft}
use Rattle.pe_reassembler.specs.Table.{is_muid}
use Rattle.pe_reassembler.proofs.SoundLaws.{SlotsSound, sound_new, sound_feed, sound_message, sound_cancel, sound_drop, sound_poll}
use Rattle.pe_run.specs.Model as Acts
use Rattle.pe_run.specs.Model.{Clocked, start, find, is_none, open_of, arrives, acted}
use Rattle.pe_run.specs.Calls.{Call, feed, feed_message, cancel, drop_peer, poll, memory_stats, reserved_bytes, open_list, Answer, fed, was_open, counted, Arrival, fed_arrival, message_arrival, granted_of, arrival_act, has_places, act_of, arrival_answer, Right}
use Rattle.pe_run.specs.Run.{Table, LongFor, made, lent, kept, step, feed_told, Answers}
use Rattle.pe_run.proofs.Value.{Value, value_of}
use Rattle.pe_run.proofs.Refine.{Rel, fresh_rel}
use Rattle.pe_run.proofs.Takes.{take_rel}
use Rattle.pe_run.proofs.Closes.{cancel_rel, drop_rel, poll_rel, cancels_are, drops_are}
use Rattle.pe_run.proofs.Ahead.{reached, feed_ahead, message_ahead, Small, fed_small, message_small}
use Rattle.pe_run.proofs.ValueFeed.{feed_value}
use Rattle.pe_run.proofs.ValueCalls.{cancel_value, cancel_refused, drop_value, drop_refused}
use Rattle.pe_run.proofs.ValuePoll.{poll_value, poll_refused}
use Rattle.pe_run.proofs.ValueNew.{new_value, new_long}
use Rattle.pe_run.proofs.Listings.{poll_right, list_right, stats_right, reserved_right}

-- memory is long enough, question 31 has a yes of every slot, and what memory stands for is what the model has open
pub record Kept (shape : Shape) (t : Table) (b : Clocked) : Type 0 where
  pub long : LongFor shape t
  pub sound : SlotsSound shape t.numbers t.index
  pub rel : Rel shape.max_peers (value_of shape t) b

pub kept_new : (shape : Shape) (t : Table) → LongFor shape t → Kept shape (made shape t) start
kept_new shape t long =
    record {
      long = new_long shape t long;
      sound = sound_new shape t.numbers t.index t.headers t.arenas long;
      rel = subst (λ (v : Value). Rel shape.max_peers v start) (sym (new_value shape t long)) (fresh_rel shape.max_peers);
    }

-- the part of it that a call's own slots do not settle, and the answer
record Stepped (shape : Shape) (t : Table) (b : Clocked) : Type 0 where
  long : LongFor shape t
  rel : Rel shape.max_peers (value_of shape t) b

module _ (shape : Shape) (t : Table) (b : Clocked) (k : Kept shape t b) where
  -- ---- what arrives, or is refused ahead
  module _ (out_header out_body : List ℕ) where
    told_same : (r : FeedLeft) (x y : Reply Event) → x ≡ y → r.answer ≡ told_answer x → r.memory.out_header ≡ header_out x out_header
        → r.memory.out_body ≡ body_out x out_body
        → feed_told r ≡ fed (told_answer y) (header_out y out_header) (body_out y out_body)
    told_same r x y e f g h = rw (f, g, h, e)

    reached_stepped : (r : Reply Arrival) → ((a : Arrival) → r ≡ granted a → Small shape out_header out_body a)
        → Stepped shape (kept (reached shape t out_header out_body r)) (acted shape b (arrival_act (granted_of r)))
    reached_stepped (granted a) small =
        let s = small a refl in
        let w = s.number in
        let v = feed_value shape t out_header out_body a.peer a.chunk a.time k.long k.sound s.header_room s.body_room s.property
        (omega arith) in
        record {
          long = v.long;
          rel =
              subst (λ (x : Value). Rel shape.max_peers x (arrives shape b a.peer a.chunk a.time).left) (sym v.value_is)
              (take_rel shape k.rel a.peer a.chunk a.time).rel;
        }
    reached_stepped (refused number value) small = record { long = k.long; rel = k.rel }

    reached_right : (r : Reply Arrival) → ((a : Arrival) → r ≡ granted a → Small shape out_header out_body a)
        → feed_told (reached shape t out_header out_body r) ≡ arrival_answer shape b r out_header out_body
    reached_right (granted a) small =
        let s = small a refl in
        let w = s.number in
        let v = feed_value shape t out_header out_body a.peer a.chunk a.time k.long k.sound s.header_room s.body_room s.property
        (omega arith) in
        told_same (reached shape t out_header out_body (granted a)) _ _ (take_rel shape k.rel a.peer a.chunk a.time).answer_is v.answer_is
        v.out_header_is v.out_body_is
    reached_right (refused number value) small = refl

  with_sound : (t' : Table) (b' : Clocked) → SlotsSound shape t'.numbers t'.index → Stepped shape t' b' → Kept shape t' b'
  with_sound t' b' s p = record { long = p.long; sound = s; rel = p.rel }

  -- ---- every call keeps it
  feed_kept : (peer : ℕ) (chunk : List ℕ) (now_ms : ℕ) (out_header out_body : List ℕ)
      → Kept shape (step shape t (feed peer chunk now_ms out_header out_body)) (acted shape b (act_of shape (feed peer chunk now_ms out_header out_body)))
  feed_kept peer chunk now_ms out_header out_body =
      with_sound _ _ (sound_feed shape (lent t out_header out_body) k.sound peer chunk now_ms)
      (subst (λ (r : FeedLeft). Stepped shape (kept r) (acted shape b (arrival_act (granted_of (fed_arrival shape peer chunk now_ms out_header out_body)))))
      (sym (feed_ahead shape t k.long out_header out_body now_ms peer chunk))
      (reached_stepped out_header out_body (fed_arrival shape peer chunk now_ms out_header out_body)
      (λ a q. fed_small shape now_ms out_header out_body a peer chunk q)))

  message_kept : (message : List ℕ) (now_ms : ℕ) (out_header out_body : List ℕ)
      → Kept shape (step shape t (feed_message message now_ms out_header out_body))
      (acted shape b (act_of shape (feed_message message now_ms out_header out_body)))
  message_kept message now_ms out_header out_body =
      with_sound _ _ (sound_message shape (lent t out_header out_body) k.sound message now_ms)
      (subst (λ (r : FeedLeft). Stepped shape (kept r) (acted shape b (arrival_act (granted_of (message_arrival shape message now_ms out_header out_body)))))
      (sym (message_ahead shape t k.long out_header out_body now_ms message))
      (reached_stepped out_header out_body (message_arrival shape message now_ms out_header out_body)
      (λ a q. message_small shape now_ms out_header out_body a message q)))

  cancel_stepped : (peer request_id : ℕ) → (is_muid peer ≡ true) ⊎ (is_muid peer ≡ false)
      → Stepped shape (step shape t (cancel peer request_id)) (acted shape b (act_of shape (cancel peer request_id)))
  cancel_stepped peer request_id (inl e) =
      let v = cancel_value shape t peer request_id k.long e in
      rw e (record {
        long = v.long;
        rel =
            subst (λ (x : Value). Rel shape.max_peers x (acted shape b (Acts.cancel peer request_id))) (sym v.value_is)
            (cancel_rel k.rel peer request_id);
      })
  cancel_stepped peer request_id (inr e) = rw (e, cancel_refused shape t peer request_id k.long e) (record { long = k.long; rel = k.rel })

  drop_stepped : (peer : ℕ) → (is_muid peer ≡ true) ⊎ (is_muid peer ≡ false)
      → Stepped shape (step shape t (drop_peer peer)) (acted shape b (act_of shape (drop_peer peer)))
  drop_stepped peer (inl e) =
      let v = drop_value shape t peer k.long e in
      rw e (record {
        long = v.long;
        rel = subst (λ (x : Value). Rel shape.max_peers x (acted shape b (Acts.drop peer))) (sym v.value_is) (drop_rel k.rel peer);
      })
  drop_stepped peer (inr e) = rw (e, drop_refused shape t peer k.long e) (record { long = k.long; rel = k.rel })

  module _ (now_ms : ℕ) (out_peers out_ids : List ℕ) where
    poll_stepped : ((has_places shape.max_peers out_peers && has_places shape.max_peers out_ids) ≡ true)
        ⊎ ((has_places shape.max_peers out_peers && has_places shape.max_peers out_ids) ≡ false)
        → Stepped shape (step shape t (poll now_ms out_peers out_ids)) (acted shape b (act_of shape (poll now_ms out_peers out_ids)))
    poll_stepped (inl e) =
        let v = poll_value shape t now_ms out_peers out_ids k.long e in
        rw e (record {
          long = v.long;
          rel = subst (λ (x : Value). Rel shape.max_peers x (acted shape b (Acts.poll now_ms))) (sym v.value_is) (poll_rel k.rel now_ms);
        })
    poll_stepped (inr e) = rw (e, poll_refused shape t now_ms out_peers out_ids k.long e) (record { long = k.long; rel = k.rel })

  pub step_kept : (c : Call) → Kept shape (step shape t c) (acted shape b (act_of shape c))
  step_kept (feed peer chunk now_ms out_header out_body) = feed_kept peer chunk now_ms out_header out_body
  step_kept (feed_message message now_ms out_header out_body) = message_kept message now_ms out_header out_body
  step_kept (cancel peer request_id) =
      with_sound _ _ (sound_cancel shape t.numbers t.index k.sound peer request_id) (cancel_stepped peer request_id (both (is_muid peer)))
  step_kept (drop_peer peer) = with_sound _ _ (sound_drop shape t.numbers t.index k.sound peer) (drop_stepped peer (both (is_muid peer)))
  step_kept (poll now_ms out_peers out_ids) =
      with_sound _ _ (sound_poll shape t.numbers t.index k.sound now_ms out_peers out_ids)
      (poll_stepped now_ms out_peers out_ids (both (has_places shape.max_peers out_peers && has_places shape.max_peers out_ids)))
  step_kept memory_stats = k
  step_kept reserved_bytes = k
  step_kept (open_list out_peers out_ids out_held) = k

  -- ---- every call answers as the model does
  cancel_told : (peer request_id : ℕ) → (is_muid peer ≡ true) ⊎ (is_muid peer ≡ false)
      → (cancel_call shape t.numbers peer request_id).answer ≡ cond (is_muid peer) (granted (not (is_none (find peer request_id b.model)))) (refused 28 0)
  cancel_told peer request_id (inl e) =
      rw e ((cancel_value shape t peer request_id k.long e).answer_is ∙ ap (λ (x : Bool). granted x) (cancels_are k.rel peer request_id))
  cancel_told peer request_id (inr e) = rw (e, cancel_refused shape t peer request_id k.long e)

  drop_told : (peer : ℕ) → (is_muid peer ≡ true) ⊎ (is_muid peer ≡ false)
      → (drop_call shape t.numbers peer).answer ≡ cond (is_muid peer) (granted (open_of peer b.model)) (refused 28 0)
  drop_told peer (inl e) = rw e ((drop_value shape t peer k.long e).answer_is ∙ ap (λ (x : ℕ). granted x) (drops_are k.rel peer))
  drop_told peer (inr e) = rw (e, drop_refused shape t peer k.long e)

  pub right : (c : Call) (a : Answer) → Answers shape t c a → Right shape b c a
  right (feed peer chunk now_ms out_header out_body) a e =
      e ∙ ap feed_told (feed_ahead shape t k.long out_header out_body now_ms peer chunk)
      ∙ reached_right out_header out_body (fed_arrival shape peer chunk now_ms out_header out_body)
      (λ x q. fed_small shape now_ms out_header out_body x peer chunk q)
  right (feed_message message now_ms out_header out_body) a e =
      e ∙ ap feed_told (message_ahead shape t k.long out_header out_body now_ms message)
      ∙ reached_right out_header out_body (message_arrival shape message now_ms out_header out_body)
      (λ x q. message_small shape now_ms out_header out_body x message q)
  right (cancel peer request_id) a e = e ∙ ap (λ (r : Reply Bool). was_open r) (cancel_told peer request_id (both (is_muid peer)))
  right (drop_peer peer) a e = e ∙ ap (λ (r : Reply ℕ). counted r) (drop_told peer (both (is_muid peer)))
  right (poll now_ms out_peers out_ids) a e = poll_right shape t b k.long k.rel.same now_ms out_peers out_ids a e
  right memory_stats a e = stats_right shape t b k.long k.rel.same k.sound a e
  right reserved_bytes a e = reserved_right shape t b k.long k.rel.same a e
  right (open_list out_peers out_ids out_held) a e = list_right shape t b k.long k.rel.same k.sound k.rel.unique out_peers out_ids out_held a e
