-- The instance's first list, fed as it left: the reassembler hands it out.
-- Assumes nothing.
use mathlib.Core.List.{List, [], ◌∷◌, map}
use mathlib.Core.Path.{◌≡◌, refl, sym, ap, ◌∙◌}
use native.Mathlib.Omega.{arith}
use lib.ListN.{take}
use Rattle.pe_frame.specs.Write.{chunk_bytes}
use Rattle.pe_chunker.specs.Cut.{clamped, budget, later_capacity, first_capacity, cut_up, body_pieces, chunk_at}
use Rattle.pe_stage.specs.Stage.{header_in, body_in, Written}
use Rattle.pe_run.specs.Model.{finds_record}
use Rattle.pe_run.specs.Calls.{Call as TableCall, Answer as TableAnswer, feed, feed_message, Arrival}
use Rattle.pe_run.specs.Run.{made, Run}
use Rattle.pe_run.specs.Demand.{full_size, ours, answers_to, delivered}
use Rattle.pe_run.specs.Instance.{lent_memory, lent_header, lent_body, one, two, one_in_message}
use Rattle.pe_run.proofs.Instance.{arrives_first, message_arrives}
use Rattle.pe_run.proofs.InstanceTold.{memory_long}
use Rattle.pe_turns.specs.Calls.{seen_on}
use Rattle.pe_turns.specs.Turns.{sent, all_of}
use Rattle.pe_turns.specs.Forward.{FedAsLeft}
use Rattle.pe_turns.specs.Instance.{lent_words, buffer, long, before, calls}
use Rattle.pe_turns.proofs.Instance.{since, count, instance, both_in_order, all_left}
use Rattle.pe_turns.proofs.Forward.{forwarding}

-- its first chunk in a message, and then the second one bare, to a new table of two peers
abbrev first : TableCall
first = feed_message one_in_message 9000 lent_header lent_body

abbrev rest : List TableCall
rest = feed 9 (chunk_bytes two) 100 lent_header lent_body ∷ []

-- the chunks are those of `pe_run`'s instance
same_chunks : map (λ (w : Written). w.bytes) (all_of long (header_in buffer long) (body_in buffer long) count) ≡ chunk_bytes one ∷ chunk_bytes two ∷ []
unfolding chunk_at body_pieces cut_up first_capacity later_capacity budget clamped
same_chunks = refl

arrived : map (λ (a : Arrival). a.bytes) (ours (full_size 2) 9 5 (first ∷ rest)) ≡ chunk_bytes one ∷ chunk_bytes two ∷ []
arrived = rw (message_arrives, arrives_first) refl

pub fed_as_left : FedAsLeft 2 [] 9 5 (body_in buffer long) (take count (sent 3 ((seen_on lent_words).told since calls))) first rest
unfolding finds_record
fed_as_left =
    record {
      fits = omega arith;
      first_of_them = rw message_arrives refl;
      room = record { record_found = refl; not_open = refl; fewer = omega arith };
      as_they_left = arrived ∙ sym (ap (map (λ (w : Written). w.bytes)) both_in_order ∙ same_chunks);
      spared = rw (message_arrives, arrives_first) tt;
    }

pub forwarded : (told : List TableAnswer) → Run (full_size 2) (made (full_size 2) lent_memory) (first ∷ rest) told
    → answers_to (full_size 2) 9 5 (first ∷ rest) told ≡ delivered (header_in buffer long) (body_in buffer long) (ours (full_size 2) 9 5 (first ∷ rest))
forwarded told r =
    forwarding lent_words (omega arith) before buffer 3 long count calls instance.0 instance.1 all_left 2 lent_memory (omega arith) memory_long
    [] 9 first rest told fed_as_left r
