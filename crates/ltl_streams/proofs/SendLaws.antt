-- What goes to a sink over several calls, where some bytes are held back.
use Rattle.std.proofs.Common.{◌≡◌, ◌∙◌, ap, sym, subst, ℕ, List, [], ◌++◌, append_assoc, append-nil}
use Rattle.std.specs.Prelude.{Result, Ok, Err, OnOk, OnErr}
use Rattle.std.specs.Result.{IsErr}
use Rattle.ltl_streams.specs.Streams.{SinkState, Takes, Breaks}
use Rattle.ltl_streams.specs.Sending.{Sends, Stops, Puts}
use Rattle.ltl_streams.proofs.StreamLemmas.{takes_nothing, takes_trans, breaks_first, breaks_after}

pub sends_nothing : (o : SinkState) (h : List ℕ) → Sends o h o h []
sends_nothing o h = record { sent = []; taken = takes_nothing o; same = append-nil h }

module _ (o : SinkState) (h : List ℕ) where
  pub sends_trans : (m n : SinkState) (k j a b : List ℕ) → Sends o h m k a → Sends m k n j b → Sends o h n j (a ++ b)
  sends_trans m n k j a b p q = record {
    sent = p.sent ++ q.sent;
    taken = takes_trans p.taken q.taken;
    same = sym (append_assoc h a b) ∙ ap (λ t. t ++ b) p.same ∙ append_assoc p.sent k b ∙ ap (λ t. p.sent ++ t) q.same ∙ sym (append_assoc p.sent q.sent j);
  }

  pub begins_stops : (n : SinkState) (a : List ℕ) → Breaks o n (h ++ a) → Stops o h n a
  begins_stops n a p = record { broken = p }

  pub stops_begins : (n : SinkState) (a : List ℕ) → Stops o h n a → Breaks o n (h ++ a)
  stops_begins n a p = p.broken

  pub stops_first : (n : SinkState) (a b : List ℕ) → Stops o h n a → Stops o h n (a ++ b)
  stops_first n a b p = begins_stops n (a ++ b) (subst (Breaks o n) (append_assoc h a b) (breaks_first b p.broken))

  stops_after_assoc : (sent k a b : List ℕ) → h ++ a ≡ sent ++ k → sent ++ (k ++ b) ≡ h ++ (a ++ b)
  stops_after_assoc sent k a b e = sym (append_assoc sent k b) ∙ ap (λ t. t ++ b) (sym e) ∙ append_assoc h a b

  pub stops_after : (m n : SinkState) (k a b : List ℕ) → Sends o h m k a → Stops m k n b → Stops o h n (a ++ b)
  stops_after m n k a b p q =
      begins_stops n (a ++ b) (subst (Breaks o n) (stops_after_assoc p.sent k a b p.same) (breaks_after p.taken q.broken))

  -- at the end what is held back is sent too
  pub sends_all : (m n : SinkState) (k a : List ℕ) → Sends o h m k a → Takes m n k → Takes o n (h ++ a)
  sends_all m n k a p q = subst (Takes o n) (sym p.same) (takes_trans p.taken q)

  pub sends_some : (m n : SinkState) (k a : List ℕ) → Sends o h m k a → Breaks m n k → Breaks o n (h ++ a)
  sends_some m n k a p q = subst (Breaks o n) (sym p.same) (breaks_after p.taken q)

  pub puts_stopped : {T E : Type 0} (r : Result T E) (n : SinkState) (k a : List ℕ) → IsErr r → Stops o h n a → Puts r o h n k a
  puts_stopped (Ok x) n k a e p = cc
  puts_stopped (Err x) n k a e p = p

  -- what was held back was sent before
  pub puts_more : {T E : Type 0} (r : Result T E) (m n : SinkState) (bs : List ℕ) → Takes o m h → OnOk r (Takes m n bs) → OnErr r (Breaks m n bs) → Puts r o h n [] bs
  puts_more (Ok x) m n bs p q s = record { sent = h ++ bs; taken = takes_trans p q; same = sym (append-nil (h ++ bs)) }
  puts_more (Err x) m n bs p q s = begins_stops n bs (breaks_after p s)
