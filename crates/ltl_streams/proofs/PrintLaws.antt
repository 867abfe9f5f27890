-- What goes to the sink of a printer over several calls.
use Rattle.std.proofs.Common.{◌≡◌, ◌∙◌, ap, append_assoc, append-nil, refl, subst, sym, Bool, true, false, ℕ, List, [], ◌++◌}
use Rattle.std.specs.Prelude.{Result, Ok, Err, MatchResult, OnOk, OnErr}
use Rattle.ltl_streams.specs.Streams.{SinkState, Takes, Breaks}
use Rattle.ltl_streams.specs.Sending.{Sends, Stops}
use Rattle.ltl_streams.proofs.SendLaws.{sends_all, sends_nothing, sends_some, sends_trans, stops_after, stops_begins, stops_first}
use Rattle.ltl_streams.specs.declared.printer.Printer.{Printer}
use Rattle.ltl_streams.specs.Printing.{EndsShort, EndsWhole, Moves, Prints}

moves_nothing : (f : Bool) (o : SinkState) (h : List ℕ) → Moves f f o h o h []
moves_nothing true o h = refl
moves_nothing false o h = sends_nothing o h

moves_trans : (f g i : Bool) (o m n : SinkState) (h k j a b : List ℕ) → Moves f g o h m k a → Moves g i m k n j b → Moves f i o h n j (a ++ b)
moves_trans true true true o m n h k j a b p q = q ∙ p
moves_trans true true false o m n h k j a b p q = absurd q
moves_trans true false i o m n h k j a b p q = absurd p
moves_trans false true true o m n h k j a b p q = subst (λ x. Stops o h x (a ++ b)) (sym q) (stops_first o h m a b p)
moves_trans false true false o m n h k j a b p q = absurd q
moves_trans false false true o m n h k j a b p q = stops_after o h m n k a b p q
moves_trans false false false o m n h k j a b p q = sends_trans o h m n k j a b p q

-- at the end of all that was printed
ends_whole : (g : Bool) (o m n : SinkState) (k w : List ℕ) → Moves false g o [] m k w → EndsWhole g m k n → Takes o n w
ends_whole true o m n k w p q = absurd q
ends_whole false o m n k w p q = sends_all o [] m n k w p q

ends_short : (g : Bool) (o m n : SinkState) (k w : List ℕ) → Moves false g o [] m k w → EndsShort g m k n → Breaks o n w
ends_short true o m n k w p q = subst (λ x. Breaks o x w) (sym q) (stops_begins o [] m w p)
ends_short false o m n k w p q = sends_some o [] m n k w p q

module _ {S : Type 0} {state : S → SinkState} where
  pub prints_nothing : (o : Printer S) → Prints state o o []
  prints_nothing o = record { same = refl; moves = moves_nothing o.failed _ o.buffer }

  pub prints_as : {o n : Printer S} {a b : List ℕ} → a ≡ b → Prints state o n a → Prints state o n b
  prints_as {o} {n} e p = subst (Prints state o n) e p

  pub prints_then : {o m n : Printer S} {a b : List ℕ} → Prints state o m a → Prints state m n b → Prints state o n (a ++ b)
  prints_then {o} {m} {n} {a} {b} p q = record { same = q.same ∙ p.same; moves = moves_trans o.failed m.failed n.failed _ _ _ _ _ _ a b p.moves q.moves }

-- of the whole, the rest is still to be printed
pub record Lacks {S : Type 0} (state : S → SinkState) (old new : Printer S) (rest whole : List ℕ) : Type 0 where
  pub done : List ℕ
  pub prints : Prints state old new done
  pub same : done ++ rest ≡ whole

module _ {S : Type 0} {state : S → SinkState} where
  pub lacks_all : (o : Printer S) (w : List ℕ) → Lacks state o o w w
  lacks_all o w = record { done = []; prints = prints_nothing o; same = refl }

  module _ {o m : Printer S} {t w : List ℕ} (l : Lacks state o m t w) where
    pub lacks_step : {n : Printer S} {a : List ℕ} (r : List ℕ) → t ≡ a ++ r → Prints state m n a → Lacks state o n r w
    lacks_step {n} {a} r e p = record {
      done = l.done ++ a;
      prints = prints_then l.prints p;
      same = append_assoc l.done a r ∙ ap (λ x. l.done ++ x) (sym e) ∙ l.same;
    }

    pub lacks_last : {n : Printer S} → Prints state m n t → Prints state o n w
    lacks_last p = prints_as l.same (prints_then l.prints p)

    pub lacks_end : t ≡ [] → Prints state o m w
    lacks_end e = prints_as (sym (append-nil l.done) ∙ ap (λ x. l.done ++ x) (sym e) ∙ l.same) l.prints

-- the printer was new, and its sink's last value is what it left
module _ {S : Type 0} {state : S → SinkState} {w : List ℕ} {u v s : S} {o m : Printer S} (whole : o.failed ≡ false) (empty : o.buffer ≡ []) (now : o.sink.now ≡ s) (p : Prints state o m w) where
  pub all_printed : EndsWhole m.failed (state m.sink.now) m.buffer (state u) → u ≡ v → Takes (state s) (state v) w
  all_printed q x = rw (← x, ← now) (ends_whole m.failed (state o.sink.now) (state m.sink.now) (state u) m.buffer w (rw (whole, empty) at p.moves) q)

  pub some_printed : EndsShort m.failed (state m.sink.now) m.buffer (state u) → u ≡ v → Breaks (state s) (state v) w
  some_printed q x = rw (← x, ← now) (ends_short m.failed (state o.sink.now) (state m.sink.now) (state u) m.buffer w (rw (whole, empty) at p.moves) q)

  module _ {T E : Type 0} (r : Result T E) where
    pub printed_ok : MatchResult r (λ _. EndsWhole m.failed (state m.sink.now) m.buffer (state u)) (λ _. EndsShort m.failed (state m.sink.now) m.buffer (state u)) → u ≡ v → OnOk r (Takes (state s) (state v) w)
    printed_ok q x = ok r q
      where
        ok : (r : Result T E) → MatchResult r (λ _. EndsWhole m.failed (state m.sink.now) m.buffer (state u)) (λ _. EndsShort m.failed (state m.sink.now) m.buffer (state u)) → OnOk r (Takes (state s) (state v) w)
        ok (Ok y) q = all_printed q x
        ok (Err y) q = tt

    pub printed_err : MatchResult r (λ _. EndsWhole m.failed (state m.sink.now) m.buffer (state u)) (λ _. EndsShort m.failed (state m.sink.now) m.buffer (state u)) → u ≡ v → OnErr r (Breaks (state s) (state v) w)
    printed_err q x = err r q
      where
        err : (r : Result T E) → MatchResult r (λ _. EndsWhole m.failed (state m.sink.now) m.buffer (state u)) (λ _. EndsShort m.failed (state m.sink.now) m.buffer (state u)) → OnErr r (Breaks (state s) (state v) w)
        err (Ok y) q = tt
        err (Err y) q = some_printed q x
