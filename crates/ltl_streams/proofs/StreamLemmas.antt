-- What goes to a sink over several calls.
use Rattle.std.proofs.Common.{zero, suc, ◌<◌, ◌∷◌, ◌≡◌, ◌∙◌, ap, refl, sym, ℕ, min, ◌+◌, List, [], ◌++◌, length, take, drop, Option, Some, None, append_assoc, append-nil, arith}
use Rattle.std.proofs.Math.Seq.{take-add, take-append-add}
use Rattle.std.proofs.lemmas.List.{take-append-le, take_min}
use Rattle.std.specs.Io.KnownBytes.{Appends, Keeps}
use Rattle.ltl_spec.specs.Tools.Stage.{Stage, Open, Closed, Broken, behind}
use Rattle.ltl_streams.specs.Streams.{stage_given, SinkState, Takes, TakesSome, Breaks, Fails}

-- ---- known bytes
appends_none : (o : Option (List ℕ)) → Appends o o []
appends_none None = tt
appends_none (Some x) = sym (append-nil x)

pub appends_trans : (o m n : Option (List ℕ)) (a b : List ℕ) → Appends o m a → Appends m n b → Appends o n (a ++ b)
appends_trans None m n a b p q = tt
appends_trans (Some x) (Some y) (Some z) a b p q = q ∙ ap (λ w. w ++ b) p ∙ append_assoc x a b
appends_trans (Some x) (Some y) None a b p q = q
appends_trans (Some x) None n a b p q = absurd p

kept_after : (o m n : Option (List ℕ)) (a : List ℕ) → Appends o m a → Keeps m n → Appends o n a
kept_after None m n a p q = tt
kept_after (Some x) (Some y) (Some z) a p q = q ∙ p
kept_after (Some x) (Some y) None a p q = q
kept_after (Some x) None n a p q = absurd p

-- ---- what a sink took
pub takes_nothing : (o : SinkState) → Takes o o []
takes_nothing o = record { same = refl; stage = λ e. e; grown = appends_none o.bytes }

module _ {o m n : SinkState} where
  pub takes_trans : {a b : List ℕ} → Takes o m a → Takes m n b → Takes o n (a ++ b)
  takes_trans {a} {b} p q = record {
    same = q.same ∙ p.same;
    stage = λ e. q.stage (p.stage e);
    grown = appends_trans o.bytes m.bytes n.bytes a b p.grown q.grown;
  }

  -- the next k bytes of xs, after the first i
  pub takes_more : (xs : List ℕ) (i k : ℕ) → Takes o m (take i xs) → TakesSome m n k (drop i xs) → Takes o n (take (i + k) xs)
  takes_more xs i k p q = record {
    same = q.same ∙ p.same;
    stage = λ e. q.stage;
    grown = rw (take-add i k xs) (appends_trans o.bytes m.bytes n.bytes (take i xs) (take k (drop i xs)) p.grown q.grown);
  }

  pub breaks_after : {a b : List ℕ} → Takes o m a → Breaks m n b → Breaks o n (a ++ b)
  breaks_after {a} {b} p q = record {
    same = q.same ∙ p.same;
    stage = λ e. q.stage (p.stage e);
    count = length a + q.count;
    grown = rw (take-append-add a b q.count) (appends_trans o.bytes m.bytes n.bytes a (take q.count b) p.grown q.grown);
  }

  -- a call that fails after the first i bytes of xs
  pub breaks_there : (xs : List ℕ) (i : ℕ) → Takes o m (take i xs) → Fails m n → Breaks o n xs
  breaks_there xs i p q = record {
    same = q.same ∙ p.same;
    stage = λ e. q.stage ∙ ap (λ (s : Stage). behind s Broken) (p.stage e);
    count = i;
    grown = kept_after o.bytes m.bytes n.bytes (take i xs) p.grown q.kept;
  }

pub breaks_first : {o n : SinkState} {a : List ℕ} (b : List ℕ) → Breaks o n a → Breaks o n (a ++ b)
breaks_first {o} {n} {a} b p = record {
  same = p.same;
  stage = p.stage;
  count = min p.count (length a);
  grown = rw (take-append-le (min p.count (length a)) a b (omega arith), take_min p.count a) p.grown;
}

-- ---- the stage behind a read
pub stage_some : (n : ℕ) (room : List ℕ) → 0 < n → stage_given n room ≡ Open
stage_some zero room p = absurd (none p)
  where
    none : 0 < 0 → ⊥
    none q = omega (arith, q)
stage_some (suc n) [] p = refl
stage_some (suc n) (b ∷ bs) p = refl

pub stage_at_end : (n : ℕ) (room : List ℕ) → n ≡ 0 → 0 < length room → stage_given n room ≡ Closed
stage_at_end n [] e p = absurd (none p)
  where
    none : 0 < 0 → ⊥
    none q = omega (arith, q)
stage_at_end n (b ∷ bs) e p = ap (λ k. stage_given k (b ∷ bs)) e
