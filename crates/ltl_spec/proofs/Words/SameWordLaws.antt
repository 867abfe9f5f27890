-- Two lassos that are the same word are accepted by the same automata and satisfy the same formulas.
use Rattle.std.proofs.Common.{◌≡◌, ℕ, suc, ◌+◌, ◌<◌, Bool, ◌↔◌, inl, inr, List, [], length, sym, ap, subst}
use Rattle.std.specs.Prelude.{IsTrue, slice_index_or}
use Rattle.ltl_spec.specs.Collections.Sets.{has}
use Rattle.ltl_spec.specs.Transitions.Cubes.{allows}
use Rattle.ltl_spec.specs.Semantics.Word.{Name, name_cmp, Lasso, next, after_steps, IsSameWord, is_true_at}
use Rattle.ltl_spec.specs.Formulas.Formula.{Formula, Constant, Proposition, Unary, Binary, Not, Next, Always, Eventually, And, Or, Implies, Iff, Until, Release}
use Rattle.ltl_spec.specs.Semantics.Satisfaction.{HoldsUntil, HoldsRelease, Satisfied, Satisfies}
use Rattle.ltl_spec.specs.Automata.Automaton.{Automaton, Accepts, AcceptsFrom}
use Rattle.ltl_spec.proofs.Semantics.StepLaws.{after_last}
use Rattle.ltl_spec.proofs.Semantics.LassoLaws.{after_add}
use Rattle.ltl_spec.proofs.Semantics.Runs.{RunFrom}
use Rattle.ltl_spec.proofs.Semantics.RunLaws.{accepts_from_by_run, retold}

pub same_word_sym : (v w : Lasso) → IsSameWord v w → IsSameWord w v
same_word_sym v w e k = sym (e k)

-- Two ways of going on: `step` and `other`
module _ (step other : ℕ → ℕ) where
  -- what passes from one way to the other after each number of steps
  abbrev Passes : (ℕ → Type 0) → (ℕ → Type 0) → Type 0
  Passes a b = (k : ℕ) → a (after_steps step k 0) → b (after_steps other k 0)

  -- after more steps too
  passes_later : (a b : ℕ → Type 0) → Passes a b → (m k : ℕ) → a (after_steps step m (after_steps step k 0)) → b (after_steps other m (after_steps other k 0))
  passes_later a b f m k h = subst b (after_add other m k 0) (f (m + k) (subst a (sym (after_add step m k 0)) h))

  until_passes : (a b c d : ℕ → Type 0) → Passes a c → Passes b d → Passes (HoldsUntil step a b) (HoldsUntil other c d)
  until_passes a b c d f g k (m, h, before) = (m, passes_later b d g m k h, λ j l. passes_later a c f j k (before j l))

  release_passes : (a b c d : ℕ → Type 0) → Passes a c → Passes b d → Passes (HoldsRelease step a b) (HoldsRelease other c d)
  release_passes a b c d f g k h m = elim (h m) [
    | inl q ↦ inl (passes_later b d g m k q)
    | inr w ↦ inr (w.0, w.1, passes_later a c f w.0 k w.2)
  ]

  next_passes : (a b : ℕ → Type 0) → Passes a b → Passes (λ i. a (step i)) (λ i. b (other i))
  next_passes a b f k h = subst b (after_last other k 0) (f (suc k) (subst a (sym (after_last step k 0)) h))

-- the same letters after each number of steps
abbrev SameLetters : (ℕ → ℕ → Bool) → (ℕ → ℕ) → (ℕ → ℕ → Bool) → (ℕ → ℕ) → Type 0
SameLetters truth step told other = (k : ℕ) → truth (after_steps step k 0) ≡ told (after_steps other k 0)

-- satisfy the same formulas
satisfied_passes : (t : ℕ → ℕ → Bool) (s : ℕ → ℕ) (u : ℕ → ℕ → Bool) (o : ℕ → ℕ) → SameLetters t s u o → (F : Formula) → Passes s o (Satisfied t s F) (Satisfied u o F)
satisfied_passes t s u o e (Constant b) k h = h
satisfied_passes t s u o e (Proposition p) k h = subst (λ f. IsTrue (f p)) (e k) h
satisfied_passes t s u o e (Unary Not a) k h = λ g. h (satisfied_passes u o t s (λ j. sym (e j)) a k g)
satisfied_passes t s u o e (Unary Next a) k h = next_passes s o (Satisfied t s a) (Satisfied u o a) (satisfied_passes t s u o e a) k h
satisfied_passes t s u o e (Unary Always a) k h = release_passes s o (λ i. ⊥) (Satisfied t s a) (λ i. ⊥) (Satisfied u o a) (λ j g. g) (satisfied_passes t s u o e a) k h
satisfied_passes t s u o e (Unary Eventually a) k h = until_passes s o (λ i. Unit {0}) (Satisfied t s a) (λ i. Unit {0}) (Satisfied u o a) (λ j g. g) (satisfied_passes t s u o e a) k h
satisfied_passes t s u o e (Binary And a b) k h = (satisfied_passes t s u o e a k h.0, satisfied_passes t s u o e b k h.1)
satisfied_passes t s u o e (Binary Or a b) k h = elim h [ inl g ↦ inl (satisfied_passes t s u o e a k g) | inr g ↦ inr (satisfied_passes t s u o e b k g) ]
satisfied_passes t s u o e (Binary Implies a b) k h = λ g. satisfied_passes t s u o e b k (h (satisfied_passes u o t s (λ j. sym (e j)) a k g))
satisfied_passes t s u o e (Binary Iff a b) k h =
    let d : SameLetters u o t s = λ j. sym (e j) in
    ((λ g. satisfied_passes t s u o e b k (h.0 (satisfied_passes u o t s d a k g))), λ g. satisfied_passes t s u o e a k (h.1 (satisfied_passes u o t s d b k g)))
satisfied_passes t s u o e (Binary Until a b) k h = until_passes s o (Satisfied t s a) (Satisfied t s b) (Satisfied u o a) (Satisfied u o b) (satisfied_passes t s u o e a) (satisfied_passes t s u o e b) k h
satisfied_passes t s u o e (Binary Release a b) k h = release_passes s o (Satisfied t s a) (Satisfied t s b) (Satisfied u o a) (Satisfied u o b) (satisfied_passes t s u o e a) (satisfied_passes t s u o e b) k h

-- and have the same runs
run_same : (truth : ℕ → ℕ → Bool) (step : ℕ → ℕ) (told : ℕ → ℕ → Bool) (other : ℕ → ℕ) → SameLetters truth step told other → (s : ℕ) (A : Automaton) → RunFrom s A truth step → RunFrom s A told other
run_same truth step told other same s A r = retold s A truth told step other r (λ k. subst (λ f. IsTrue (allows f (r.edge k).cube)) (same k) (r.allowed k))

-- the same propositions are true after each number of steps
same_truth : (names : List Name) (v w : Lasso) → IsSameWord v w → SameLetters (is_true_at names v) (next v) (is_true_at names w) (next w)
same_truth names v w e k = ap (λ letter p. has name_cmp (slice_index_or names p []) letter) (e k)

-- the same word satisfies the same formulas
pub satisfies_same : (names : List Name) (v w : Lasso) → IsSameWord v w → (F : Formula) → Satisfies names v 0 F ↔ Satisfies names w 0 F
satisfies_same names v w e F =
    let same = same_truth names v w e in (
      satisfied_passes (is_true_at names v) (next v) (is_true_at names w) (next w) same F 0,
      satisfied_passes (is_true_at names w) (next w) (is_true_at names v) (next v) (λ k. sym (same k)) F 0,
    )

-- and is accepted by the same automata
accepts_from_on : (s : ℕ) (names : List Name) (A : Automaton) (v w : Lasso) → 0 < length v.cycle → 0 < length w.cycle → IsSameWord v w → AcceptsFrom s names A v → AcceptsFrom s names A w
accepts_from_on s names A v w c d e a =
    (accepts_from_by_run s names A w d).1 (run_same (is_true_at names v) (next v) (is_true_at names w) (next w) (same_truth names v w e) s A ((accepts_from_by_run s names A v c).0 a))

pub accepts_from_same : (s : ℕ) (names : List Name) (A : Automaton) (v w : Lasso) → 0 < length v.cycle → 0 < length w.cycle → IsSameWord v w → AcceptsFrom s names A v ↔ AcceptsFrom s names A w
accepts_from_same s names A v w c d e = (accepts_from_on s names A v w c d e, accepts_from_on s names A w v d c (same_word_sym v w e))

pub accepts_same : (names : List Name) (A : Automaton) (v w : Lasso) → 0 < length v.cycle → 0 < length w.cycle → IsSameWord v w → Accepts names A v ↔ Accepts names A w
accepts_same names A v w c d e = accepts_from_same 0 names A v w c d e
