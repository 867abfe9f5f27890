-- The normal form of a formula holds where the formula holds, and that of its negation where it doesn't.
use Rattle.std.proofs.Common.{ℕ, Bool, true, false, inl, inr, refl, sym, ◌∙◌}
use Rattle.std.specs.Prelude.{◌⊎◌, ◌↔◌}
use Rattle.std.proofs.lemmas.Bool.{cases_Bool, true≢false}
use Rattle.ltl_spec.specs.Formulas.Formula.{Formula, Constant, Proposition, Unary, Binary, Not, Next, Always, Eventually, And, Or, Implies, Iff, Until, Release}
use Rattle.ltl_spec.specs.Semantics.Satisfaction.{HoldsUntil, HoldsRelease, Satisfied}
use Rattle.ltl_spec.specs.NormalForms.NormalForm.{normal_form}
use Rattle.ltl_spec.specs.Semantics.NormalSatisfaction.{Holds}
use Rattle.ltl_spec.proofs.Semantics.UntilLaws.{until_map, release_map, release_from_not_until, not_until_from_release, not_release_from_until}

-- Y holds only where P does, N only where P doesn't, and one of them everywhere
record Agrees (P Y N : ℕ → Type 0) : Type 0 where
  holds : (i : ℕ) → Y i → P i
  fails : (i : ℕ) → N i → ¬ (P i)
  one : (i : ℕ) → Y i ⊎ N i

swapped : {P Q : Type 0} → P ⊎ Q → Q ⊎ P
swapped (inl p) = inr p
swapped (inr q) = inl q

module _ {P Y N : ℕ → Type 0} (g : Agrees P Y N) where
  form_decided : (i : ℕ) → Dec (Y i)
  form_decided i = elim (g.one i) [ inl y ↦ yes y | inr n ↦ no (λ y. g.fails i n (g.holds i y)) ]

  other_form : (i : ℕ) → ¬ (Y i) → N i
  other_form i m = elim (g.one i) [ inl y ↦ absurd (m y) | inr n ↦ n ]

  not_agrees : Agrees (λ i. ¬ (P i)) N Y
  not_agrees = record { holds = g.fails; fails = λ i y n. n (g.holds i y); one = λ i. swapped (g.one i) }

  -- so it does for what holds at the same positions
  also_agrees : (Q : ℕ → Type 0) → ((i : ℕ) → P i → Q i) → ((i : ℕ) → Q i → ¬ (¬ (P i))) → Agrees Q Y N
  also_agrees Q to from = record { holds = λ i y. to i (g.holds i y); fails = λ i n q. from i q (g.fails i n); one = g.one }

-- the operators

module _ {P Y N Q Z M : ℕ → Type 0} (g : Agrees P Y N) (h : Agrees Q Z M) where
  and_agrees : Agrees (λ i. P i × Q i) (λ i. Y i × Z i) (λ i. N i ⊎ M i)
  and_agrees = record {
    holds = λ i w. (g.holds i w.0, h.holds i w.1);
    fails = λ i w p. elim w [ inl n ↦ g.fails i n p.0 | inr m ↦ h.fails i m p.1 ];
    one = λ i. elim (g.one i) [ inl y ↦ elim (h.one i) [ inl z ↦ inl (y, z) | inr m ↦ inr (inr m) ] | inr n ↦ inr (inl n) ];
  }

  or_agrees : Agrees (λ i. P i ⊎ Q i) (λ i. Y i ⊎ Z i) (λ i. N i × M i)
  or_agrees = record {
    holds = λ i w. elim w [ inl y ↦ inl (g.holds i y) | inr z ↦ inr (h.holds i z) ];
    fails = λ i w p. elim p [ inl x ↦ g.fails i w.0 x | inr x ↦ h.fails i w.1 x ];
    one = λ i. elim (g.one i) [ inl y ↦ inl (inl y) | inr n ↦ elim (h.one i) [ inl z ↦ inl (inr z) | inr m ↦ inr (n, m) ] ];
  }

implies_agrees : {P Y N Q Z M : ℕ → Type 0} → Agrees P Y N → Agrees Q Z M → Agrees (λ i. P i → Q i) (λ i. N i ⊎ Z i) (λ i. Y i × M i)
implies_agrees g h =
    also_agrees (or_agrees (not_agrees g) h) _ (λ i w p. elim w [ inl n ↦ absurd (n p) | inr q ↦ q ]) (λ i f k. k (inl (λ p. k (inr (f p)))))

iff_agrees : {P Y N Q Z M : ℕ → Type 0} → Agrees P Y N → Agrees Q Z M → Agrees (λ i. P i ↔ Q i) (λ i. (Y i × Z i) ⊎ (N i × M i)) (λ i. (N i ⊎ M i) × (Y i ⊎ Z i))
iff_agrees g h =
    also_agrees (or_agrees (and_agrees g h) (and_agrees (not_agrees g) (not_agrees h))) _
    (λ i w. elim w [ inl b ↦ ((λ _. b.1), λ _. b.0) | inr n ↦ ((λ p. absurd (n.0 p)), λ q. absurd (n.1 q)) ])
    (λ i f k. k (inr ((λ p. k (inl (p, f.0 p))), λ q. k (inl (f.1 q, q)))))

always_agrees : Agrees (λ _. Unit {0}) (λ _. Unit {0}) (λ _. ⊥)
always_agrees = record { holds = λ i h. h; fails = λ i h. absurd h; one = λ i. inl tt }

never_agrees : Agrees (λ _. ⊥) (λ _. ⊥) (λ _. Unit {0})
never_agrees = record { holds = λ i h. h; fails = λ i t h. h; one = λ i. inr tt }

module _ (truth : ℕ → ℕ → Bool) (step : ℕ → ℕ) (decide_until : (a b : ℕ → Type 0) → ((i : ℕ) → Dec (a i)) → ((i : ℕ) → Dec (b i)) → (i : ℕ) → Dec (HoldsUntil step a b i)) where
  next_agrees : {P Y N : ℕ → Type 0} → Agrees P Y N → Agrees (λ i. P (step i)) (λ i. Y (step i)) (λ i. N (step i))
  next_agrees g = record { holds = λ i. g.holds (step i); fails = λ i. g.fails (step i); one = λ i. g.one (step i) }

  until_agrees : {P Y N Q Z M : ℕ → Type 0} → Agrees P Y N → Agrees Q Z M → Agrees (HoldsUntil step P Q) (HoldsUntil step Y Z) (HoldsRelease step N M)
  until_agrees {P} {Y} {N} {Q} {Z} {M} g h = record {
    holds = until_map step g.holds h.holds;
    fails = λ i r. not_until_from_release step P Q i (release_map step g.fails h.fails i r);
    one = λ i. elim (decide_until Y Z (form_decided g) (form_decided h) i) [
      | yes u ↦ inl u
      | no n ↦ inr (release_map step (other_form g) (other_form h) i (release_from_not_until step (form_decided g) (form_decided h) i n))
    ];
  }

  release_agrees : {P Y N Q Z M : ℕ → Type 0} → Agrees P Y N → Agrees Q Z M → Agrees (HoldsRelease step P Q) (HoldsRelease step Y Z) (HoldsUntil step N M)
  release_agrees {P} {Y} {N} {Q} {Z} {M} g h = record {
    holds = release_map step g.holds h.holds;
    fails = λ i u. not_release_from_until step P Q i (until_map step g.fails h.fails i u);
    one = λ i. swapped ((until_agrees (not_agrees g) (not_agrees h)).one i);
  }

  -- the normal forms of a formula and of its negation
  agrees : (F : Formula) → Agrees (Satisfied truth step F) (Holds truth step (normal_form true F)) (Holds truth step (normal_form false F))
  agrees (Constant true) = record { holds = λ i h. refl; fails = λ i h. absurd h; one = λ i. inl tt }
  agrees (Constant false) = record { holds = λ i h. absurd h; fails = λ i t e. true≢false (sym e); one = λ i. inr tt }
  agrees (Proposition p) = record { holds = λ i h. h; fails = λ i n h. true≢false (sym h ∙ n); one = λ i. cases_Bool (truth i p) }
  agrees (Unary Not a) = not_agrees (agrees a)
  agrees (Unary Next a) = next_agrees (agrees a)
  agrees (Unary Always a) = release_agrees never_agrees (agrees a)
  agrees (Unary Eventually a) = until_agrees always_agrees (agrees a)
  agrees (Binary And a b) = and_agrees (agrees a) (agrees b)
  agrees (Binary Or a b) = or_agrees (agrees a) (agrees b)
  agrees (Binary Implies a b) = implies_agrees (agrees a) (agrees b)
  agrees (Binary Iff a b) = iff_agrees (agrees a) (agrees b)
  agrees (Binary Until a b) = until_agrees (agrees a) (agrees b)
  agrees (Binary Release a b) = release_agrees (agrees a) (agrees b)

  -- satisfaction is decided where `U` is
  pub decided : (F : Formula) (i : ℕ) → Dec (Satisfied truth step F i)
  decided F i = elim ((agrees F).one i) [ inl y ↦ yes ((agrees F).holds i y) | inr n ↦ no ((agrees F).fails i n) ]

  pub yes_form : (F : Formula) (i : ℕ) → Satisfied truth step F i ↔ Holds truth step (normal_form true F) i
  yes_form F i = ((λ h. elim ((agrees F).one i) [ inl y ↦ y | inr n ↦ absurd ((agrees F).fails i n h) ]), (agrees F).holds i)

  pub no_form : (F : Formula) (i : ℕ) → (¬ (Satisfied truth step F i)) ↔ Holds truth step (normal_form false F) i
  no_form F i = ((λ m. other_form (agrees F) i (λ y. m ((agrees F).holds i y))), (agrees F).fails i)
