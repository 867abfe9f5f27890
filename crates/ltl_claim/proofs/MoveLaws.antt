-- Guards in postfix order: where one ends, when two are the same, and their steps with numbers in place of names.
use Rattle.std.proofs.Common.{◌≡◌, ◌∙◌, ℕ, zero, suc, ◌+◌, ◌-◌, ◌<◌, ◌≤◌, Bool, true, false, ◌&&◌, List, [], ◌∷◌, ◌++◌, map, length, get_or, take, drop, refl, sym, ap, subst, arith, inl, inr}
use Rattle.std.specs.Prelude.{fold, ◌⊎◌}
use Rattle.std.specs.Bool.{beq}
use Rattle.std.proofs.lemmas.List.{map-append, map_more, drop_all, drop_more, get_or_push, get_or-map, get_or-take, length_push, take-append-le, take-map, take_all, take_more}
use Rattle.std.proofs.lemmas.List.Sums.{fold-append}
use Rattle.ltl_spec.specs.Semantics.Word.{Name}
use Rattle.ltl_spec.specs.Claims.ClaimProgram.{Guard, Constant, Named, Not, And, Or}
use Rattle.ltl_spec.proofs.Formulas.NameLaws.{same_exact, same_self}
use Rattle.ltl_claim.specs.declared.claim.GuardStep.TheVariants as step
use Rattle.ltl_claim.specs.ClaimView.{same_guard, steps_of}
use Rattle.ltl_claim.specs.declared.program.NamedStep.{NamedStep}
use Rattle.ltl_claim.specs.ProgramView.{StepView, step_of, ConstantStep, NameStep, NotStep, AndStep, OrStep, guards_of, named_steps, with_step}
use Rattle.ltl_claim.specs.ResolveView.{numbered, same_step, wanted_before, wanted_of}
use Rattle.ltl_claim.proofs.ProgramLaws.{mapped_length}

-- ---- the guards that steps stand for

-- the steps of one guard more
pub guard_behind : (g : Guard) (gs : List Guard) → fold with_step gs (named_steps g) ≡ g ∷ gs
guard_behind (Constant b) gs = refl
guard_behind (Named n) gs = refl
guard_behind (Not g) gs = fold-append with_step gs (named_steps g) (NotStep ∷ []) ∙ ap (λ hs. with_step hs NotStep) (guard_behind g gs)
guard_behind (And g h) gs =
    fold-append with_step gs (named_steps g ++ named_steps h) (AndStep ∷ [])
    ∙ ap (λ hs. with_step hs AndStep) (fold-append with_step gs (named_steps g) (named_steps h) ∙ ap (λ hs. fold with_step hs (named_steps h)) (guard_behind g gs) ∙ guard_behind h (g ∷ gs))
guard_behind (Or g h) gs =
    fold-append with_step gs (named_steps g ++ named_steps h) (OrStep ∷ [])
    ∙ ap (λ hs. with_step hs OrStep) (fold-append with_step gs (named_steps g) (named_steps h) ∙ ap (λ hs. fold with_step hs (named_steps h)) (guard_behind g gs) ∙ guard_behind h (g ∷ gs))

pub one_guard_of : (g : Guard) → guards_of (named_steps g) ≡ g ∷ []
one_guard_of g = guard_behind g []

pub two_guards_of : (g h : Guard) → guards_of (named_steps g ++ named_steps h) ≡ h ∷ g ∷ []
two_guards_of g h = fold-append with_step [] (named_steps g) (named_steps h) ∙ ap (λ hs. fold with_step hs (named_steps h)) (guard_behind g []) ∙ guard_behind h (g ∷ [])

abbrev first_guard : Guard → List Guard → Guard
first_guard d [] = d
first_guard d (g ∷ gs) = g

-- a guard is known by its steps
pub guard_by_steps : (g h : Guard) → named_steps g ≡ named_steps h → g ≡ h
guard_by_steps g h e = ap (first_guard g) (sym (one_guard_of g) ∙ ap guards_of e ∙ one_guard_of h)

-- ---- when two are the same

beq_self : (b : Bool) → beq b b ≡ true
beq_self true = refl
beq_self false = refl

beq_exact : (a b : Bool) → beq a b ≡ true → a ≡ b
beq_exact true true e = refl
beq_exact true false e = cc
beq_exact false true e = cc
beq_exact false false e = refl

both_true : {a b : Bool} → a ≡ true → b ≡ true → (a && b) ≡ true
both_true e f = λ i. e i && f i

left_true : (a b : Bool) → (a && b) ≡ true → a ≡ true
left_true true b e = refl
left_true false b e = e

right_true : (a b : Bool) → (a && b) ≡ true → b ≡ true
right_true true b e = e
right_true false b e = cc

pub same_step_self : (s : StepView) → same_step s s ≡ true
same_step_self (ConstantStep b) = beq_self b
same_step_self (NameStep n) = same_self n
same_step_self NotStep = refl
same_step_self AndStep = refl
same_step_self OrStep = refl

pub same_step_exact : (s t : StepView) → same_step s t ≡ true → s ≡ t
same_step_exact (ConstantStep a) (ConstantStep b) e = ap ConstantStep (beq_exact a b e)
same_step_exact (ConstantStep a) (NameStep n) e = cc
same_step_exact (ConstantStep a) NotStep e = cc
same_step_exact (ConstantStep a) AndStep e = cc
same_step_exact (ConstantStep a) OrStep e = cc
same_step_exact (NameStep m) (ConstantStep b) e = cc
same_step_exact (NameStep m) (NameStep n) e = ap NameStep (same_exact m n e)
same_step_exact (NameStep m) NotStep e = cc
same_step_exact (NameStep m) AndStep e = cc
same_step_exact (NameStep m) OrStep e = cc
same_step_exact NotStep (ConstantStep b) e = cc
same_step_exact NotStep (NameStep n) e = cc
same_step_exact NotStep NotStep e = refl
same_step_exact NotStep AndStep e = cc
same_step_exact NotStep OrStep e = cc
same_step_exact AndStep (ConstantStep b) e = cc
same_step_exact AndStep (NameStep n) e = cc
same_step_exact AndStep NotStep e = cc
same_step_exact AndStep AndStep e = refl
same_step_exact AndStep OrStep e = cc
same_step_exact OrStep (ConstantStep b) e = cc
same_step_exact OrStep (NameStep n) e = cc
same_step_exact OrStep NotStep e = cc
same_step_exact OrStep AndStep e = cc
same_step_exact OrStep OrStep e = refl

pub same_guard_self : (g : Guard) → same_guard g g ≡ true
same_guard_self (Constant b) = beq_self b
same_guard_self (Named n) = same_self n
same_guard_self (Not g) = same_guard_self g
same_guard_self (And g h) = both_true (same_guard_self g) (same_guard_self h)
same_guard_self (Or g h) = both_true (same_guard_self g) (same_guard_self h)

pub same_guard_exact : (g h : Guard) → same_guard g h ≡ true → g ≡ h
same_guard_exact (Constant a) (Constant b) e = ap Constant (beq_exact a b e)
same_guard_exact (Constant a) (Named n) e = cc
same_guard_exact (Constant a) (Not h) e = cc
same_guard_exact (Constant a) (And h k) e = cc
same_guard_exact (Constant a) (Or h k) e = cc
same_guard_exact (Named m) (Constant b) e = cc
same_guard_exact (Named m) (Named n) e = ap Named (same_exact m n e)
same_guard_exact (Named m) (Not h) e = cc
same_guard_exact (Named m) (And h k) e = cc
same_guard_exact (Named m) (Or h k) e = cc
same_guard_exact (Not g) (Constant b) e = cc
same_guard_exact (Not g) (Named n) e = cc
same_guard_exact (Not g) (Not h) e = ap Not (same_guard_exact g h e)
same_guard_exact (Not g) (And h k) e = cc
same_guard_exact (Not g) (Or h k) e = cc
same_guard_exact (And a b) (Constant c) e = cc
same_guard_exact (And a b) (Named n) e = cc
same_guard_exact (And a b) (Not h) e = cc
same_guard_exact (And a b) (And c d) e =
    let p = same_guard_exact a c (left_true (same_guard a c) (same_guard b d) e) in
    let q = same_guard_exact b d (right_true (same_guard a c) (same_guard b d) e) in
    λ i. And (p i) (q i)
same_guard_exact (And a b) (Or h k) e = cc
same_guard_exact (Or a b) (Constant c) e = cc
same_guard_exact (Or a b) (Named n) e = cc
same_guard_exact (Or a b) (Not h) e = cc
same_guard_exact (Or a b) (And h k) e = cc
same_guard_exact (Or a b) (Or c d) e =
    let p = same_guard_exact a c (left_true (same_guard a c) (same_guard b d) e) in
    let q = same_guard_exact b d (right_true (same_guard a c) (same_guard b d) e) in
    λ i. Or (p i) (q i)

-- one guard is the negation of another one if its steps are those of the other one, and then the negation
pub negation_is : (r : Bool) (xs ys : List StepView) → (r ≡ true → ys ≡ xs ++ NotStep ∷ []) → (ys ≡ xs ++ NotStep ∷ [] → r ≡ true)
    → (g h : Guard) → xs ≡ named_steps g → ys ≡ named_steps h → r ≡ same_guard h (Not g)
negation_is r xs ys to from g h e f = go r (same_guard h (Not g)) forth back
  where
    forth : r ≡ true → same_guard h (Not g) ≡ true
    forth q =
        let k : h ≡ Not g = guard_by_steps h (Not g) (sym f ∙ to q ∙ ap (λ zs. zs ++ NotStep ∷ []) e) in
        ap (λ x. same_guard x (Not g)) k ∙ same_guard_self (Not g)

    back : same_guard h (Not g) ≡ true → r ≡ true
    back q = from (f ∙ ap named_steps (same_guard_exact h (Not g) q) ∙ ap (λ zs. zs ++ NotStep ∷ []) (sym e))

    go : (a b : Bool) → (a ≡ true → b ≡ true) → (b ≡ true → a ≡ true) → a ≡ b
    go true true p q = refl
    go true false p q = sym (p refl)
    go false true p q = q refl
    go false false p q = refl

-- ---- where the first guard of two ends

wanted_append : (n : ℕ) (xs ys : List StepView) → wanted_of n (xs ++ ys) ≡ wanted_of (wanted_of n ys) xs
wanted_append n [] ys = refl
wanted_append n (x ∷ xs) ys = ap (wanted_before x) (wanted_append n xs ys)

-- behind a guard one operand more is wanted than before it
pub wanted_guard : (g : Guard) (n : ℕ) → wanted_of (suc n) (named_steps g) ≡ n
wanted_guard (Constant b) n = omega arith
wanted_guard (Named x) n = omega arith
wanted_guard (Not g) n = wanted_append (suc n) (named_steps g) (NotStep ∷ []) ∙ wanted_guard g n
wanted_guard (And g h) n =
    wanted_append (suc n) (named_steps g ++ named_steps h) (AndStep ∷ []) ∙ wanted_append (suc n + 1) (named_steps g) (named_steps h)
    ∙ ap (λ k. wanted_of k (named_steps g)) (ap (λ k. wanted_of k (named_steps h)) (the_next n) ∙ wanted_guard h (suc n)) ∙ wanted_guard g n
  where
    the_next : (n : ℕ) → suc n + 1 ≡ suc (suc n)
    the_next n = omega arith
wanted_guard (Or g h) n =
    wanted_append (suc n) (named_steps g ++ named_steps h) (OrStep ∷ []) ∙ wanted_append (suc n + 1) (named_steps g) (named_steps h)
    ∙ ap (λ k. wanted_of k (named_steps g)) (ap (λ k. wanted_of k (named_steps h)) (the_next n) ∙ wanted_guard h (suc n)) ∙ wanted_guard g n
  where
    the_next : (n : ℕ) → suc n + 1 ≡ suc (suc n)
    the_next n = omega arith

inside_or_past : (a b : ℕ) → (a ≤ b) ⊎ (b < a)
inside_or_past a b = grind arith

drop_within : {X : Type 0} (k : ℕ) (xs ys : List X) → k ≤ length xs → drop k (xs ++ ys) ≡ drop k xs ++ ys
drop_within zero xs ys l = refl
drop_within (suc k) [] ys l = absurd (omega (arith, l))
drop_within (suc k) (x ∷ xs) ys l = drop_within k xs ys (omega (arith, l))

drop_past : {X : Type 0} (k : ℕ) (xs ys : List X) → length xs ≤ k → drop k (xs ++ ys) ≡ drop (k - length xs) ys
drop_past k [] ys l = ap (λ n. drop n ys) (omega arith)
drop_past zero (x ∷ xs) ys l = absurd (omega (arith, l))
drop_past (suc k) (x ∷ xs) ys l = drop_past k xs ys (omega (arith, l)) ∙ ap (λ n. drop n ys) (shift k (length xs))
  where
    shift : (k n : ℕ) → k - n ≡ suc k - suc n
    shift k n = omega arith

-- behind all steps so many operands are wanted as behind the guard
wanted_past : (n k : ℕ) (ss : List StepView) → length ss ≤ k → n < wanted_of (suc n) (drop k ss)
wanted_past n k ss l = subst (λ ts. n < wanted_of (suc n) ts) (sym (drop_all k ss l)) (omega arith)

module _ (xs ys : List StepView) (n k : ℕ) where
  abbrev EndsWanting : List StepView → Type 0
  EndsWanting ss = (n k : ℕ) → 0 < k → n < wanted_of (suc n) (drop k ss)

  two_end : ((n : ℕ) → wanted_of (suc n) ys ≡ n) → EndsWanting xs → EndsWanting ys → 0 < k → n < wanted_of (suc n + 1) (drop k (xs ++ ys))
  two_end w a b p = elim (inside_or_past k (length xs)) [
    | inl l ↦
        let e : wanted_of (suc n + 1) (drop k xs ++ ys) ≡ wanted_of (suc n) (drop k xs) =
        wanted_append (suc n + 1) (drop k xs) ys ∙ ap (λ m. wanted_of m (drop k xs)) (ap (λ m. wanted_of m ys) one_next ∙ w (suc n)) in
        subst (λ ss. n < wanted_of (suc n + 1) ss) (sym (drop_within k xs ys l)) (subst (λ m. n < m) (sym e) (a n k p))
    | inr l ↦
        let h = b (suc n) (k - length xs) (omega (arith, l)) in
        let f : wanted_of (suc n + 1) (drop (k - length xs) ys) ≡ wanted_of (suc (suc n)) (drop (k - length xs) ys) = ap (λ m. wanted_of m (drop (k - length xs) ys)) one_next in
        subst (λ ss. n < wanted_of (suc n + 1) ss) (sym (drop_past k xs ys (omega (arith, l)))) (subst (λ m. n < m) (sym f) (omega (arith, h)))
  ]
    where
      one_next : suc n + 1 ≡ suc (suc n)
      one_next = omega arith

  -- behind an operator with two operands
  joined_end : (s : StepView) → wanted_before s (suc n) ≡ suc n + 1 → ((n : ℕ) → wanted_of (suc n) ys ≡ n) → EndsWanting xs → EndsWanting ys → 0 < k → n < wanted_of (suc n) (drop k ((xs ++ ys) ++ s ∷ []))
  joined_end s o w a b p = elim (inside_or_past k (length (xs ++ ys))) [
    | inl l ↦
        let e : wanted_of (suc n) (drop k (xs ++ ys) ++ s ∷ []) ≡ wanted_of (suc n + 1) (drop k (xs ++ ys)) =
        wanted_append (suc n) (drop k (xs ++ ys)) (s ∷ []) ∙ ap (λ m. wanted_of m (drop k (xs ++ ys))) o in
        subst (λ ss. n < wanted_of (suc n) ss) (sym (drop_within k (xs ++ ys) (s ∷ []) l)) (subst (λ m. n < m) (sym e) (two_end w a b p))
    | inr l ↦ let h = length_push (xs ++ ys) s in wanted_past n k ((xs ++ ys) ++ s ∷ []) (omega (arith, h, l))
  ]

-- the end of a guard, which isn't the whole guard
wanted_end : (g : Guard) (n k : ℕ) → 0 < k → n < wanted_of (suc n) (drop k (named_steps g))
wanted_end (Constant b) n k p = wanted_past n k (ConstantStep b ∷ []) (omega (arith, p))
wanted_end (Named x) n k p = wanted_past n k (NameStep x ∷ []) (omega (arith, p))
wanted_end (Not g) n k p = elim (inside_or_past k (length (named_steps g))) [
  | inl l ↦
      subst (λ ss. n < wanted_of (suc n) ss) (sym (drop_within k (named_steps g) (NotStep ∷ []) l))
      (subst (λ m. n < m) (sym (wanted_append (suc n) (drop k (named_steps g)) (NotStep ∷ []))) (wanted_end g n k p))
  | inr l ↦ let h = length_push (named_steps g) NotStep in wanted_past n k (named_steps g ++ NotStep ∷ []) (omega (arith, h, l))
]
wanted_end (And g h) n k p = joined_end (named_steps g) (named_steps h) n k AndStep refl (wanted_guard h) (wanted_end g) (wanted_end h) p
wanted_end (Or g h) n k p = joined_end (named_steps g) (named_steps h) n k OrStep refl (wanted_guard h) (wanted_end g) (wanted_end h) p

-- the first guard of two ends at or before this place
abbrev pub EndsBy : List StepView → ℕ → Type 0
EndsBy ss at = (g h : Guard) → ss ≡ named_steps g ++ named_steps h → length (named_steps g) ≤ at

-- it ends before, as long as operands are wanted
pub ends_before : (ss : List StepView) (at w : ℕ) → w ≡ wanted_of 1 (drop at ss) → 0 < w → 0 < at → EndsBy ss at → EndsBy ss (at - 1)
ends_before ss at w e p q b g h f = elim (inside_or_past at (length (named_steps g))) [
  | inl l ↦
      let r = b g h f in
      let k : at - length (named_steps g) ≡ 0 = omega (arith, l) in
      let none : wanted_of 1 (drop at ss) ≡ 0 =
      ap (λ ts. wanted_of 1 (drop at ts)) f ∙ ap (wanted_of 1) (drop_past at (named_steps g) (named_steps h) r ∙ ap (λ n. drop n (named_steps h)) k) ∙ wanted_guard h 0 in
      absurd (omega (arith, e, p, none))
  | inr l ↦ omega (arith, l)
]

-- where no more operand is wanted, or at the beginning, it ends
pub ends_here : (ss : List StepView) (at w : ℕ) → w ≡ wanted_of 1 (drop at ss) → w ≤ 0 → EndsBy ss at → (g h : Guard) → ss ≡ named_steps g ++ named_steps h → at ≡ length (named_steps g)
ends_here ss at w e z b g h f = elim (inside_or_past at (length (named_steps g))) [
  | inl l ↦ let r = b g h f in omega (arith, l, r)
  | inr l ↦
      let some = wanted_end h 0 (at - length (named_steps g)) (omega (arith, l)) in
      let same : wanted_of 1 (drop at ss) ≡ wanted_of 1 (drop (at - length (named_steps g)) (named_steps h)) =
      ap (λ ts. wanted_of 1 (drop at ts)) f ∙ ap (wanted_of 1) (drop_past at (named_steps g) (named_steps h) (omega (arith, l))) in
      absurd (omega (arith, e, z, some, same))
]

pub wanted_small : (s : StepView) (n : ℕ) → wanted_before s n ≤ n + 1
wanted_small (ConstantStep b) n = omega arith
wanted_small (NameStep x) n = omega arith
wanted_small NotStep n = omega arith
wanted_small AndStep n = omega arith
wanted_small OrStep n = omega arith

-- ---- steps with numbers

pub numbered_steps : (names : List Name) (g : Guard) → map (numbered names) (named_steps g) ≡ steps_of names g
numbered_steps names (Constant b) = refl
numbered_steps names (Named n) = refl
numbered_steps names (Not g) = map-append (numbered names) (named_steps g) (NotStep ∷ []) ∙ ap (λ ss. ss ++ step.Not ∷ []) (numbered_steps names g)
numbered_steps names (And g h) =
    map-append (numbered names) (named_steps g ++ named_steps h) (AndStep ∷ [])
    ∙ ap (λ ss. ss ++ step.And ∷ []) (map-append (numbered names) (named_steps g) (named_steps h) ∙ (λ i. numbered_steps names g i ++ numbered_steps names h i))
numbered_steps names (Or g h) =
    map-append (numbered names) (named_steps g ++ named_steps h) (OrStep ∷ [])
    ∙ ap (λ ss. ss ++ step.Or ∷ []) (map-append (numbered names) (named_steps g) (named_steps h) ∙ (λ i. numbered_steps names g i ++ numbered_steps names h i))

-- one guard is the negation of another one, by its length, its last step, and its beginning
pub negates_by : (xs ys : List StepView) (n : ℕ) (r : Bool) → n ≡ length xs → length ys ≡ n + 1 → get_or ys n NotStep ≡ NotStep → (r ≡ true → xs ≡ take n ys) → (xs ≡ take n ys → r ≡ true)
    → (g h : Guard) → xs ≡ named_steps g → ys ≡ named_steps h → r ≡ same_guard h (Not g)
negates_by xs ys n r e long last to from g h = negation_is r xs ys (λ q. with_last (to q)) (λ q. from (cut q)) g h
  where
    with_last : xs ≡ take n ys → ys ≡ xs ++ NotStep ∷ []
    with_last q = sym (take_all (n + 1) ys (omega (arith, long))) ∙ take_more ys n NotStep (omega (arith, long)) ∙ (λ i. sym q i ++ last i ∷ [])

    cut : ys ≡ xs ++ NotStep ∷ [] → xs ≡ take n ys
    cut q = sym ((λ i. take (e i) (q i)) ∙ take-append-le (length xs) xs (NotStep ∷ []) (omega arith) ∙ take_all (length xs) xs (omega arith))

-- a guard of another length, or with another last step, is no negation
pub other_length : (xs ys : List StepView) (n m : ℕ) → n ≡ length xs → m ≡ length ys → (m ≡ n + 1 → ⊥) → (g h : Guard) → xs ≡ named_steps g → ys ≡ named_steps h → false ≡ same_guard h (Not g)
other_length xs ys n m e f apart g h =
    negation_is false xs ys (λ q. cc) (λ q. absurd (let l = ap length q in let k = length_push xs NotStep in apart (omega (arith, l, k, e, f)))) g h

pub other_last : (xs ys : List StepView) (n : ℕ) → n ≡ length xs → same_step (get_or ys n NotStep) NotStep ≡ false → (g h : Guard) → xs ≡ named_steps g → ys ≡ named_steps h → false ≡ same_guard h (Not g)
other_last xs ys n e apart g h = negation_is false xs ys (λ q. cc) (λ q. sym apart ∙ ap (λ s. same_step s NotStep) (last q)) g h
  where
    last : ys ≡ xs ++ NotStep ∷ [] → get_or ys n NotStep ≡ NotStep
    last q = ap (λ zs. get_or zs n NotStep) q ∙ get_or_push xs NotStep NotStep n (sym e)

-- ---- the steps of the code

pub wanted_more : (steps : List NamedStep) (at w : ℕ) (d : NamedStep) → 0 < at → at ≤ length steps → w ≡ wanted_of 1 (drop at (map step_of steps))
    → wanted_before (step_of (get_or steps (at - 1) d)) w ≡ wanted_of 1 (drop (at - 1) (map step_of steps))
wanted_more steps at w d p l e =
    let m = mapped_length step_of steps in
    let one : at - 1 + 1 ≡ at = omega (arith, p) in
    let inside : at - 1 < length steps = omega (arith, p, l) in
    (λ i. wanted_before (sym (get_or-map step_of steps (at - 1) d (step_of d) inside) i) ((e ∙ ap (λ n. wanted_of 1 (drop n (map step_of steps))) (sym one)) i))
    ∙ ap (wanted_of 1) (sym (drop_more (map step_of steps) (at - 1) (step_of d) (omega (arith, p, l, m))))

module _ (xs ys : List NamedStep) (short : length xs ≤ length ys) (i : ℕ) where
  pub start_more : (d : NamedStep) → i < length xs → same_step (step_of (get_or xs i d)) (step_of (get_or ys i d)) ≡ true → map step_of (take i xs) ≡ map step_of (take i ys)
      → map step_of (take (i + 1) xs) ≡ map step_of (take (i + 1) ys)
  start_more d l e h =
      map_more step_of xs i d l ∙ (λ j. h j ++ same_step_exact (step_of (get_or xs i d)) (step_of (get_or ys i d)) e j ∷ []) ∙ sym (map_more step_of ys i d (omega (arith, l, short)))

  pub start_stop : (d : NamedStep) → i < length xs → same_step (step_of (get_or xs i d)) (step_of (get_or ys i d)) ≡ false → map step_of xs ≡ take (length xs) (map step_of ys) → false ≡ true
  start_stop d l e h = sym e ∙ ap (same_step (step_of (get_or xs i d))) (sym same) ∙ same_step_self (step_of (get_or xs i d))
    where
      same : step_of (get_or xs i d) ≡ step_of (get_or ys i d)
      same =
          sym (get_or-map step_of xs i d (step_of d) l) ∙ ap (λ zs. get_or zs i (step_of d)) h ∙ get_or-take (length xs) (map step_of ys) i (step_of d) l
          ∙ get_or-map step_of ys i d (step_of d) (omega (arith, l, short))

  pub start_all : length xs ≤ i → i ≤ length xs → map step_of (take i xs) ≡ map step_of (take i ys) → map step_of xs ≡ take (length xs) (map step_of ys)
  start_all l m h =
      let n : i ≡ length xs = omega (arith, l, m) in
      ap (map step_of) (sym (take_all i xs l)) ∙ h ∙ sym (take-map step_of i ys) ∙ ap (λ k. take k (map step_of ys)) n
