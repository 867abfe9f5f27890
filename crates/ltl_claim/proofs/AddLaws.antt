-- The moves of an option, by what it begins with.
use Rattle.std.proofs.Common.{◌≡◌, ◌∙◌, ℕ, Bool, true, false, List, [], ◌∷◌, ◌++◌, map, length, get_or, slice_index_or, take, drop, ◌<◌, Some, refl, sym, ap, subst, if◌then◌else◌}
use Rattle.std.proofs.lemmas.List.{append-nil, append_assoc, drop-map, get_or_default, map-append, take-map}
use Rattle.ltl_spec.specs.Semantics.Word.{Name}
use Rattle.ltl_spec.specs.Claims.ClaimProgram.{Guard, Link, First, Program}
use Rattle.ltl_spec.specs.Claims.ClaimProgram as spec
use Rattle.ltl_spec.specs.Claims.ClaimMachine.{statement_at}
use Rattle.ltl_spec.specs.Claims.ClaimMeaning.{leads, end}
use Rattle.ltl_claim.specs.declared.claim.GuardStep.{GuardStep}
use Rattle.ltl_claim.specs.declared.claim.GuardStep.TheVariants as step
use Rattle.ltl_claim.specs.ClaimView.{MoveView, made_moves, same_guard, steps_of}
use Rattle.ltl_claim.specs.ProgramView.{BothKind, CheckKind, HoldsGuards, LeapKind, OptionView, OtherwiseKind, StepView, TestKind, first_of, guards_of, named_steps, option_of, step_of}
use Rattle.ltl_claim.specs.declared.program.NamedStep.{NamedStep}
use Rattle.ltl_claim.specs.ResolveView.{EnablesBy, both_moves, move_of, no_option, numbered, option_moves, otherwise_guard}
use Rattle.ltl_claim.proofs.MoveLaws.{numbered_steps, one_guard_of, two_guards_of}

take_first : {X : Type 0} (xs ys : List X) → take (length xs) (xs ++ ys) ≡ xs
take_first [] ys = refl
take_first (x ∷ xs) ys = ap (λ zs. x ∷ zs) (take_first xs ys)

drop_first : {X : Type 0} (xs ys : List X) → drop (length xs) (xs ++ ys) ≡ ys
drop_first [] ys = refl
drop_first (x ∷ xs) ys = drop_first xs ys

pub taken : {X Y : Type 0} (f : X → Y) (n : ℕ) (xs ys : List X) → xs ≡ ys → map f (take n xs) ≡ take n (map f ys)
taken f n xs ys e = ap (λ zs. map f (take n zs)) e ∙ sym (take-map f n ys)

-- ---- what options begin with

pub test_first : (steps : List StepView) (g : Guard) → steps ≡ named_steps g → first_of TestKind (guards_of steps) ≡ spec.Test g
test_first steps g e = ap (first_of TestKind) (ap guards_of e ∙ one_guard_of g)

pub check_first : (steps : List StepView) (g : Guard) → steps ≡ named_steps g → first_of CheckKind (guards_of steps) ≡ spec.Check g
check_first steps g e = ap (first_of CheckKind) (ap guards_of e ∙ one_guard_of g)

pub both_first : (steps : List StepView) (g h : Guard) → steps ≡ named_steps g ++ named_steps h → first_of BothKind (guards_of steps) ≡ spec.Both g h
both_first steps g h e = ap (first_of BothKind) (ap guards_of e ∙ two_guards_of g h)

module _ (P : Program) (names : List Name) (old new : List GuardStep) (o : OptionView) where
  -- the steps of the guard are appended
  pub enables_test : o.kind ≡ TestKind → HoldsGuards o.kind o.steps → new ≡ old ++ map (numbered names) o.steps → EnablesBy P names (option_of o).first old true new
  enables_test k h e =
      let (g, s) = subst (λ k. HoldsGuards k o.steps) k h in
      subst (λ f. EnablesBy P names f old true new) (sym (ap (λ k. first_of k (guards_of o.steps)) k ∙ test_first o.steps g s))
      (refl, e ∙ ap (λ ss. old ++ ss) (ap (map (numbered names)) s ∙ numbered_steps names g))

  pub enables_both : (n : ℕ) → o.kind ≡ BothKind → HoldsGuards o.kind o.steps → ((g h : Guard) → o.steps ≡ named_steps g ++ named_steps h → n ≡ length (named_steps g))
      → new ≡ old ++ map (numbered names) (take n o.steps) → EnablesBy P names (option_of o).first old true new
  enables_both n k h m e =
      let (g, i, s) = subst (λ k. HoldsGuards k o.steps) k h in
      subst (λ f. EnablesBy P names f old true new) (sym (ap (λ k. first_of k (guards_of o.steps)) k ∙ both_first o.steps g i s))
      (refl, e ∙ ap (λ ss. old ++ map (numbered names) ss) ((λ j. take (m g i s j) (s j)) ∙ take_first (named_steps g) (named_steps i)) ∙ ap (λ ss. old ++ ss) (numbered_steps names g))

  pub enables_check : o.kind ≡ CheckKind → HoldsGuards o.kind o.steps → new ≡ old ++ step.Constant true ∷ [] → EnablesBy P names (option_of o).first old true new
  enables_check k h e =
      let (g, s) = subst (λ k. HoldsGuards k o.steps) k h in
      subst (λ f. EnablesBy P names f old true new) (sym (ap (λ k. first_of k (guards_of o.steps)) k ∙ check_first o.steps g s)) (refl, e)

  pub enables_leap : (l : Link) → o.kind ≡ LeapKind l → new ≡ old ++ step.Constant true ∷ [] → EnablesBy P names (option_of o).first old true new
  enables_leap l k e = subst (λ k. EnablesBy P names (first_of k (guards_of o.steps)) old true new) (sym k) (refl, e)

-- ---- moves

-- a move under a guard and more steps
abbrev pub made : List Name → List StepView → List GuardStep → ℕ → MoveView
made names guard steps target = record { steps = map (numbered names) guard ++ steps; target = target }

module _ (names : List Name) (guards : List StepView) where
  pub made_plain : (g : Guard) (t : ℕ) → guards ≡ named_steps g → made names guards [] t ≡ move_of names (g, t)
  made_plain g t e = ap (λ ss. record { steps = ss; target = t }) (append-nil (map (numbered names) guards) ∙ ap (map (numbered names)) e ∙ numbered_steps names g)

  pub made_not : (g : Guard) (t : ℕ) → guards ≡ named_steps g → made names guards (step.Not ∷ []) t ≡ move_of names (spec.Not g, t)
  made_not g t e = ap (λ ss. record { steps = ss ++ step.Not ∷ []; target = t }) (ap (map (numbered names)) e ∙ numbered_steps names g)

  both_steps : (g h : Guard) → guards ≡ named_steps g ++ named_steps h → map (numbered names) guards ≡ steps_of names g ++ steps_of names h
  both_steps g h e = ap (map (numbered names)) e ∙ map-append (numbered names) (named_steps g) (named_steps h) ∙ (λ i. numbered_steps names g i ++ numbered_steps names h i)

  pub made_and : (g h : Guard) (t : ℕ) → guards ≡ named_steps g ++ named_steps h → made names guards (step.And ∷ []) t ≡ move_of names (spec.And g h, t)
  made_and g h t e = ap (λ ss. record { steps = ss ++ step.And ∷ []; target = t }) (both_steps g h e)

  pub made_without : (g h : Guard) (t : ℕ) → guards ≡ named_steps g ++ named_steps h → made names guards (step.Not ∷ step.And ∷ []) t ≡ move_of names (spec.And g (spec.Not h), t)
  made_without g h t e =
      ap (λ ss. record { steps = ss ++ step.Not ∷ step.And ∷ []; target = t }) (both_steps g h e)
      ∙ ap (λ ss. record { steps = ss; target = t }) (shifted (steps_of names g) (steps_of names h))
    where
      shifted : (xs ys : List GuardStep) → (xs ++ ys) ++ step.Not ∷ step.And ∷ [] ≡ (xs ++ (ys ++ step.Not ∷ [])) ++ step.And ∷ []
      shifted xs ys =
          append_assoc xs ys (step.Not ∷ step.And ∷ []) ∙ ap (λ zs. xs ++ zs) (sym (append_assoc ys (step.Not ∷ []) (step.And ∷ [])))
          ∙ sym (append_assoc xs (ys ++ step.Not ∷ []) (step.And ∷ []))

  module _ (old : List MoveView) where
    -- two moves are added, one after the other
    twice : (a b : MoveView) (mid new : List MoveView) → mid ≡ old ++ a ∷ [] → new ≡ mid ++ b ∷ [] → new ≡ old ++ a ∷ b ∷ []
    twice a b mid new e f = f ∙ ap (λ ms. ms ++ b ∷ []) e ∙ append_assoc old (a ∷ []) (b ∷ [])

    -- an assertion by itself
    pub check_twice : (a b : MoveView) (mid new : List MoveView) (t e : ℕ) → a ≡ made names guards [] t → b ≡ made names guards (step.Not ∷ []) e → mid ≡ old ++ a ∷ [] → new ≡ mid ++ b ∷ []
        → (g : Guard) → guards ≡ named_steps g → new ≡ old ++ move_of names (g, t) ∷ move_of names (spec.Not g, e) ∷ []
    check_twice a b mid new t e p q m n g s = twice a b mid new m n ∙ (λ i. old ++ (p ∙ made_plain g t s) i ∷ (q ∙ made_not g e s) i ∷ [])

    -- an assertion behind its guard
    pub both_follow : (a b : MoveView) (mid new : List MoveView) (t e : ℕ) (r : Bool) → a ≡ made names guards (step.And ∷ []) t → b ≡ made names guards (step.Not ∷ step.And ∷ []) e
        → mid ≡ old ++ a ∷ [] → new ≡ mid ++ b ∷ [] → r ≡ false → (g h : Guard) → guards ≡ named_steps g ++ named_steps h → r ≡ same_guard h (spec.Not g)
        → new ≡ old ++ map (move_of names) (both_moves g h t e)
    both_follow a b mid new t e r p q m n f g h s k =
        twice a b mid new m n ∙ (λ i. old ++ (p ∙ made_and g h t s) i ∷ (q ∙ made_without g h e s) i ∷ [])
        ∙ ap (λ c. old ++ map (move_of names) (if c then (g, e) ∷ [] else (spec.And g h, t) ∷ (spec.And g (spec.Not h), e) ∷ [])) (sym f ∙ k)

-- an assertion that contradicts its guard
pub both_contradict : (names : List Name) (old new : List MoveView) (a : MoveView) (first : List StepView) (t e : ℕ) (r : Bool) → a ≡ made names first [] e → new ≡ old ++ a ∷ [] → r ≡ true
    → (g h : Guard) → first ≡ named_steps g → r ≡ same_guard h (spec.Not g) → new ≡ old ++ map (move_of names) (both_moves g h t e)
both_contradict names old new a first t e r p n f g h s k =
    n ∙ ap (λ m. old ++ m ∷ []) (p ∙ made_plain names first g e s)
    ∙ ap (λ c. old ++ map (move_of names) (if c then (g, e) ∷ [] else (spec.And g h, t) ∷ (spec.And g (spec.Not h), e) ∷ [])) (sym f ∙ k)

-- the halves of the steps of two guards
pub first_half : (steps : List StepView) (n : ℕ) (g h : Guard) → steps ≡ named_steps g ++ named_steps h → n ≡ length (named_steps g) → take n steps ≡ named_steps g
first_half steps n g h e m = (λ i. take (m i) (e i)) ∙ take_first (named_steps g) (named_steps h)

pub second_half : (steps : List StepView) (n : ℕ) (g h : Guard) → steps ≡ named_steps g ++ named_steps h → n ≡ length (named_steps g) → drop n steps ≡ named_steps h
second_half steps n g h e m = (λ i. drop (m i) (e i)) ∙ drop_first (named_steps g) (named_steps h)

-- ---- the moves of an option

module _ (P : Program) (names : List Name) (i : ℕ) (o : OptionView) (old new : List MoveView) where
  abbrev pub AddsMoves : Type 0
  AddsMoves = new ≡ old ++ map (move_of names) (option_moves P i (option_of o))

  -- by what the option begins with
  begun : (f : First) → (option_of o).first ≡ f → new ≡ old ++ map (move_of names) (made_moves P i f (leads P o.next (Some i))) → AddsMoves
  begun f e n = n ∙ ap (λ f. old ++ map (move_of names) (made_moves P i f (leads P o.next (Some i)))) (sym e)

  pub adds_test : o.kind ≡ TestKind → HoldsGuards o.kind o.steps → (t : ℕ) (a : MoveView) (ss : List StepView) → t ≡ leads P o.next (Some i) → a ≡ made names ss [] t → ss ≡ o.steps → new ≡ old ++ a ∷ [] → AddsMoves
  adds_test k h t a ss e p q n =
      let (g, s) = subst (λ k. HoldsGuards k o.steps) k h in
      begun (spec.Test g) (ap (λ k. first_of k (guards_of o.steps)) k ∙ test_first o.steps g s)
      (n ∙ ap (λ m. old ++ m ∷ []) (p ∙ made_plain names ss g t (q ∙ s) ∙ ap (λ u. move_of names (g, u)) e))

  pub adds_check : o.kind ≡ CheckKind → HoldsGuards o.kind o.steps → (t e : ℕ) → t ≡ leads P o.next (Some i) → e ≡ end P
      → ((g : Guard) → o.steps ≡ named_steps g → new ≡ old ++ move_of names (g, t) ∷ move_of names (spec.Not g, e) ∷ []) → AddsMoves
  adds_check k h t e f l n =
      let (g, s) = subst (λ k. HoldsGuards k o.steps) k h in
      begun (spec.Check g) (ap (λ k. first_of k (guards_of o.steps)) k ∙ check_first o.steps g s)
      (n g s ∙ (λ j. old ++ move_of names (g, f j) ∷ move_of names (spec.Not g, l j) ∷ []))

  pub adds_both : o.kind ≡ BothKind → HoldsGuards o.kind o.steps → (t e : ℕ) → t ≡ leads P o.next (Some i) → e ≡ end P
      → ((g h : Guard) → o.steps ≡ named_steps g ++ named_steps h → new ≡ old ++ map (move_of names) (both_moves g h t e)) → AddsMoves
  adds_both k h t e f l n =
      let (g, q, s) = subst (λ k. HoldsGuards k o.steps) k h in
      begun (spec.Both g q) (ap (λ k. first_of k (guards_of o.steps)) k ∙ both_first o.steps g q s)
      (n g q s ∙ (λ j. old ++ map (move_of names) (both_moves g q (f j) (l j))))

  pub adds_otherwise : o.kind ≡ OtherwiseKind → (os : List OptionView) (t : ℕ) (steps : List GuardStep) → t ≡ leads P o.next (Some i) → (statement_at P i).options ≡ map option_of os
      → steps ≡ steps_of names (otherwise_guard P (map option_of os)) → new ≡ old ++ record { steps = steps; target = t } ∷ [] → AddsMoves
  adds_otherwise k os t steps e f g n =
      begun spec.Otherwise (ap (λ k. first_of k (guards_of o.steps)) k)
      (n ∙ (λ j. old ++ record { steps = (g ∙ ap (λ ps. steps_of names (otherwise_guard P ps)) (sym f)) j; target = e j } ∷ []))

  pub adds_leap : (k : Link) → o.kind ≡ LeapKind k → (t : ℕ) (a : MoveView) → t ≡ leads P k (Some i) → a ≡ made names [] (step.Constant true ∷ []) t → new ≡ old ++ a ∷ [] → AddsMoves
  adds_leap k e t a f p n =
      begun (spec.Leaps k) (ap (λ k. first_of k (guards_of o.steps)) e) (n ∙ ap (λ m. old ++ m ∷ []) (p ∙ ap (λ u. record { steps = step.Constant true ∷ []; target = u }) f))

-- the same, of an option in a list
pub at_option : (P : Program) (names same : List Name) (i : ℕ) (o r : OptionView) (old new : List MoveView) (os : List OptionView) (j : ℕ) → names ≡ same → o ≡ r → r ≡ get_or os j r → j < length os
    → AddsMoves P names i o old new → new ≡ old ++ map (move_of same) (option_moves P i (option_of (slice_index_or os j no_option)))
at_option P names same i o r old new os j e f is l n = n ∙ (λ k. old ++ map (move_of (e k)) (option_moves P i (option_of ((f ∙ is ∙ get_or_default os j r no_option l) k))))

-- the parts of a slice as the code has them
pub first_slice : (guards : List NamedStep) (n : ℕ) (g h : Guard) → map step_of guards ≡ named_steps g ++ named_steps h → n ≡ length (named_steps g) → map step_of (take n guards) ≡ named_steps g
first_slice guards n g h e m = sym (take-map step_of n guards) ∙ first_half (map step_of guards) n g h e m

pub second_slice : (guards : List NamedStep) (n : ℕ) (g h : Guard) → map step_of guards ≡ named_steps g ++ named_steps h → n ≡ length (named_steps g) → map step_of (drop n guards) ≡ named_steps h
second_slice guards n g h e m = sym (drop-map step_of n guards) ∙ second_half (map step_of guards) n g h e m
