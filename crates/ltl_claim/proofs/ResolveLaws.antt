-- The claim of a sound program: its moves lead to statements or to the closing brace, and the steps of their guards name its propositions.
use Rattle.std.proofs.Common.{◌≡◌, ◌∙◌, ℕ, zero, suc, ◌<◌, ◌≤◌, Bool, true, false, List, [], ◌∷◌, ◌++◌, length, Option, Some, None, IfSome, if◌then◌else◌, slice_index_or, refl, sym, ap, subst, arith, inl, inr}
use Rattle.std.specs.List.{list_all}
use Rattle.std.specs.Prelude.{Ok, fold, flat_map, find, option_map, unwrap_or}
use Rattle.std.proofs.lemmas.List.{get_or_past}
use Rattle.ltl_spec.specs.Semantics.Word.{Name}
use Rattle.ltl_spec.specs.Collections.Lists.{HasNoRepeats}
use Rattle.ltl_spec.specs.Formulas.Names.{is_proposition}
use Rattle.ltl_spec.proofs.Collections.MemberLaws.{all_Decides}
use Rattle.ltl_spec.specs.Formulas.Tokens.{same_name}
use Rattle.ltl_spec.specs.Claims.ClaimProgram.{Guard, Constant, Named, Not, And, Or, Link, Go, Jump, Leave, Nothing, First, Test, Check, Both, Otherwise, Leaps, ClaimOption, Statement, ClaimLabel, Program}
use Rattle.ltl_spec.specs.Claims.ClaimMachine.{no_statement, statement_at}
use Rattle.ltl_spec.specs.Claims.ClaimMeaning.{enabled, end, follow, leads, nearest, one_of, program_names}
use Rattle.ltl_spec.proofs.Collections.ListLaws.{Has-first_occurrences, HasNoRepeats-first_occurrences, first_occurrences_cases, place_below}
use Rattle.ltl_spec.proofs.Formulas.NameLaws.{same_name_Decides}
use Rattle.ltl_claim.specs.declared.claim.GuardStep.TheVariants as step
use Rattle.ltl_claim.specs.ClaimView.{Answers, AreMoves, ClaimView, IsClaim, MoveView, made_moves, same_guard, statement_moves, steps_of}
use Rattle.ltl_claim.specs.Soundness.{AllOf, IsClaimWithin, IsFirstWithin, IsGuardOver, IsLinkWithin, IsMoveWithin, IsOptionWithin, IsSound, IsStatementWithin, IsStepWithin}
use Rattle.ltl_claim.specs.ClaimStep.{most_statements}
use Rattle.ltl_claim.specs.ProgramView.{BuiltView, program_of}
use Rattle.ltl_claim.specs.ResolveView.{AreNested}
use Rattle.ltl_claim.proofs.AnswerLaws.{answered}
use Rattle.ltl_claim.proofs.CountLaws.{few_statements}
use Rattle.ltl_claim.proofs.SoundLaws.{all_at, from_zero, inside_or_past, nested, of_append, sound}
use Rattle.ltl_claim.proofs.WayLaws.{at_view}

module _ (P : Program) (p : IsSound P) where
  -- each number stands for a statement whose parts are there
  within_at : (i : ℕ) → IsStatementWithin P.names (end P) i (statement_at P i)
  within_at i = elim (inside_or_past i (end P)) [
    | inl l ↦ subst (λ j. IsStatementWithin P.names (end P) j (statement_at P i)) (sym (from_zero i)) (all_at (IsStatementWithin P.names (end P)) 0 i no_statement P.statements p.statements l)
    | inr l ↦ subst (λ (s : Statement). IsStatementWithin P.names (end P) i s) (sym (get_or_past P.statements i no_statement l)) (tt, tt, tt)
  ]

  labelled_within : (l : Name) (ls : List ClaimLabel) → AllOf (λ x. x.statement ≤ end P) ls → unwrap_or (option_map (λ x. x.statement) (find (λ x. same_name l x.name) ls)) (end P) ≤ end P
  labelled_within l [] a = omega arith
  labelled_within l (x ∷ xs) a = go (same_name l x.name) (labelled_within l xs a.1)
    where
      go : (b : Bool) → unwrap_or (option_map (λ x. x.statement) (find (λ x. same_name l x.name) xs)) (end P) ≤ end P
          → unwrap_or (option_map (λ (y : ClaimLabel). y.statement) (if b then Some x else find (λ x. same_name l x.name) xs)) (end P) ≤ end P
      go true h = a.0
      go false h = h

  loop_or : (b : Bool) (i t : ℕ) → (b ≡ true → i ≤ end P) → t ≤ end P → (if b then i else t) ≤ end P
  loop_or true i t f h = f refl
  loop_or false i t f h = h

  is_there : (i : ℕ) → (statement_at P i).loops ≡ true → i ≤ end P
  is_there i e = elim (inside_or_past i (end P)) [
    | inl l ↦ omega (arith, l)
    | inr l ↦ absurd (false_true (sym (ap (λ (s : Statement). s.loops) (get_or_past P.statements i no_statement l)) ∙ e))
  ]
    where
      false_true : false ≡ true → ⊥
      false_true q = cc

  -- a link leads to a statement or to the closing brace
  follow_within : (n : ℕ) (k : Link) (c : Option ℕ) → IsLinkWithin (end P) k → follow P n k c ≤ end P
  follow_within n (Go i) None h = omega (arith, h)
  follow_within n (Go i) (Some j) h = omega (arith, h)
  follow_within n (Jump l) None h = labelled_within l P.labels p.labels
  follow_within n (Jump l) (Some j) h = labelled_within l P.labels p.labels
  follow_within n Leave None h = omega arith
  follow_within n Nothing None h = omega arith
  follow_within zero Leave (Some i) h = omega arith
  follow_within zero Nothing (Some i) h = omega arith
  follow_within (suc n) Leave (Some i) h =
      let j = nearest P n i in follow_within n (statement_at P j).next (statement_at P j).around (within_at j).2
  follow_within (suc n) Nothing (Some i) h =
      loop_or (statement_at P i).loops i (follow P n (statement_at P i).next (statement_at P i).around) (is_there i) (follow_within n (statement_at P i).next (statement_at P i).around (within_at i).2)

  pub leads_within : (k : Link) (c : Option ℕ) → IsLinkWithin (end P) k → leads P k c ≤ end P
  leads_within k c h = follow_within (suc (end P)) k c h

  -- ---- moves

  abbrev IsPairWithin : Guard × ℕ → Type 0
  IsPairWithin m = IsGuardOver P.names m.0 × (m.1 ≤ end P)

  enabled_over : (os : List ClaimOption) → AllOf (IsOptionWithin P.names (end P)) os → AllOf (IsGuardOver P.names) (flat_map (λ o. enabled P o.first) os)
  enabled_over [] a = tt
  enabled_over (o ∷ os) a = of_append (IsGuardOver P.names) (enabled P o.first) (flat_map (λ o. enabled P o.first) os) (go o.first a.0.0) (enabled_over os a.1)
    where
      go : (f : First) → IsFirstWithin P.names (end P) f → AllOf (IsGuardOver P.names) (enabled P f)
      go (Test g) h = (h, tt)
      go (Check g) h = (tt, tt)
      go (Both g k) h = (h.0, tt)
      go Otherwise h = tt
      go (Leaps k) h = (tt, tt)

  fold_over : (g : Guard) (gs : List Guard) → IsGuardOver P.names g → AllOf (IsGuardOver P.names) gs → IsGuardOver P.names (fold Or g gs)
  fold_over g [] h a = h
  fold_over g (k ∷ gs) h a = fold_over (Or g k) gs (h, a.0) a.1

  one_over : (gs : List Guard) → AllOf (IsGuardOver P.names) gs → IsGuardOver P.names (one_of P gs)
  one_over [] a = tt
  one_over (g ∷ gs) a = fold_over g gs a.0 a.1

  made_within : (i : ℕ) (f : First) (t : ℕ) → IsFirstWithin P.names (end P) f → t ≤ end P → AllOf IsPairWithin (made_moves P i f t)
  made_within i (Test g) t h l = ((h, l), tt)
  made_within i (Check g) t h l = ((h, l), ((h, omega arith), tt))
  made_within i (Both g k) t h l = go (same_guard k (Not g))
    where
      go : (b : Bool) → AllOf IsPairWithin (if b then (g, end P) ∷ [] else (And g k, t) ∷ (And g (Not k), end P) ∷ [])
      go true = ((h.0, omega arith), tt)
      go false = ((h, l), ((h, omega arith), tt))
  made_within i Otherwise t h l = ((one_over (flat_map (λ o. enabled P o.first) (statement_at P i).options) (enabled_over (statement_at P i).options (within_at i).1), l), tt)
  made_within i (Leaps k) t h l = ((tt, leads_within k (Some i) h), tt)

  moves_within : (i : ℕ) (os : List ClaimOption) → AllOf (IsOptionWithin P.names (end P)) os → AllOf IsPairWithin (flat_map (λ o. made_moves P i o.first (leads P o.next (Some i))) os)
  moves_within i [] a = tt
  moves_within i (o ∷ os) a =
      of_append IsPairWithin (made_moves P i o.first (leads P o.next (Some i))) (flat_map (λ o. made_moves P i o.first (leads P o.next (Some i))) os)
      (made_within i o.first (leads P o.next (Some i)) a.0.0 (leads_within o.next (Some i) a.0.1)) (moves_within i os a.1)

  -- ---- steps

  steps_within : (g : Guard) → IsGuardOver P.names g → AllOf (IsStepWithin (length (program_names P))) (steps_of (program_names P) g)
  steps_within (Constant b) h = (tt, tt)
  steps_within (Named n) h = (place_below same_name same_name_Decides n (program_names P) (Has-first_occurrences same_name same_name_Decides P.names n h), tt)
  steps_within (Not g) h = of_append (IsStepWithin (length (program_names P))) (steps_of (program_names P) g) (step.Not ∷ []) (steps_within g h) (tt, tt)
  steps_within (And g k) h =
      of_append (IsStepWithin (length (program_names P))) (steps_of (program_names P) g ++ steps_of (program_names P) k) (step.And ∷ [])
      (of_append (IsStepWithin (length (program_names P))) (steps_of (program_names P) g) (steps_of (program_names P) k) (steps_within g h.0) (steps_within k h.1)) (tt, tt)
  steps_within (Or g k) h =
      of_append (IsStepWithin (length (program_names P))) (steps_of (program_names P) g ++ steps_of (program_names P) k) (step.Or ∷ [])
      (of_append (IsStepWithin (length (program_names P))) (steps_of (program_names P) g) (steps_of (program_names P) k) (steps_within g h.0) (steps_within k h.1)) (tt, tt)

  all_within : (ms : List MoveView) (xs : List (Guard × ℕ)) → AreMoves (program_names P) ms xs → AllOf IsPairWithin xs → AllOf (IsMoveWithin (length (program_names P)) (end P)) ms
  all_within [] [] m a = tt
  all_within [] (x ∷ xs) m a = absurd m
  all_within (y ∷ ms) [] m a = absurd m
  all_within (y ∷ ms) ((g, t) ∷ xs) m a =
      ((subst (AllOf (IsStepWithin (length (program_names P)))) (sym m.0.0) (steps_within g a.0.0), subst (λ n. n ≤ end P) (sym m.0.1) a.0.1), all_within ms xs m.1 a.1)

  -- the propositions of the claim are some
  pub names_proper : list_all is_proposition (program_names P) ≡ true
  names_proper =
      (all_Decides is_proposition (program_names P)).1 (λ n h. (all_Decides is_proposition P.names).0 p.names n (first_occurrences_cases same_name same_name_Decides P.names n h))

  pub claim_within : (c : ClaimView) → IsClaim P c → IsClaimWithin c
  claim_within c is = record {
    start = let e = is.start in let n = is.count in let l = leads_within P.start None p.start in omega (arith, e, n, l);
    moves = λ i l.
        let inside : i < end P = let n = is.count in omega (arith, n, l) in
        let ms = (slice_index_or c.states i (record { accepting = false; moves = [] })).moves in
        subst (λ n. AllOf (IsMoveWithin (length c.names) n) ms) (sym is.count)
        (subst (λ ns. AllOf (IsMoveWithin (length ns) (end P)) ms) (sym is.names)
        (all_within ms (statement_moves P i) (subst (λ ns. AreMoves ns ms (statement_moves P i)) is.names (is.states i inside).moves) (moves_within i (statement_at P i).options (within_at i).1)));
    names = subst (λ ns. list_all is_proposition ns ≡ true) (sym is.names) names_proper;
    single = subst HasNoRepeats (sym is.names) (HasNoRepeats-first_occurrences same_name same_name_Decides P.names);
  }

-- what stands around a statement of the code stands before it
pub statements_nested : (all : List Name) (v : BuiltView) → IsSound (program_of all v) → AreNested v.statements
statements_nested all v p i = subst (λ (s : Statement). IfSome s.around (λ c. c < i)) (at_view v.statements i) (nested (program_of all v) p i)

-- the claim that answers a text
pub answer_within : (text : List ℕ) (c : ClaimView) → Answers text (Ok c) → IsClaimWithin c × (length c.states ≤ most_statements)
answer_within text c (P, e, is) = (claim_within P (sound text P (answered text P e)) c is, subst (λ n. n ≤ most_statements) (sym is.count) (few_statements text P e))
