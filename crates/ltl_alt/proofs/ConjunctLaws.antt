-- Steps taken apart into conjuncts.
use Rattle.std.proofs.Common.{◌≡◌, ℕ, ◌+◌, ◌<◌, ◌≤◌, true, arith, length, inl, inr, List, [], ◌∷◌, ◌++◌, map, refl, sym, ◌∙◌, ap, subst, Some, None}
use Rattle.std.specs.Prelude.{slice_get, slice_index_or, nat_lt, Option, IsSome}
use Rattle.std.proofs.lemmas.Bool.Decides.{nat_tests}
use Rattle.ltl_spec.proofs.Collections.CaseLaws.{false_is_true}
use Rattle.std.proofs.lemmas.List.{append-nil, append_assoc}
use Rattle.ltl_spec.specs.Collections.Sets.{Has}
use Rattle.ltl_spec.specs.Transitions.Pairs.{Pair, join, pairs}
use Rattle.ltl_spec.specs.Transitions.RowTransitions.{pairs_at}
use Rattle.ltl_spec.proofs.Collections.SetLaws.{append_cases, append_left, append_right}
use Rattle.ltl_spec.proofs.Transitions.Fulfilment.{pair_test}
use Rattle.ltl_spec.proofs.Transitions.JoinedLists.{open_join, join_all_one}
use Rattle.ltl_spec.proofs.Transitions.ConjunctJoins.{join_all}
use Rattle.ltl_spec.proofs.Transitions.SameJoins.{AreAlike, alike_refl, alike_trans, AreSound, join_alike}
use Rattle.ltl_spec.proofs.Transitions.Steps.{step_test, tests_of}
use Rattle.ltl_formula.specs.TableView.{TableView, IsTable, row_tree}
use Rattle.ltl_alt.specs.ConjunctView.{AreInside, AreTwoConjuncts, stacked_pairs}
use Rattle.ltl_alt.specs.RowLists.{row_place}
use Rattle.ltl_alt.specs.Steps.{AreOrdered, IsStepOf, IsWholeProgram, steps_at}
use Rattle.ltl_alt.specs.TestPairs.{dnf, step_pairs}
use Rattle.ltl_alt.specs.Tests.{steps_of, test_of}
use Rattle.ltl_alt.specs.TransitionView.{table_at}
use Rattle.ltl_alt.specs.declared.program.RowSteps.{RowSteps}
use Rattle.ltl_alt.specs.declared.program.Step.{Step}
use Rattle.ltl_alt.specs.declared.program.Step.TheVariants as step
use Rattle.ltl_alt.proofs.PlaceLaws.{elementary_tree, no_elementary_tree}
use Rattle.ltl_alt.proofs.ProgramLaws.{inside, step_found, test_whole}
use Rattle.ltl_alt.proofs.SubprogramLaws.{step_operands}
use Rattle.ltl_alt.proofs.TestPairLaws.{dnf_pairs, dnf_sound}

-- ---- conjuncts

-- their pairs are sound
pub conjunct_sound : (ss : List Step) (k : ℕ) → AreSound (step_pairs ss k)
conjunct_sound ss k = dnf_sound (test_of ss k)

-- no row stands at a place behind the last one
pub no_conjunct_at : (t : TableView) (i : ℕ) → IsTable t → slice_get t.elementary i ≡ None → pairs_at (table_at t) i ≡ []
no_conjunct_at t i w e = ap (pairs (row_place t)) (no_elementary_tree t i w e)

-- the pairs of a row are those of its step
pub row_step_pairs : (t : TableView) (ss : List Step) (rs : List RowSteps) (k x : ℕ) → IsWholeProgram t ss rs → k < length t.rows → x ≡ (steps_at rs k).pairs → (x < length ss) × (step_pairs ss x ≡ pairs (row_place t) (row_tree t k))
row_step_pairs t ss rs k x whole l f =
    let c = whole.count in
    let made = subst (λ y. IsStepOf ss y (pair_test (row_place t) (row_tree t k))) (sym f) (whole.program.rows k (omega arith)).pairs in
    (made.below, ap dnf made.test ∙ dnf_pairs (row_place t) (row_tree t k))

-- so are those of the row at a place
pub pairs_at_step : (t : TableView) (ss : List Step) (rs : List RowSteps) (i k x : ℕ) → IsTable t → IsWholeProgram t ss rs → slice_get t.elementary i ≡ Some k → k < length t.rows → x ≡ (steps_at rs k).pairs
    → pairs_at (table_at t) i ≡ step_pairs ss x
pairs_at_step t ss rs i k x w whole e l f = ap (pairs (row_place t)) (elementary_tree t i k w e) ∙ sym (row_step_pairs t ss rs k x whole l f).1

-- the two conjuncts of a conjunction
pub both_opened : (ss : List Step) (k i j : ℕ) (s : Step) → AreOrdered ss → k < length ss → s ≡ slice_index_or ss k s → s ≡ step.Both i j → AreTwoConjuncts ss k (i, j)
both_opened ss k i j s w l e f =
    let is : step.Both i j ≡ slice_index_or ss k (step.Both i j) = subst (λ x. x ≡ slice_index_or ss k x) f e in
    let n = inside ss in
    let first = step_operands ss w k l (step.Both i j) is i (inl refl) in
    let second = step_operands ss w k l (step.Both i j) is j (inr refl) in
    record {
      first = omega arith;
      second = omega arith;
      joined = ap dnf (test_whole (steps_of ss) w.earlier k (omega arith) ∙ ap (step_test (tests_of (steps_of ss))) (step_found ss k (step.Both i j) l is));
    }

-- ---- the walk

stacked_top : (ss : List Step) (ps : List ℕ) (p : ℕ) → stacked_pairs ss (ps ++ p ∷ []) ≡ step_pairs ss p ∷ stacked_pairs ss ps
stacked_top ss [] p = refl
stacked_top ss (q ∷ ps) p = ap (λ xs. xs ++ step_pairs ss q ∷ []) (stacked_top ss ps p)

map_behind : {X Y : Type 0} (h : X → Y) (xs : List X) (x : X) → map h (xs ++ x ∷ []) ≡ map h xs ++ h x ∷ []
map_behind h [] x = refl
map_behind h (y ∷ xs) x = ap (λ ys. h y ∷ ys) (map_behind h xs x)

-- a join may be taken apart where it stands among others
open_within : (pss : List (List Pair)) (ps qs : List Pair) (rss : List (List Pair)) → AreAlike (join_all (pss ++ join ps qs ∷ rss)) (join_all (pss ++ ps ∷ qs ∷ rss))
open_within [] ps qs rss = open_join ps qs rss
open_within (xs ∷ pss) ps qs rss = join_alike xs xs (join_all (pss ++ join ps qs ∷ rss)) (join_all (pss ++ ps ∷ qs ∷ rss)) (alike_refl xs) (open_within pss ps qs rss)

module _ (ss : List Step) (whole : List Pair) where
  -- the pairs are those of the conjuncts and of the stack at once
  abbrev pub IsMadeOf : List ℕ → List ℕ → Type 0
  IsMadeOf conjuncts stack = AreAlike whole (join_all (map (step_pairs ss) conjuncts ++ stacked_pairs ss stack))

  pub walk_begins : (p : ℕ) (conjuncts stack : List ℕ) → whole ≡ step_pairs ss p → conjuncts ≡ [] → stack ≡ p ∷ [] → IsMadeOf conjuncts stack
  walk_begins p conjuncts stack e f d =
      subst (λ xs. IsMadeOf xs stack) (sym f) (subst (IsMadeOf []) (sym d) (subst (λ xs. AreAlike xs (join_all (step_pairs ss p ∷ []))) (sym e) (join_all_one (step_pairs ss p) (conjunct_sound ss p))))

  pub walk_opens : (top : ℕ) (two : ℕ × ℕ) (conjuncts stack rest more new : List ℕ) → stack ≡ rest ++ top ∷ [] → more ≡ rest ++ two.1 ∷ [] → new ≡ more ++ two.0 ∷ [] → AreTwoConjuncts ss top two
      → IsMadeOf conjuncts stack → IsMadeOf conjuncts new
  walk_opens top two conjuncts stack rest more new e f d w a =
      let front = map (step_pairs ss) conjuncts in
      let old = ap (stacked_pairs ss) e ∙ stacked_top ss rest top ∙ ap (λ xs. xs ∷ stacked_pairs ss rest) w.joined in
      let now = ap (stacked_pairs ss) d ∙ stacked_top ss more two.0 ∙ ap (λ xs. step_pairs ss two.0 ∷ xs) (ap (stacked_pairs ss) f ∙ stacked_top ss rest two.1) in
      subst (λ xs. AreAlike whole (join_all (front ++ xs))) (sym now)
      (alike_trans whole (join_all (front ++ join (step_pairs ss two.0) (step_pairs ss two.1) ∷ stacked_pairs ss rest)) (join_all (front ++ step_pairs ss two.0 ∷ step_pairs ss two.1 ∷ stacked_pairs ss rest))
      (subst (λ xs. AreAlike whole (join_all (front ++ xs))) old a) (open_within front (step_pairs ss two.0) (step_pairs ss two.1) (stacked_pairs ss rest)))

  pub walk_keeps : (top : ℕ) (conjuncts stack rest more : List ℕ) → stack ≡ rest ++ top ∷ [] → more ≡ conjuncts ++ top ∷ [] → IsMadeOf conjuncts stack → IsMadeOf more rest
  walk_keeps top conjuncts stack rest more e f a =
      let front = map (step_pairs ss) conjuncts in
      let old = ap (stacked_pairs ss) e ∙ stacked_top ss rest top in
      let moved : front ++ step_pairs ss top ∷ stacked_pairs ss rest ≡ map (step_pairs ss) more ++ stacked_pairs ss rest =
      sym (append_assoc front (step_pairs ss top ∷ []) (stacked_pairs ss rest)) ∙ ap (λ xs. xs ++ stacked_pairs ss rest) (sym (ap (map (step_pairs ss)) f ∙ map_behind (step_pairs ss) conjuncts top)) in
      subst (λ xs. AreAlike whole (join_all xs)) (ap (λ xs. front ++ xs) old ∙ moved) a

  pub walk_ends : (conjuncts stack : List ℕ) → stack ≡ [] → IsMadeOf conjuncts stack → AreAlike whole (join_all (map (step_pairs ss) conjuncts))
  walk_ends conjuncts stack e a = subst (λ xs. AreAlike whole (join_all xs)) (ap (λ s. map (step_pairs ss) conjuncts ++ stacked_pairs ss s) e ∙ append-nil (map (step_pairs ss) conjuncts)) a

-- conjuncts one more or one less
pub conjuncts_more : (ss : List Step) (ps qs : List ℕ) (p : ℕ) → AreInside ss ps → p < length ss → qs ≡ ps ++ p ∷ [] → AreInside ss qs
conjuncts_more ss ps qs p f i e q h = elim (append_cases ps (p ∷ []) q (subst (λ xs. Has xs q) e h)) [
  | inl k ↦ f q k
  | inr k ↦ elim k [ inl d ↦ subst (λ x. x < length ss) (sym d) i | inr z ↦ absurd z ]
]

pub conjuncts_less : (ss : List Step) (ps qs : List ℕ) (p : ℕ) → AreInside ss qs → qs ≡ ps ++ p ∷ [] → AreInside ss ps
conjuncts_less ss ps qs p f e q h = f q (subst (λ xs. Has xs q) (sym e) (append_left ps (p ∷ []) q h))

pub conjunct_top : (ss : List Step) (ps qs : List ℕ) (p : ℕ) → AreInside ss qs → qs ≡ ps ++ p ∷ [] → p < length ss
conjunct_top ss ps qs p f e = f p (subst (λ xs. Has xs p) (sym e) (append_right ps (p ∷ []) p (inl refl)))

pub conjuncts_none : (ss : List Step) (ps : List ℕ) → ps ≡ [] → AreInside ss ps
conjuncts_none ss ps e q h = absurd (subst (λ xs. Has xs q) e h)

-- two for one are no more than may be
pub few_opened : (conjuncts stack a b most : ℕ) → a ≡ conjuncts → b ≡ stack → nat_lt (a + b + 1) most ≡ true → conjuncts + (stack + 1 + 1) ≤ most
few_opened conjuncts stack a b most e f l = grind (arith, nat_tests)

-- nothing is left where nothing was found
pub emptied : {X : Type 0} (r : Option X) (xs : List X) → (0 < length xs → IsSome r) → r ≡ None → xs ≡ []
emptied r [] f e = refl
emptied r (x ∷ xs) f e = absurd (false_is_true (subst IsSome e (f (omega arith))))

pub conjuncts_long : (ss : List Step) (ps : List ℕ) → length (map (step_pairs ss) ps) ≡ length ps
conjuncts_long ss [] = refl
conjuncts_long ss (p ∷ ps) = let e = conjuncts_long ss ps in omega arith
