-- Steps of tests as they are numbered.
use Rattle.std.proofs.Common.{◌≡◌, ℕ, zero, suc, ◌+◌, ◌<◌, Bool, true, false, cond, ◌&&◌, ◌⊎◌, eqb, inl, inr, List, [], ◌∷◌, ◌++◌, length, take, refl, sym, ◌∙◌, ap, subst, arith, Some}
use Rattle.std.specs.Prelude.{slice_get, slice_index_or}
use Rattle.std.specs.Bool.{beq}
use Rattle.std.specs.List.{list_any}
use Rattle.std.proofs.lemmas.Bool.{eqb-true}
use Rattle.std.proofs.lemmas.Bool.{cases_lt}
use Rattle.std.proofs.lemmas.List.{map-append, length-append}
use Rattle.std.proofs.lemmas.Option.{slice_get_within, get_or_from_slice_get}
use Rattle.ltl_sets.specs.declared.literal.Literal.{Literal}
use Rattle.ltl_spec.specs.Collections.Lists.{with_new}
use Rattle.ltl_spec.specs.Collections.Sets.{Has}
use Rattle.ltl_spec.specs.NormalForms.Normal.{Normal, Top, Bottom, Leaf, Next, And, Or, Until, Release}
use Rattle.ltl_spec.specs.NormalForms.NormalForm.{until_rows}
use Rattle.ltl_sets.specs.Literals.{literal_of}
use Rattle.ltl_spec.proofs.Collections.CaseLaws.{beq_true}
use Rattle.ltl_spec.proofs.Collections.ListLaws.{Has-at, index_append, index_done}
use Rattle.ltl_spec.proofs.Collections.MemberLaws.{map_length}
use Rattle.ltl_spec.proofs.Transitions.Fulfilment as by
use Rattle.ltl_spec.proofs.NormalForms.SharedNodes.{tree_of}
use Rattle.ltl_spec.proofs.Transitions.Fulfilment.{Test, pair_test, set_test, until_test}
use Rattle.ltl_spec.proofs.Transitions.FulfilmentLaws.{until_row_parts}
use Rattle.ltl_spec.proofs.Transitions.Steps as spec
use Rattle.ltl_spec.proofs.Transitions.Steps.{test_at, step_test, tests_of, IsOperand}
use Rattle.ltl_spec.proofs.Transitions.StepLaws.{tests_next, tests_length, test_earlier, test_of_step}
use Rattle.ltl_formula.specs.SharedNodesView.{IsBelow, node_of}
use Rattle.ltl_formula.specs.TableView.{TableView, IsTable, core_of, is_elementary_row, row_tree}
use Rattle.ltl_formula.specs.declared.row.Row.{Row}
use Rattle.ltl_formula.specs.declared.row.Row.TheVariants as row
use Rattle.ltl_alt.specs.RowLists.{row_place}
use Rattle.ltl_alt.specs.Steps.{AreOrdered, AreRowSteps, AreUntilSteps, HavePairSteps, HaveSetSteps, IsGiven, IsGrown, IsNumbered, IsProgram, IsStepOf, IsWholeProgram, pair_test_from, set_test_from, steps_at, test_by, until_step}
use Rattle.ltl_alt.specs.Tests.{AreEarlier, AreSmall, HasOperands, IsSmall, step_of, steps_of}
use Rattle.ltl_alt.specs.declared.program.RowSteps.{RowSteps}
use Rattle.ltl_alt.specs.declared.program.Step.{Step}
use Rattle.ltl_alt.specs.declared.program.Step.TheVariants as step
use Rattle.ltl_alt.specs.contracts.program.StepPartialEq.TheImpl.{ghosts}
use Rattle.ltl_alt.proofs.NeedsLaws.{same_or_other}
use Rattle.ltl_alt.proofs.RowLaws.{until_below}
use Rattle.ltl_alt.proofs.TreeLaws.{row_tree_is}
use Rattle.ltl_alt.proofs.TransitionLaws.{until_tree, untils_count}
use Rattle.ltl_alt.specs.TransitionView.{table_at}

-- ---- steps of the theory

-- tests that are alike below n make the same test of a step whose operands are below
step_alike : (ts us : List Test) (n : ℕ) (s : spec.Step) → HasOperands n s → ((j : ℕ) → j < n → test_at ts j ≡ test_at us j) → step_test ts s ≡ step_test us s
step_alike ts us n spec.Always b e = refl
step_alike ts us n spec.Never b e = refl
step_alike ts us n (spec.Reads l) b e = refl
step_alike ts us n (spec.Leads k) b e = refl
step_alike ts us n (spec.Both i j) b e = let d = e i (b i (inl refl)) in let f = e j (b j (inr refl)) in λ k. by.Both (d k) (f k)
step_alike ts us n (spec.Either i j) b e = let d = e i (b i (inl refl)) in let f = e j (b j (inr refl)) in λ k. by.Either (d k) (f k)

-- the test of a number by all tests
pub test_whole : (ss : List spec.Step) → AreEarlier ss → (k : ℕ) → k < length ss → test_at (tests_of ss) k ≡ step_test (tests_of ss) (slice_index_or ss k spec.Always)
test_whole ss w k l =
    test_of_step ss k l
    ∙ step_alike (tests_of (take k ss)) (tests_of ss) k (slice_index_or ss k spec.Always) (w k l) (λ j m. sym (test_earlier ss k j m (omega arith)))

-- one step more
module _ (ss : List spec.Step) (s : spec.Step) where
  next_length : length (ss ++ s ∷ []) ≡ length ss + 1
  next_length = let e = length-append ss (s ∷ []) in omega arith

  next_earlier : AreEarlier ss → HasOperands (length ss) s → AreEarlier (ss ++ s ∷ [])
  next_earlier w b k l j o =
      let n = next_length in
      elim (cases_lt k (length ss)) [
        | inl m ↦ w k m j (subst (λ x. IsOperand x j) (index_append ss (s ∷ []) k spec.Always m) o)
        | inr m ↦
            let e : k ≡ length ss = omega arith in
            let d : slice_index_or (ss ++ s ∷ []) k spec.Always ≡ s = ap (λ i. slice_index_or (ss ++ s ∷ []) i spec.Always) e ∙ index_done ss [] s spec.Always in
            let c = b j (subst (λ x. IsOperand x j) d o) in
            omega arith
      ]

  next_old : (k : ℕ) → k < length ss → test_at (tests_of (ss ++ s ∷ [])) k ≡ test_at (tests_of ss) k
  next_old k l =
      let c = tests_length ss in
      ap (λ ts. test_at ts k) (tests_next ss s) ∙ index_append (tests_of ss) (step_test (tests_of ss) s ∷ []) k by.Never (omega arith)

  next_new : test_at (tests_of (ss ++ s ∷ [])) (length ss) ≡ step_test (tests_of ss) s
  next_new =
      let c = tests_length ss in
      ap (λ ts. test_at ts (length ss)) (tests_next ss s) ∙ ap (test_at (tests_of ss ++ step_test (tests_of ss) s ∷ [])) (sym c) ∙ index_done (tests_of ss) [] (step_test (tests_of ss) s) by.Never

-- ---- equality

both_true : (a b : Bool) → (a && b) ≡ true → (a ≡ true) × (b ≡ true)
both_true true true e = (refl, refl)
both_true true false e = cc
both_true false b e = cc

same_conjuncts : (l m : Literal) → l.proposition ≡ m.proposition → l.positive ≡ m.positive → l ≡ m
same_conjuncts l m p q = λ i. record { proposition = p i; positive = q i }

-- steps that compare as equal are equal
step_same : (u v : Step) → ghosts.eq u v ≡ true → u ≡ v
step_same step.Always step.Always e = refl
step_same step.Never step.Never e = refl
step_same (step.Reads l) (step.Reads m) e =
    let w = both_true (eqb l.proposition m.proposition) (beq l.positive m.positive) e in
    ap step.Reads (same_conjuncts l m (eqb-true l.proposition m.proposition w.0) (beq_true l.positive m.positive w.1))
step_same (step.Leads i) (step.Leads j) e = ap step.Leads (eqb-true i j e)
step_same (step.Both i j) (step.Both k l) e = let w = both_true (eqb i k) (eqb j l) e in let p = eqb-true i k w.0 in let q = eqb-true j l w.1 in cc
step_same (step.Either i j) (step.Either k l) e = let w = both_true (eqb i k) (eqb j l) e in let p = eqb-true i k w.0 in let q = eqb-true j l w.1 in cc
step_same _ _ e = cc

-- ---- steps of the code

found_step : (ss : List Step) (k : ℕ) (s : Step) → slice_get ss k ≡ Some s → slice_index_or (steps_of ss) k spec.Always ≡ step_of s
found_step [] k s e = cc
found_step (x ∷ ss) zero s e = let d : x ≡ s = cc in ap step_of d
found_step (x ∷ ss) (suc k) s e = found_step ss k s e

pub step_found : (ss : List Step) (k : ℕ) (s : Step) → k < length ss → s ≡ slice_index_or ss k s → slice_index_or (steps_of ss) k spec.Always ≡ step_of s
step_found [] k s l e = absurd (omega arith)
step_found (x ∷ ss) zero s l e = ap step_of (sym e)
step_found (x ∷ ss) (suc k) s l e = step_found ss k s (omega arith) e

pub inside : (ss : List Step) → length (steps_of ss) ≡ length ss
inside ss = map_length step_of ss

grown_same : (ss : List Step) → AreOrdered ss → IsGrown ss ss
grown_same ss w = record { earlier = w.earlier; small = w.small; stays = λ k a h. h }

pub grown_on : (old mid new : List Step) → IsGrown old mid → IsGrown mid new → IsGrown old new
grown_on old mid new v w = record { earlier = w.earlier; small = w.small; stays = λ k a h. w.stays k a (v.stays k a h) }

pub grown_ordered : (old new : List Step) → IsGrown old new → AreOrdered new
grown_ordered old new w = record { earlier = w.earlier; small = w.small }

-- a step that is there
number_there : (ss : List Step) (w : AreOrdered ss) (s : Step) (k : ℕ) → slice_get ss k ≡ Some s → IsNumbered ss ss k (test_by ss s)
number_there ss w s k e =
    let l : k < length ss = slice_get_within ss k s e in
    let n = inside ss in
    record {
      grown = grown_same ss w;
      step = record { below = l; test = test_whole (steps_of ss) w.earlier k (omega arith) ∙ ap (step_test (tests_of (steps_of ss))) (found_step ss k s e) };
    }

small_push : (ss : List Step) (s : Step) → AreSmall ss → IsSmall s → AreSmall (ss ++ s ∷ [])
small_push [] s w m zero t e = let d : s ≡ t = cc in subst IsSmall d m
small_push [] s w m (suc k) t e = cc
small_push (x ∷ ss) s w m zero t e = w 0 t e
small_push (x ∷ ss) s w m (suc k) t e = small_push ss s (λ j u d. w (suc j) u d) m k t e

at_end : (ss : List Step) (s t : Step) (k : ℕ) → slice_get (ss ++ s ∷ []) k ≡ Some t → k < length ss ⊎ ((k ≡ length ss) × (t ≡ s))
at_end [] s t zero e = inr (refl, cc)
at_end [] s t (suc k) e = cc
at_end (x ∷ ss) s t zero e = inl (omega arith)
at_end (x ∷ ss) s t (suc k) e = elim (at_end ss s t k e) [ inl l ↦ inl (omega arith) | inr w ↦ inr (ap suc w.0, w.1) ]

-- a step that is put behind the others
push_grown : (ss : List Step) → AreOrdered ss → (s : Step) → IsSmall s → HasOperands (length ss) (step_of s) → IsGrown ss (ss ++ s ∷ [])
push_grown ss w s m o =
    let n = inside ss in
    let e = map-append step_of ss (s ∷ []) in
    record {
      earlier = subst AreEarlier (sym e) (next_earlier (steps_of ss) (step_of s) w.earlier (λ j p. let b = o j p in omega arith));
      small = small_push ss s w.small m;
      stays = λ k a h.
          let b = h.below in
          let c = length-append ss (s ∷ []) in
          record { below = omega arith; test = ap (λ xs. test_at (tests_of xs) k) e ∙ next_old (steps_of ss) (step_of s) k (omega arith) ∙ h.test };
    }

pushed : (ss : List Step) → AreOrdered ss → (s : Step) → IsSmall s → HasOperands (length ss) (step_of s) → (k : ℕ) → k ≡ length ss → IsNumbered ss (ss ++ s ∷ []) k (test_by ss s)
pushed ss w s m o k d =
    let n = inside ss in
    let c = length-append ss (s ∷ []) in
    let e = map-append step_of ss (s ∷ []) in
    let f : k ≡ length (steps_of ss) = omega arith in
    record {
      grown = push_grown ss w s m o;
      step = record { below = omega arith; test = ap (λ xs. test_at (tests_of xs) k) e ∙ ap (test_at (tests_of (steps_of ss ++ step_of s ∷ []))) f ∙ next_new (steps_of ss) (step_of s) };
    }

-- the number of a step that was looked for
pub numbered : (old new : List Step) (s : Step) (k : ℕ) → new ≡ with_new ghosts.eq old s → ((t : Step) × (slice_get new k ≡ Some t) × (ghosts.eq s t ≡ true)) → AreOrdered old → IsSmall s → HasOperands (length old) (step_of s)
    → IsNumbered old new k (test_by old s)
numbered old new s k e (t, f, g) w m o =
    let d : slice_get new k ≡ Some s = f ∙ ap Some (sym (step_same s t g)) in
    subst (λ xs. IsNumbered old xs k (test_by old s)) (sym e) (at (list_any (ghosts.eq s) old) (subst (λ xs. slice_get xs k ≡ Some s) e d))
  where
    at : (b : Bool) → slice_get (cond b old (old ++ s ∷ [])) k ≡ Some s → IsNumbered old (cond b old (old ++ s ∷ [])) k (test_by old s)
    at true d = number_there old w s k d
    at false d = elim (at_end old s s k d) [
      | inl l ↦
          let h = number_there old w s k (before old k l d) in
          let q = h.step in
          let p = push_grown old w s m o in
          record { grown = p; step = p.stays k (test_by old s) q }
      | inr c ↦ pushed old w s m o k c.0
    ]
      where
        before : (xs : List Step) (j : ℕ) → j < length xs → slice_get (xs ++ s ∷ []) j ≡ Some s → slice_get xs j ≡ Some s
        before [] j l d = absurd (omega arith)
        before (x ∷ xs) zero l d = d
        before (x ∷ xs) (suc j) l d = before xs j (omega arith) d

-- ---- the steps of a row

operands_two : (n i j k : ℕ) → i < n → j < n → (k ≡ i) ⊎ (k ≡ j) → k < n
operands_two n i j k l m (inl e) = omega arith
operands_two n i j k l m (inr e) = omega arith

pub both_given : (old new : List Step) (i j k : ℕ) (a b : Test) → IsGiven old new k (step.Both i j) → AreOrdered old → IsStepOf old i a → IsStepOf old j b → IsNumbered old new k (by.Both a b)
both_given old new i j k a b f w p q = subst (IsNumbered old new k) (λ x. by.Both (p.test x) (q.test x)) (f w tt (λ m o. operands_two (length old) i j m p.below q.below o))

pub either_given : (old new : List Step) (i j k : ℕ) (a b : Test) → IsGiven old new k (step.Either i j) → AreOrdered old → IsStepOf old i a → IsStepOf old j b → IsNumbered old new k (by.Either a b)
either_given old new i j k a b f w p q = subst (IsNumbered old new k) (λ x. by.Either (p.test x) (q.test x)) (f w tt (λ m o. operands_two (length old) i j m p.below q.below o))

pub then_given : (old mid new : List Step) (x y : ℕ) (a b : Test) → IsNumbered old mid x a → IsNumbered mid new y b → IsNumbered old new y b
then_given old mid new x y a b v w = record { grown = grown_on old mid new v.grown w.grown; step = w.step }

-- the steps of an until row's pairs
pub until_given : (old one two new : List Step) (at i j x y k : ℕ) (a b : Test) → IsGiven old one x (step.Leads at) → at < 256 → IsGiven one two y (step.Both i x) → IsGiven two new k (step.Either j y) → AreOrdered old → IsStepOf old i a → IsStepOf old j b
    → IsNumbered old new k (by.Either b (by.Both a (by.Leads at)))
until_given old one two new at i j x y k a b f l g h w p q =
    let first : IsNumbered old one x (by.Leads at) = f w l (λ m o. absurd o) in
    let second = both_given one two i x y a (by.Leads at) g (grown_ordered old one first.grown) (first.grown.stays i a p) (first.step) in
    let third = either_given two new j y k b (by.Both a (by.Leads at)) h (grown_ordered one two second.grown) (second.grown.stays j b (first.grown.stays j b q)) (second.step) in
    then_given old one new x k (by.Leads at) (by.Either b (by.Both a (by.Leads at))) first (then_given one two new y k (by.Both a (by.Leads at)) (by.Either b (by.Both a (by.Leads at))) second third)

pub release_given : (old one two new : List Step) (at i j x y k : ℕ) (a b : Test) → IsGiven old one x (step.Leads at) → at < 256 → IsGiven one two y (step.Either i x) → IsGiven two new k (step.Both j y) → AreOrdered old → IsStepOf old i a → IsStepOf old j b
    → IsNumbered old new k (by.Both b (by.Either a (by.Leads at)))
release_given old one two new at i j x y k a b f l g h w p q =
    let first : IsNumbered old one x (by.Leads at) = f w l (λ m o. absurd o) in
    let second = either_given one two i x y a (by.Leads at) g (grown_ordered old one first.grown) (first.grown.stays i a p) (first.step) in
    let third = both_given two new j y k b (by.Either a (by.Leads at)) h (grown_ordered one two second.grown) (second.grown.stays j b (first.grown.stays j b q)) (second.step) in
    then_given old one new x k (by.Leads at) (by.Both b (by.Either a (by.Leads at))) first (then_given one two new y k (by.Either a (by.Leads at)) (by.Both b (by.Either a (by.Leads at))) second third)

-- the step of a row that is asked for later
pub leads_given : (old new : List Step) (at k : ℕ) (es : ℕ → Test) (q : Row) {r : Row} → r ≡ q → set_test_from es at r ≡ by.Leads at → is_elementary_row r ≡ true → IsGiven old new k (step.Leads at) → (is_elementary_row q ≡ true → at < 256) → AreOrdered old
    → IsNumbered old new k (set_test_from es at q)
leads_given old new at k es q e test kind f small w =
    subst (λ x. IsNumbered old new k (set_test_from es at x)) e (subst (IsNumbered old new k) (sym test) (f w (small (subst (λ x. is_elementary_row x ≡ true) e kind)) (λ m o. absurd o)))

-- ---- the tests of a row by those of its operands

module _ (t : TableView) (at : ℕ) where
  abbrev ps : ℕ → Test
  ps k = pair_test (row_place t) (row_tree t k)

  abbrev es : ℕ → Test
  es k = set_test (row_place t) (row_tree t k)

  pairs_from : (r : Row) → at ≡ row_place t (tree_of (row_tree t) (node_of r)) → pair_test_from ps es at r ≡ pair_test (row_place t) (tree_of (row_tree t) (node_of r))
  pairs_from row.True e = refl
  pairs_from row.False e = refl
  pairs_from (row.Literal l) e = refl
  pairs_from (row.Next i) e = refl
  pairs_from (row.And i j) e = refl
  pairs_from (row.Or i j) e = refl
  pairs_from (row.Until i j) e = ap (λ n. by.Either (ps j) (by.Both (ps i) (by.Leads n))) e
  pairs_from (row.Release i j) e = ap (λ n. by.Both (ps j) (by.Either (ps i) (by.Leads n))) e

  sets_from : (r : Row) → at ≡ row_place t (tree_of (row_tree t) (node_of r)) → set_test_from es at r ≡ set_test (row_place t) (tree_of (row_tree t) (node_of r))
  sets_from row.True e = refl
  sets_from row.False e = refl
  sets_from (row.And i j) e = refl
  sets_from (row.Or i j) e = refl
  sets_from (row.Literal l) e = ap by.Leads e
  sets_from (row.Next i) e = ap by.Leads e
  sets_from (row.Until i j) e = ap by.Leads e
  sets_from (row.Release i j) e = ap by.Leads e

  -- the steps of the operands are there
  module _ (ss : List Step) (rs : List RowSteps) (n : ℕ) (long : length rs ≡ n) (program : IsProgram t ss rs) where
    operand_pairs : (i : ℕ) → i < n → IsStepOf ss (steps_at rs i).pairs (ps i)
    operand_pairs i l = (program.rows i (omega arith)).pairs

    operand_sets : (i : ℕ) → i < n → IsStepOf ss (steps_at rs i).sets (es i)
    operand_sets i l = (program.rows i (omega arith)).sets

    have_pairs : (r : Row) → IsBelow n r → HavePairSteps ss rs ps es r
    have_pairs row.True b = tt
    have_pairs row.False b = tt
    have_pairs (row.Literal l) b = tt
    have_pairs (row.Next i) b = operand_sets i b
    have_pairs (row.And i j) b = (operand_pairs i b.0, operand_pairs j b.1)
    have_pairs (row.Or i j) b = (operand_pairs i b.0, operand_pairs j b.1)
    have_pairs (row.Until i j) b = (operand_pairs i b.0, operand_pairs j b.1)
    have_pairs (row.Release i j) b = (operand_pairs i b.0, operand_pairs j b.1)

    have_sets : (r : Row) → IsBelow n r → HaveSetSteps ss rs es r
    have_sets row.True b = tt
    have_sets row.False b = tt
    have_sets (row.And i j) b = (operand_sets i b.0, operand_sets j b.1)
    have_sets (row.Or i j) b = (operand_sets i b.0, operand_sets j b.1)
    have_sets (row.Literal l) b = tt
    have_sets (row.Next i) b = tt
    have_sets (row.Until i j) b = tt
    have_sets (row.Release i j) b = tt

-- steps that stay are still those of a row
sets_stay : (ss rs_new : List Step) (rs : List RowSteps) (es : ℕ → Test) → IsGrown ss rs_new → (r : Row) → HaveSetSteps ss rs es r → HaveSetSteps rs_new rs es r
sets_stay ss new rs es w row.True h = tt
sets_stay ss new rs es w row.False h = tt
sets_stay ss new rs es w (row.And i j) h = (w.stays _ _ h.0, w.stays _ _ h.1)
sets_stay ss new rs es w (row.Or i j) h = (w.stays _ _ h.0, w.stays _ _ h.1)
sets_stay ss new rs es w (row.Literal l) h = tt
sets_stay ss new rs es w (row.Next i) h = tt
sets_stay ss new rs es w (row.Until i j) h = tt
sets_stay ss new rs es w (row.Release i j) h = tt

at_pushed : {K : Type 0} (xs : List K) (y d : K) (i : ℕ) → i ≡ length xs → slice_index_or (xs ++ y ∷ []) i d ≡ y
at_pushed [] y d zero e = refl
at_pushed [] y d (suc i) e = absurd (omega arith)
at_pushed (x ∷ xs) y d zero e = absurd (omega arith)
at_pushed (x ∷ xs) y d (suc i) e = at_pushed xs y d i (omega arith)

-- one row more
pub program_step : (t : TableView) (n at : ℕ) (r : Row) (ss one two : List Step) (rs new : List RowSteps) (x y : ℕ) → slice_get t.rows n ≡ Some r → IsBelow n r → at ≡ row_place t (row_tree t n) → length rs ≡ n
    → ((ps es : ℕ → Test) → AreOrdered ss → HavePairSteps ss rs ps es r → IsNumbered ss one x (pair_test_from ps es at r))
    → ((es : ℕ → Test) → AreOrdered one → HaveSetSteps one rs es r → IsNumbered one two y (set_test_from es at r))
    → new ≡ rs ++ record { pairs = x; sets = y } ∷ [] → IsProgram t ss rs → IsProgram t two new
program_step t n at r ss one two rs new x y found below place long first second pushed program =
    subst (IsProgram t two) (sym pushed) (record {
      ordered = grown_ordered one two two_grown.grown;
      rows = λ k l. elim (same_or_other k n) [
        | inl e ↦
            let here : steps_at (rs ++ record { pairs = x; sets = y } ∷ []) k ≡ record { pairs = x; sets = y } = at_pushed rs (record { pairs = x; sets = y }) (record { pairs = 0; sets = 0 }) k (omega arith) in
            subst (AreRowSteps t two k) (sym here) (subst (λ j. AreRowSteps t two j (record { pairs = x; sets = y })) (sym e) (record {
              pairs = subst (IsStepOf two x) pairs_is (two_grown.grown.stays x _ (one_grown.step));
              sets = subst (IsStepOf two y) sets_is (two_grown.step);
            }))
        | inr d ↦
            let c = length-append rs (record { pairs = x; sets = y } ∷ []) in
            let m : k < length rs = omega arith in
            let old = program.rows k m in
            subst (AreRowSteps t two k) (sym (index_append rs (record { pairs = x; sets = y } ∷ []) k (record { pairs = 0; sets = 0 }) m)) (record {
              pairs = two_grown.grown.stays _ _ (one_grown.grown.stays _ _ old.pairs);
              sets = two_grown.grown.stays _ _ (one_grown.grown.stays _ _ old.sets);
            })
      ];
    })
  where
    tree : row_tree t n ≡ tree_of (row_tree t) (node_of r)
    tree = row_tree_is t n r found below

    one_grown : IsNumbered ss one x (pair_test_from (ps t at) (es t at) at r)
    one_grown = first (ps t at) (es t at) program.ordered (have_pairs t at ss rs n long program r below)

    two_grown : IsNumbered one two y (set_test_from (es t at) at r)
    two_grown = second (es t at) (grown_ordered ss one one_grown.grown) (sets_stay ss one rs (es t at) one_grown.grown r (have_sets t at ss rs n long program r below))

    pairs_is : pair_test_from (ps t at) (es t at) at r ≡ pair_test (row_place t) (row_tree t n)
    pairs_is = pairs_from t at r (place ∙ ap (row_place t) tree) ∙ ap (pair_test (row_place t)) (sym tree)

    sets_is : set_test_from (es t at) at r ≡ set_test (row_place t) (row_tree t n)
    sets_is = sets_from t at r (place ∙ ap (row_place t) tree) ∙ ap (set_test (row_place t)) (sym tree)

-- ---- the steps of until rows

-- an until row's second operand has the step
module _ (t : TableView) (ss : List Step) (rs : List RowSteps) (long : length rs ≡ length t.rows) (program : IsProgram t ss rs) (k : ℕ) (l : k < length t.rows) (a b : Normal) (is : row_tree t k ≡ Until a b) where
  until_row_step : (r : Row) → IsBelow k r → row_tree t k ≡ tree_of (row_tree t) (node_of r) → IsStepOf ss (until_step rs r) (until_test (row_place t) (row_tree t k))
  until_row_step row.True o e = let d : Until a b ≡ Top = sym is ∙ e in cc
  until_row_step row.False o e = let d : Until a b ≡ Bottom = sym is ∙ e in cc
  until_row_step (row.Literal x) o e = let d : Until a b ≡ Leaf (literal_of x) = sym is ∙ e in cc
  until_row_step (row.Next i) o e = let d : Until a b ≡ Next (row_tree t i) = sym is ∙ e in cc
  until_row_step (row.And i j) o e = let d : Until a b ≡ And (row_tree t i) (row_tree t j) = sym is ∙ e in cc
  until_row_step (row.Or i j) o e = let d : Until a b ≡ Or (row_tree t i) (row_tree t j) = sym is ∙ e in cc
  until_row_step (row.Release i j) o e = let d : Until a b ≡ Release (row_tree t i) (row_tree t j) = sym is ∙ e in cc
  until_row_step (row.Until i j) o e =
      let m = o.1 in
      subst (λ F. IsStepOf ss (steps_at rs j).pairs (until_test (row_place t) F)) (sym e) (program.rows j (omega arith)).pairs

pub until_step_is : (t : TableView) (ss : List Step) (rs : List RowSteps) (i k x : ℕ) (r : Row) → IsTable t → IsWholeProgram t ss rs → slice_get t.untils i ≡ Some k → slice_get t.rows k ≡ Some r → x ≡ until_step rs r
    → IsStepOf ss x (until_test (row_place t) (slice_index_or (table_at t).untils i Bottom))
until_step_is t ss rs i k x r w whole e f g =
    let l : k < length t.rows = until_below t i k w e in
    let o : IsBelow k r = subst (IsBelow k) (get_or_from_slice_get t.rows k r r f) (w.ordered k r l) in
    let tree = until_tree t i k w e in
    let inside : i < length (table_at t).untils = let c = untils_count t w in let d = slice_get_within t.untils i k e in omega arith in
    let there : Has (until_rows (core_of t)) (row_tree t k) = subst (Has (until_rows (core_of t))) tree (Has-at (table_at t).untils i Bottom inside) in
    let (a, b, is, conjuncts) = until_row_parts (core_of t) (row_tree t k) there in
    subst (λ F. IsStepOf ss x (until_test (row_place t) F)) (sym tree) (subst (λ n. IsStepOf ss n (until_test (row_place t) (row_tree t k))) (sym g)
    (until_row_step t ss rs whole.count whole.program k l a b is r o (row_tree_is t k r f o)))

-- the test of one more until row
pub until_steps_more : (t : TableView) (ss : List Step) (n x : ℕ) (ks more : List ℕ) → more ≡ ks ++ x ∷ [] → IsStepOf ss x (until_test (row_place t) (slice_index_or (table_at t).untils n Bottom)) → AreUntilSteps (table_at t) ss n ks
    → AreUntilSteps (table_at t) ss (n + 1) more
until_steps_more t ss n x ks more e p w = subst (AreUntilSteps (table_at t) ss (n + 1)) (sym e) (record {
  count = let a = length-append ks (x ∷ []) in let b = w.count in omega arith;
  each = λ i l. elim (same_or_other i n) [
    | inl d ↦
        let here : slice_index_or (ks ++ x ∷ []) i 0 ≡ x = at_pushed ks x 0 i (d ∙ sym w.count) in
        subst (λ y. IsStepOf ss y (until_test (row_place t) (slice_index_or (table_at t).untils i Bottom))) (sym here)
        (subst (λ j. IsStepOf ss x (until_test (row_place t) (slice_index_or (table_at t).untils j Bottom))) (sym d) p)
    | inr d ↦
        let c = w.count in
        let m : i < length ks = omega arith in
        subst (λ y. IsStepOf ss y (until_test (row_place t) (slice_index_or (table_at t).untils i Bottom))) (sym (index_append ks (x ∷ []) i 0 m)) (w.each i (omega arith))
  ];
})

pub until_steps_begin : (t : TableView) (ss : List Step) (ks : List ℕ) → ks ≡ [] → AreUntilSteps (table_at t) ss 0 ks
until_steps_begin t ss ks e = record { count = ap length e; each = λ i l. absurd (omega arith) }
