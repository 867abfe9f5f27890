-- What lists of pairs ask for, step by step.
use Rattle.std.proofs.Common.{◌≡◌, ℕ, ◌+◌, ◌<◌, Bool, true, false, cond, not, inl, inr, List, [], ◌∷◌, ◌++◌, length, map, refl, sym, ◌∙◌, ap, subst, arith}
use Rattle.std.specs.Prelude.{slice_get, slice_index_or, Some, filter}
use Rattle.std.specs.Bool.{beq}
use Rattle.std.specs.Ordering.{nat_cmp}
use Rattle.ltl_spec.specs.Collections.Lists.{place_of}
use Rattle.ltl_spec.specs.Collections.Sets.{Has, has}
use Rattle.ltl_spec.specs.Transitions.Cubes.{Literal, Cube, literal_cmp}
use Rattle.ltl_spec.specs.NormalForms.Normal.{Bottom, same}
use Rattle.ltl_spec.specs.NormalForms.NormalForm.{until_rows}
use Rattle.ltl_spec.specs.Transitions.Pairs.{RowSet, Pair}
use Rattle.ltl_spec.specs.Transitions.Pruning.{fulfilling_pairs}
use Rattle.ltl_spec.specs.Transitions.RowTransitions.{Table, place}
use Rattle.ltl_spec.proofs.Collections.CaseLaws.{false_is_true}
use Rattle.ltl_spec.proofs.Collections.ListLaws.{Has-at, at_place, place_below}
use Rattle.ltl_spec.proofs.Collections.SetLaws.{has_Decides}
use Rattle.ltl_spec.proofs.Collections.Orders.{nat_linear, literal_linear}
use Rattle.ltl_spec.proofs.NormalForms.NormalLaws.{same_Decides}
use Rattle.ltl_spec.proofs.Transitions.IndependentPairs.{Leads}
use Rattle.ltl_spec.proofs.Transitions.SupportTests.{TellsOf, covers_fulfilling}
use Rattle.ltl_spec.proofs.Transitions.Fulfilment.{until_test}
use Rattle.ltl_spec.proofs.Transitions.LeastPairs.{same_truth}
use Rattle.ltl_spec.proofs.Transitions.IndependenceTests.{of_sign, Has-names, names_cases, names_of_sign}
use Rattle.ltl_spec.proofs.Transitions.IndependenceTests.{Support, names_in, no_support, support_of, together, Covers, covers_one, covers_append, covers_more, within_together_left, within_together_right, CoversFulfilling}
use Rattle.ltl_sets.specs.Words.{letter_of, forbidden_of}
use Rattle.ltl_alt.specs.SupportView.{IsAdded, CoversAllFulfilling, AreDependencies}
use Rattle.ltl_alt.specs.Tests.{AreTests}
use Rattle.ltl_alt.specs.declared.fulfilment.Fulfilment.{Fulfilment}
use Rattle.ltl_alt.specs.declared.fulfilment.UntilTest.{UntilTest}
use Rattle.ltl_alt.proofs.NeedsLaws.{same_or_other}

-- ---- one pair

pub letter_names : (ls : List Literal) → letter_of ls ≡ names_in true ls
letter_names [] = refl
letter_names (l ∷ ls) = at l.positive (letter_names ls)
  where
    at : (b : Bool) → letter_of ls ≡ names_in true ls
        → map (λ (m : Literal). m.proposition) (cond b (l ∷ filter (λ m. m.positive) ls) (filter (λ m. m.positive) ls)) ≡ cond (beq true b) (l.proposition ∷ names_in true ls) (names_in true ls)
    at true e = ap (λ ns. l.proposition ∷ ns) e
    at false e = e

pub forbidden_names : (ls : List Literal) → forbidden_of ls ≡ names_in false ls
forbidden_names [] = refl
forbidden_names (l ∷ ls) = at l.positive (forbidden_names ls)
  where
    at : (b : Bool) → forbidden_of ls ≡ names_in false ls
        → map (λ (m : Literal). m.proposition) (cond (not b) (l ∷ filter (λ m. not m.positive) ls) (filter (λ m. not m.positive) ls)) ≡ cond (beq false b) (l.proposition ∷ names_in false ls) (names_in false ls)
    at true e = e
    at false e = ap (λ ns. l.proposition ∷ ns) e

pub support_of_is : (p : Pair) (ps ns ts : List ℕ) → ps ≡ letter_of p.cube → ns ≡ forbidden_of p.cube → ts ≡ p.targets → record { positive = ps; negative = ns; targets = ts } ≡ support_of p
support_of_is p ps ns ts d e f =
    let positive = d ∙ letter_names p.cube in
    let negative = e ∙ forbidden_names p.cube in
    λ i. record { positive = positive i; negative = negative i; targets = f i }

-- a pair asks for a literal where its proposition is among those of its sign
pub reads_is : (p : Pair) (l : Literal) → has nat_cmp l.proposition (of_sign l.positive (support_of p)) ≡ has literal_cmp l p.cube
reads_is p l = same_truth (has nat_cmp l.proposition (of_sign l.positive (support_of p))) (has literal_cmp l p.cube)
    (λ e. (has_Decides literal_linear l p.cube).1 (back l.positive ((has_Decides nat_linear l.proposition (of_sign l.positive (support_of p))).0 e)))
    (λ e. (has_Decides nat_linear l.proposition (of_sign l.positive (support_of p))).1 (names_of_sign p l.positive l.proposition (Has-names p.cube l ((has_Decides literal_linear l p.cube).0 e))))
  where
    back : (s : Bool) → Has (of_sign s (support_of p)) l.proposition → Has p.cube (record { proposition = l.proposition; positive = s })
    back true h = names_cases true p.cube l.proposition h
    back false h = names_cases false p.cube l.proposition h

pub reads_positive : (c : Cube) (n : ℕ) → has nat_cmp n (letter_of c) ≡ has literal_cmp (record { proposition = n; positive = true }) c
reads_positive c n = ap (has nat_cmp n) (letter_names c) ∙ reads_is (record { cube = c; targets = [] }) (record { proposition = n; positive = true })

pub reads_negative : (c : Cube) (n : ℕ) → has nat_cmp n (forbidden_of c) ≡ has literal_cmp (record { proposition = n; positive = false }) c
reads_negative c n = ap (has nat_cmp n) (forbidden_names c) ∙ reads_is (record { cube = c; targets = [] }) (record { proposition = n; positive = false })

-- ---- lists

-- one pair more
pub covers_step : (a b c : Support) (ps : List Pair) (p : Pair) (qs : List Pair) → Covers a ps → b ≡ support_of p → c ≡ together a b → qs ≡ ps ++ p ∷ [] → Covers c qs
covers_step a b c ps p qs w d e f =
    subst (Covers c) (sym f) (subst (λ x. Covers x (ps ++ p ∷ [])) (sym e) (covers_append a b ps (p ∷ []) w (subst (λ x. Covers x (p ∷ [])) (sym d) (covers_one p))))

pub added_leaves : (a b c : Support) (o : Bool) → c ≡ together a b → IsAdded a b o c
added_leaves a b c o e = subst (IsAdded a b o) (sym e) (record { more = within_together_left a b; told = λ t. within_together_right a b })

pub added_nothing : (a b : Support) (o : Bool) → o ≡ false → IsAdded a b o a
added_nothing a b o e = record { more = record { positive = λ n h. h; negative = λ n h. h; targets = λ n h. h }; told = λ t. false_is_true (sym e ∙ t) }

-- ---- until rows

pub awaits_step : {A : Type 0} (T : Table) (f : Fulfilment A) (tests : AreTests T f) (targets : RowSet) (n : ℕ) (u : UntilTest) (v a b : Support) (o : Bool) → slice_get f.untils.items n ≡ Some u → n < length T.untils
    → v ≡ slice_index_or f.leaves.items u.step no_support → o ≡ has nat_cmp u.place targets → CoversAllFulfilling T targets n a → IsAdded a v o b → CoversAllFulfilling T targets (n + 1) b
awaits_step T f tests targets n u v a b o found l is test all added i less h = elim (same_or_other i n) [
  | inl e ↦
      let F = slice_index_or T.untils n Bottom in
      let w = tests.each n u found in
      let here : Has targets u.place = subst (Has targets) (sym w.place_of) (subst (λ j. Has targets (place T (slice_index_or T.untils j Bottom))) e h) in
      let tell : TellsOf v (until_test (place T) F) = subst (λ x. TellsOf x (until_test (place T) F)) (sym is) (subst (TellsOf (slice_index_or f.leaves.items u.step no_support)) w.test (tests.leaves.tell u.step)) in
      let there : Has (until_rows tests.core) F = subst (λ (X : Table). Has X.untils F) tests.is_table (Has-at T.untils n Bottom l) in
      let covers : Covers v (fulfilling_pairs T F) = subst (λ X. Covers v (fulfilling_pairs X F)) (sym tests.is_table)
      (covers_fulfilling tests.core v F there (subst (λ X. TellsOf v (until_test (place X) F)) tests.is_table tell)) in
      subst (λ j. Covers b (fulfilling_pairs T (slice_index_or T.untils j Bottom))) (sym e)
      (covers_more v b (fulfilling_pairs T F) (added.told (test ∙ (has_Decides nat_linear u.place targets).1 here)) covers)
  | inr e ↦ let before : i < n = omega arith in covers_more a b (fulfilling_pairs T (slice_index_or T.untils i Bottom)) added.more (all i before h)
]

-- each until row stands at its place
awaits_each : (T : Table) (w : Support) (ps : List Pair) → ((i : ℕ) → i < length T.untils → Leads ps (place T (slice_index_or T.untils i Bottom)) → Covers w (fulfilling_pairs T (slice_index_or T.untils i Bottom))) → CoversFulfilling T (fulfilling_pairs T) w ps
awaits_each T w ps each f h l =
    let at = at_place same same_Decides f T.untils Bottom h in
    subst (λ g. Covers w (fulfilling_pairs T g)) at (each (place_of same f T.untils) (place_below same same_Decides f T.untils h) (subst (λ g. Leads ps (place T g)) (sym at) l))

-- the demand of a list
pub dependencies : (T : Table) (ps : List Pair) (a w : Support) → Covers a ps → CoversAllFulfilling T a.targets (length T.untils) w → AreDependencies T ps (record { support = a; fulfilling = w })
dependencies T ps a w c all = record { support = c; fulfilling = awaits_each T w ps (λ i l h. all i l (c.rows (place T (slice_index_or T.untils i Bottom)) h)) }
