-- The verdict of the check: `contained` exactly when the product has no accepting walk, and else the word along one, in least form.
use Rattle.std.proofs.Common.{◌≡◌, ℕ, true, ◌↔◌, inl, inr, List, [], ◌∷◌, ◌++◌, map, length, refl, ap, subst, arith}
use Rattle.std.specs.Prelude.{IsTrue, slice_index_or, flat_map}
use Rattle.std.proofs.lemmas.Bool.{cases_lt}
use Rattle.std.proofs.lemmas.List.{get_or_past, get_or-map}
use Rattle.ltl_spec.specs.Collections.Sets.{Has}
use Rattle.ltl_spec.specs.Semantics.Word.{Name, Lasso, IsLasso}
use Rattle.ltl_spec.specs.Formulas.Formula.{Reading}
use Rattle.ltl_spec.specs.Words.LassoText.{names_in}
use Rattle.ltl_spec.specs.Semantics.Language.{AcceptsViolations}
use Rattle.ltl_spec.specs.Automata.Automaton.{Automaton, State, Edge, state_at, Accepts, AcceptsFrom}
use Rattle.ltl_spec.specs.Hoa.HoaReading.{MarkedAutomaton}
use Rattle.ltl_spec.specs.Formulas.Names.{unified}
use Rattle.ltl_spec.specs.Checking.Search.{lasso_along}
use Rattle.ltl_spec.specs.Checking.Searched.{HasCommonWalk, printed_word}
use Rattle.ltl_spec.specs.Checking.Check.{graph_of, marked_cubes, cubes_of, Contained, Violated, IsPositive, IsNeeded, IsVerdict, IsCommon, IsViolation, IsContained}
use Rattle.ltl_spec.specs.Checking.Bounds.{IsGraph, IsBuchi, IsProper}
use Rattle.ltl_spec.proofs.Collections.ListLaws.{Has-at}
use Rattle.ltl_spec.proofs.Collections.MemberLaws.{map_length}
use Rattle.ltl_spec.proofs.Automata.ListedStates.{no_state}
use Rattle.ltl_spec.proofs.Words.SameWordLaws.{accepts_from_same, accepts_same}
use Rattle.ltl_spec.proofs.Checking.CheckLaws.{no_common_word, common_lasso, common_accepted, common_needed}
use Rattle.ltl_spec.proofs.Words.LeastLaws.{least_same, least_cycles, least_is_least, least_names, least_form_is}

-- the state of some edges
abbrev pub state_with : List Edge → State
state_with es = record { accepting = true; edges = es }

module _ (A : MarkedAutomaton) where
  -- the edges of a state are one of the lists
  edges_of_state : (s : ℕ) (e : Edge) → Has (state_at (graph_of A) s).edges e → (es : List Edge) × Has A.edges es × Has es e
  edges_of_state s e h = elim (cases_lt s (length A.edges)) [
    | inl l ↦ (slice_index_or A.edges s [], Has-at A.edges s [] l, subst (λ (t : State). Has t.edges e) (get_or-map state_with A.edges s [] no_state l) h)
    | inr l ↦
        let n = map_length state_with A.edges in
        absurd (subst (λ (t : State). Has t.edges e) (get_or_past (map state_with A.edges) s no_state (omega (arith, n, l))) h)
  ]

  all_accepting : (s : ℕ) → IsTrue (state_at (graph_of A) s).accepting
  all_accepting s = elim (cases_lt s (length A.edges)) [
    | inl l ↦ ap (λ (t : State). t.accepting) (get_or-map state_with A.edges s [] no_state l)
    | inr l ↦
        let n = map_length state_with A.edges in
        ap (λ (t : State). t.accepting) (get_or_past (map state_with A.edges) s no_state (omega (arith, n, l)))
  ]

  pub graph_is_graph : IsProper A → IsGraph (length A.names) (graph_of A)
  graph_is_graph p = record {
    accepting = all_accepting;
    marks = λ s e h k m. let (es, i, j) = edges_of_state s e h in p.marks es e i j k m;
    propositions = λ s e h l m. let (es, i, j) = edges_of_state s e h in p.propositions es e i j l m;
  }

  -- the cubes are the same
  marked_cubes_same : cubes_of (graph_of A) ≡ marked_cubes A
  marked_cubes_same = at A.edges
    where
      at : (ess : List (List Edge)) → flat_map (λ (s : State). map (λ (e : Edge). e.cube) s.edges) (map state_with ess) ≡ flat_map (map (λ (e : Edge). e.cube)) ess
      at [] = refl
      at (es ∷ ess) = ap (λ l. map (λ (e : Edge). e.cube) es ++ l) (at ess)

module _ (A : MarkedAutomaton) (proper : IsProper A) (names : List Name) (B : Automaton) (buchi : IsBuchi (length names) B) where
  -- without an accepting walk no word is accepted by both
  pub contained_verdict : ¬ (HasCommonWalk A names B) → IsVerdict A names B (IsCommon A names B) Contained
  contained_verdict none w lasso (a, b) =
      no_common_word (graph_of A) B A.names names proper.differ (graph_is_graph A proper) buchi A.start none w lasso.cycles (a, b)

  module _ (h : HasCommonWalk A names B) where
    -- the word along a walk, and its least form
    abbrev found : Lasso
    found = lasso_along (unified A.names names) h.stem h.cycle

    abbrev printed : Lasso
    printed = printed_word A names h.stem h.cycle

    found_lasso : IsLasso found
    found_lasso = common_lasso (graph_of A) B A.names names proper.differ (graph_is_graph A proper) buchi A.start h

    found_accepted : AcceptsFrom A.start A.names (graph_of A) found × Accepts names B found
    found_accepted = common_accepted (graph_of A) B A.names names proper.differ (graph_is_graph A proper) buchi A.start h

    found_needed : (n : Name) → Has (names_in found) n → IsNeeded A names B n
    found_needed n m = elim (common_needed (graph_of A) B A.names names proper.differ (graph_is_graph A proper) buchi A.start h n m) [
      | inl p ↦ inl (subst (λ cs. IsPositive A.names cs n) (marked_cubes_same A) p)
      | inr p ↦ inr p
    ]

    -- the least form is accepted by both
    printed_common : IsCommon A names B printed
    printed_common =
        let cycles = found_lasso.cycles in
        let shorter = least_cycles found cycles in
        let same = least_same found cycles in (
          (accepts_from_same A.start A.names (graph_of A) found printed cycles shorter same).0 found_accepted.0,
          (accepts_same names B found printed cycles shorter same).0 found_accepted.1,
        )

    -- so it is a verdict
    pub violated_verdict : IsVerdict A names B (IsCommon A names B) (Violated (printed_word A names h.stem h.cycle))
    violated_verdict = (
      (least_form_is found found_lasso).lasso,
      printed_common,
      least_is_least found found_lasso.cycles,
      λ n m. found_needed n (least_names found found_lasso.cycles n m),
    )

-- The formula whose violations B accepts
module _ (A : MarkedAutomaton) (proper : IsProper A) (R : Reading) (B : Automaton) (buchi : IsBuchi (length R.names) B) (violations : AcceptsViolations B R.formula) where
  -- a word of both is a violation, and the other way round
  pub common_violation : (w : Lasso) → IsLasso w → IsCommon A R.names B w ↔ IsViolation A R w
  common_violation w lasso = ((λ h. (h.0, (violations R.names w lasso.cycles).0 h.1)), λ h. (h.0, (violations R.names w lasso.cycles).1 h.1))

  -- `contained` where there is no walk, and else the word along one
  pub contained_of_none : ¬ (HasCommonWalk A R.names B) → IsVerdict A R.names B (IsViolation A R) Contained
  contained_of_none none w lasso h = contained_verdict A proper R.names B buchi none w lasso ((common_violation w lasso).1 h)

  pub violated_of_walk : (h : HasCommonWalk A R.names B) → IsVerdict A R.names B (IsViolation A R) (Violated (printed_word A R.names h.stem h.cycle))
  violated_of_walk h =
      let v = violated_verdict A proper R.names B buchi h in
      (v.0, (common_violation (printed_word A R.names h.stem h.cycle) v.0).0 v.1, v.2, v.3)

  -- no word that is accepted violates the formula exactly when there is no accepting walk
  pub contained_exactly : IsContained A R ↔ (¬ (HasCommonWalk A R.names B))
  contained_exactly = ((λ c h. let v = violated_of_walk h in c (printed_word A R.names h.stem h.cycle) v.0 v.1), contained_of_none)
