-- The generalized automaton of a formula, merged and numbered: it is one, no edge contradicts itself, its propositions are the formula's, and
-- every state is accepting.
use Rattle.std.proofs.Common.{◌≡◌, ℕ, ◌<◌, Bool, true, false, inl, inr, List, [], ◌∷◌, length, refl, sym, ◌∙◌, ap, subst}
use Rattle.std.specs.Prelude.{fold, ◌==◌}
use Rattle.std.proofs.lemmas.Bool.{cases_lt}
use Rattle.std.proofs.lemmas.List.{get_or_past}
use Rattle.ltl_spec.specs.Collections.Sets.{Has}
use Rattle.ltl_spec.specs.NormalForms.Normal.{Normal}
use Rattle.ltl_spec.specs.Transitions.Cubes.{Literal, is_contradictory}
use Rattle.ltl_spec.specs.Transitions.Pairs.{RowSet, Pair, join, empty_pair}
use Rattle.ltl_spec.specs.Transitions.RowTransitions.{Table, table_of, pairs_at, Transition, transitions}
use Rattle.ltl_spec.specs.Automata.Automaton.{Automaton, State, Edge, state_at}
use Rattle.ltl_spec.specs.Automata.Generalized.{same_row_set, row_net, root_set, IsGeneralized}
use Rattle.ltl_spec.specs.Automata.GeneralizedText.{IsGeneralizedTranslation}
use Rattle.ltl_spec.specs.Construction.Merging.{retargeted_edge, merged_automaton}
use Rattle.ltl_spec.specs.Construction.Renumbered.{state_net, renumbered_automaton}
use Rattle.ltl_spec.specs.Construction.Translation.{Options}
use Rattle.ltl_spec.specs.Checking.Bounds.{AcceptsEverywhere, HasNamesBelow, HasNoContradictions}
use Rattle.ltl_spec.proofs.Collections.SetLaws.{set_of_cases}
use Rattle.ltl_spec.proofs.Collections.ListLaws.{Has-at}
use Rattle.ltl_spec.proofs.Collections.MemberLaws.{map_cases}
use Rattle.ltl_spec.proofs.Collections.Orders.{pair_linear}
use Rattle.ltl_spec.proofs.Transitions.JoinLaws.{join_parts, join_pair_is, IsConsistent}
use Rattle.ltl_spec.proofs.Transitions.TransitionLaws.{transition_cases}
use Rattle.ltl_spec.specs.Automata.Net.{state_in}
use Rattle.ltl_spec.proofs.Automata.NetLaws.{one_reachable}
use Rattle.ltl_spec.proofs.Semantics.Runs.{IsClosed}
use Rattle.ltl_spec.proofs.Semantics.GeneralizedLaws.{generalized_closed, generalized_accepting}
use Rattle.ltl_spec.proofs.Construction.MergingRuns.{merged_closed, merged_accepting}
use Rattle.ltl_spec.proofs.Construction.RenumberedRuns.{reached_states, reached_within}
use Rattle.ltl_spec.proofs.Construction.EdgeBounds.{AreAll, moves_all, merged_all, renumbered_all}
use Rattle.ltl_spec.proofs.Checking.BelowLaws.{HasLeavesBelow, generalized_below}

-- a formula has one generalized automaton
pub one_generalized : (N : Normal) (keep : Bool) (A B : Automaton) → IsGeneralized N keep A → IsGeneralized N keep B → A ≡ B
one_generalized N keep A B a b =
    one_reachable same_row_set false (row_net N keep) (root_set N keep) (length (table_of N).untils) A B a b

-- and one generalized translation
pub one_generalized_translation : (N : Normal) (o : Options) (A B : Automaton) → IsGeneralizedTranslation N o A → IsGeneralizedTranslation N o B → A ≡ B
one_generalized_translation N o A B (G, g, e) (H, h, f) =
    e ∙ ap (λ M. renumbered_automaton (merged_automaton o.keep_implied o.keep_equal M)) (one_generalized N o.keep_implied G H g h) ∙ sym f

-- ---- no pair contradicts itself

abbrev AreConsistent : List Pair → Type 0
AreConsistent ps = (p : Pair) → Has ps p → IsConsistent p

one_pair : (p : Pair) → IsConsistent p → AreConsistent (p ∷ [])
one_pair p n r (inl e) = subst IsConsistent (sym e) n
one_pair p n r (inr z) = absurd z

join_consistent : (ps qs : List Pair) → AreConsistent (join ps qs)
join_consistent ps qs r h = let (p, q, k, m, e) = join_parts ps qs r h in let w = join_pair_is p q r e in subst IsConsistent (sym w.0) w.1

module _ (t : Table) where
  folded_consistent : (e : RowSet) (ps : List Pair) → AreConsistent ps → AreConsistent (fold (λ qs i. join qs (pairs_at t i)) ps e)
  folded_consistent [] ps c = c
  folded_consistent (i ∷ e) ps c = folded_consistent e (join ps (pairs_at t i)) (join_consistent ps (pairs_at t i))

  -- so no transition does
  pub transition_consistent : (keep : Bool) (e : RowSet) (u : Transition) → Has (transitions t keep e) u → is_contradictory u.cube ≡ false
  transition_consistent keep e u h =
      let (p, k, d) = transition_cases t keep e u h in
      let m = set_of_cases pair_linear (fold (λ qs i. join qs (pairs_at t i)) (empty_pair ∷ []) e) p k in
      subst (λ (x : Transition). is_contradictory x.cube ≡ false) (sym d) (folded_consistent e (empty_pair ∷ []) (one_pair empty_pair refl) p m)

-- ---- the generalized automaton

module _ (N : Normal) (keep : Bool) where
  pub generalized_consistent : (G : Automaton) → IsGeneralized N keep G → HasNoContradictions G
  generalized_consistent G (n, c, e) =
      subst HasNoContradictions (sym e)
      (moves_all (λ x. is_contradictory x.cube ≡ false) same_row_set false (row_net N keep) (λ s u h _. transition_consistent (table_of N) keep s u h) (root_set N keep) (length (table_of N).untils) n)

-- ---- merged and numbered

module _ (N : Normal) (o : Options) (A : Automaton) (t : IsGeneralizedTranslation N o A) where
  abbrev G : Automaton
  G = t.0

  abbrev merged : Automaton
  merged = merged_automaton o.keep_implied o.keep_equal G

  merged_is_closed : IsClosed merged
  merged_is_closed = merged_closed G o.keep_implied o.keep_equal (generalized_closed N o.keep_implied G t.1)

  -- what holds of the edges of the generalized automaton, whatever their targets
  kept_all : (P : Edge → Type 0) → ((f : ℕ → ℕ) (e : Edge) → P e → P (retargeted_edge f e)) → AreAll P G → AreAll P A
  kept_all P keeps all = subst (AreAll P) (sym t.2) (renumbered_all P keeps merged (merged_all P keeps G all o.keep_implied o.keep_equal))

  -- the propositions are those of the normal form
  pub translation_below : (n : ℕ) → HasLeavesBelow n N → HasNamesBelow n A
  translation_below n low = kept_all (λ e. (l : Literal) → Has e.cube l → l.proposition < n) (λ f e b. b) (generalized_below n N low o.keep_implied G t.1)

  -- every state is accepting, so only the acceptance sets count
  pub translation_all_accepting : (s : State) → Has A.states s → s.accepting ≡ true
  translation_all_accepting s h =
      let (k, m, e) = map_cases (state_in ◌==◌ true (state_net merged) (reached_states merged)) (reached_states merged) s (subst (λ (B : Automaton). Has B.states s) t.2 h) in
      ap (λ (r : State). r.accepting) e
      ∙ merged_accepting G o.keep_implied o.keep_equal (λ u b. generalized_accepting N o.keep_implied G t.1 u) k (reached_within merged merged_is_closed k m)

  pub translation_accepting : AcceptsEverywhere A
  translation_accepting s = elim (cases_lt s (length A.states)) [
    | inl l ↦ translation_all_accepting (state_at A s) (Has-at A.states s (record { accepting = true; edges = [] }) l)
    | inr l ↦ ap (λ (r : State). r.accepting) (get_or_past A.states s (record { accepting = true; edges = [] }) l)
  ]
