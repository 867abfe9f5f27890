-- Laws of the product of an automaton and a lasso word.
use Rattle.std.proofs.Common.{◌≡◌, ℕ, ◌+◌, ◌*◌, ◌/◌, ◌%◌, ◌<◌, Bool, true, false, cond, List, [], length, Some, None, refl, subst, arith}
use Rattle.std.specs.Prelude.{All, nat_lt}
use Rattle.std.specs.Ordering.{nat_cmp}
use Rattle.std.proofs.lemmas.Bool.Decides.{nat_tests}
use Rattle.std.proofs.lemmas.Nat.{div-mul-add, mod-mul-add}
use Rattle.std.proofs.lemmas.List.Elements.{All-get_or}
use Rattle.ltl_spec.specs.Collections.Sets.{has}
use Rattle.ltl_spec.specs.Transitions.Cubes.{allows}
use Rattle.ltl_spec.specs.Hoa.HoaReading.{MarkedAutomaton}
use Rattle.ltl_spec.proofs.Collections.SetLaws.{has_Decides}
use Rattle.ltl_spec.proofs.Collections.ListLaws.{All-at_has}
use Rattle.ltl_spec.proofs.Collections.Orders.{nat_linear}
use Rattle.ltl_hoa.specs.MarkedView.{IsEdgeWithin}
use Rattle.ltl_check.specs.declared.graph.Step.{Step}
use Rattle.ltl_check.specs.declared.word_product.WordState.{WordState}
use Rattle.ltl_check.specs.Marks.{MarksBelow}
use Rattle.ltl_check.specs.PairLaws.{place_in_rows, row_below}
use Rattle.ltl_check.specs.ProductView.{edge_from, edges_from, no_edge}
use Rattle.ltl_check.specs.WordLetters.{letter_in}
use Rattle.ltl_check.specs.WordView.{IsInside, IsWordState, position_after, step_along, word_edges, word_number, word_state, word_step}

-- a word has a first position
pub some_position : (stem : ℕ) (letters : List (List ℕ)) → stem < length letters → 0 < length letters
some_position stem letters l = omega arith

-- the edges of a state are within the automaton
pub edge_within : (A : MarkedAutomaton) → IsInside A → (s k : ℕ) → s < A.states → k < length (edges_from A s) → IsEdgeWithin (length A.names) A.states A.sets (edge_from A s k)
edge_within A marked s k inside l =
    let n = marked.counted in
    All-get_or (IsEdgeWithin (length A.names) A.states A.sets) (edges_from A s) k no_edge l
    (All-get_or (λ es. All (IsEdgeWithin (length A.names) A.states A.sets) es) A.edges s [] (omega arith) marked.within)

module _ (A : MarkedAutomaton) (letters : List (List ℕ)) (stem : ℕ) where
  pub state_of_number : (n : ℕ) → n < length letters * A.states → IsWordState A letters stem (word_state A letters stem n)
  state_of_number n l = let r = row_below (length letters) A.states n l in (r.1, r.0)

  pub number_below : (s : WordState) → IsWordState A letters stem s → word_number A letters stem s < length letters * A.states
  number_below s h = place_in_rows (length letters) A.states s.position s.state h.1 h.0

  pub state_back : (s : WordState) → IsWordState A letters stem s → word_state A letters stem (word_number A letters stem s) ≡ s
  state_back s h =
      let d : word_number A letters stem s / A.states ≡ s.position = div-mul-add s.position A.states s.state h.0 in
      let m : word_number A letters stem s % A.states ≡ s.state = mod-mul-add s.position A.states s.state h.0 in
      λ i. record { state = m i; position = d i }

  -- a step follows an edge whose label the letter satisfies
  pub step_is : (s : WordState) (k : ℕ) (t : Step WordState) → word_step A letters stem s k ≡ Some t
      → (allows (λ p. has nat_cmp p (letter_in letters s.position)) (edge_from A s.state k).cube ≡ true) × (step_along A letters stem s (edge_from A s.state k) ≡ t)
  step_is s k t e = by (allows (λ p. has nat_cmp p (letter_in letters s.position)) (edge_from A s.state k).cube) e
    where
      by : (b : Bool) → cond b (Some (step_along A letters stem s (edge_from A s.state k))) None ≡ Some t → (b ≡ true) × (step_along A letters stem s (edge_from A s.state k) ≡ t)
      by true q = (refl, (cc))
      by false q = absurd (cc)

  pub after_below : stem < length letters → (i : ℕ) → position_after A letters stem i < length letters
  after_below l i = by (nat_lt (i + 1) (length letters)) refl
    where
      by : (b : Bool) → nat_lt (i + 1) (length letters) ≡ b → cond b (i + 1) stem < length letters
      by true e = less (i + 1) (length letters) e
        where
          less : (a b : ℕ) → nat_lt a b ≡ true → a < b
          less a b e = grind (arith, nat_tests)
      by false e = l

  pub step_target : IsInside A → stem < length letters → (s : WordState) (k : ℕ) (t : Step WordState) → IsWordState A letters stem s → k < word_edges A letters stem s → word_step A letters stem s k ≡ Some t → IsWordState A letters stem t.target
  step_target marked turns s k t h l e =
      let w = step_is s k t e in
      subst (λ (u : Step WordState). IsWordState A letters stem u.target) w.1 ((edge_within A marked s.state k h.0 l).target, after_below turns s.position)

  pub step_marks : IsInside A → (s : WordState) (k : ℕ) (t : Step WordState) → IsWordState A letters stem s → k < word_edges A letters stem s → word_step A letters stem s k ≡ Some t → MarksBelow t.marks A.sets
  step_marks marked s k t h l e =
      let w = step_is s k t e in
      subst (λ (u : Step WordState). MarksBelow u.marks A.sets) w.1
      (λ j m. All-at_has (λ i. i < A.sets) (edge_from A s.state k).marks (edge_within A marked s.state k h.0 l).marks j ((has_Decides nat_linear j (edge_from A s.state k).marks).0 m))
