-- Laws of the states and steps of a product.
use Rattle.std.proofs.Common.{◌≡◌, ℕ, zero, suc, ◌+◌, ◌*◌, ◌/◌, ◌%◌, ◌<◌, Bool, true, false, List, [], length, Some, inl, inr, sym, subst, arith}
use Rattle.std.specs.Prelude.{All, slice_index_or}
use Rattle.std.specs.Ordering.{nat_cmp}
use Rattle.std.proofs.Math.Nat.{mul_comm, mul-zero}
use Rattle.std.proofs.lemmas.Nat.{div-mul-add, mod-mul-add, mul-add-lt}
use Rattle.std.proofs.lemmas.List.Elements.{All-get_or}
use Rattle.ltl_spec.specs.Collections.Sets.{put}
use Rattle.ltl_spec.specs.Transitions.Cubes.{Cube, join_cubes}
use Rattle.ltl_spec.specs.Automata.Automaton.{Automaton, State, Edge, state_at}
use Rattle.ltl_spec.specs.Hoa.HoaReading.{MarkedAutomaton}
use Rattle.ltl_spec.specs.Checking.Product.{renamed_cube}
use Rattle.ltl_spec.proofs.Collections.SetLaws.{has_Decides, put_cases}
use Rattle.ltl_spec.proofs.Collections.ListLaws.{All-at_has}
use Rattle.ltl_spec.proofs.Collections.Orders.{nat_linear}
use Rattle.ltl_spec.proofs.Automata.ListedStates.{no_state}
use Rattle.ltl_hoa.specs.MarkedView.{IsEdgeWithin}
use Rattle.ltl_check.specs.declared.graph.Step.{Step}
use Rattle.ltl_check.specs.declared.product.ProductState.{ProductState}
use Rattle.ltl_check.specs.Marks.{MarksBelow}
use Rattle.ltl_check.specs.LevelLaws.{mapped, place_within}
use Rattle.ltl_check.specs.ProductView.{no_edge, number_in, pair_marks, step_with, first_edges, second_edges, IsSearchable, IsPair, pair_place, pair_at, edge_pairs, pair_step}

-- a number below a product, by rows
pub row_below : (a b n : ℕ) → n < a * b → (n / b < a) × (n % b < b)
row_below a zero n l = absurd (let e = mul-zero a in omega arith)
row_below a (suc r) n l =
    let e : suc r ≡ r + 1 = omega arith in
    let l' : n < a * (r + 1) = subst (λ b. n < a * b) e l in
    let d : n / (r + 1) < a = place_within n a r l' in
    let m : n % (r + 1) < r + 1 = omega arith in
    (subst (λ b. n / b < a) (sym e) d, subst (λ b. n % b < b) (sym e) m)

pub place_in_rows : (a b s t : ℕ) → s < a → t < b → s * b + t < a * b
place_in_rows a b s t l m = subst (λ n. s * b + t < n) (mul_comm b a) (mul-add-lt s b t a l m)

module _ (A : MarkedAutomaton) (B : Automaton) where
  pub pair_of_number : (n : ℕ) → n < A.states * length B.states → IsPair A B (pair_at A B n)
  pair_of_number n l = row_below A.states (length B.states) n l

  pub place_of_pair : (s : ProductState) → IsPair A B s → pair_place A B s < A.states * length B.states
  place_of_pair s h = place_in_rows A.states (length B.states) s.first s.second h.0 h.1

  pub pair_back : (s : ProductState) → IsPair A B s → pair_at A B (pair_place A B s) ≡ s
  pair_back s h =
      let d : pair_place A B s / length B.states ≡ s.first = div-mul-add s.first (length B.states) s.second h.1 in
      let m : pair_place A B s % length B.states ≡ s.second = mod-mul-add s.first (length B.states) s.second h.1 in
      λ i. record { first = d i; second = m i }

  -- the two edges of a look
  pub first_place : (s : ProductState) (k : ℕ) → k < edge_pairs A B s → k / length (second_edges A B s.second) < length (first_edges A B s.first)
  first_place s k l = (row_below (length (first_edges A B s.first)) (length (second_edges A B s.second)) k l).0

  pub second_place : (s : ProductState) (k : ℕ) → k < edge_pairs A B s → k % length (second_edges A B s.second) < length (second_edges A B s.second)
  second_place s k l = (row_below (length (first_edges A B s.first)) (length (second_edges A B s.second)) k l).1

  abbrev pub first_at : ProductState → ℕ → Edge
  first_at s k = slice_index_or (first_edges A B s.first) (k / length (second_edges A B s.second)) no_edge

  abbrev pub second_at : ProductState → ℕ → Edge
  second_at s k = slice_index_or (second_edges A B s.second) (k % length (second_edges A B s.second)) no_edge

  -- a step is along both edges at once
  pub step_is : (numbers : List ℕ) (s : ProductState) (k : ℕ) (t : Step ProductState) → pair_step A B numbers s k ≡ Some t
      → (c : Cube) × (join_cubes (first_at s k).cube (renamed_cube (number_in numbers) (second_at s k).cube) ≡ Some c) × (step_with A.sets (state_at B s.second).accepting (first_at s k) (second_at s k) c ≡ t)
  step_is numbers s k t e = mapped (step_with A.sets (state_at B s.second).accepting (first_at s k) (second_at s k)) (join_cubes (first_at s k).cube (renamed_cube (number_in numbers) (second_at s k).cube)) t e

  first_within : IsSearchable A B → (s : ProductState) → IsPair A B s → (k : ℕ) → k < edge_pairs A B s → IsEdgeWithin (length A.names) A.states A.sets (first_at s k)
  first_within marked s h k l =
      let n = marked.counted in
      All-get_or (IsEdgeWithin (length A.names) A.states A.sets) (first_edges A B s.first) (k / length (second_edges A B s.second)) no_edge (first_place s k l)
      (All-get_or (λ es. All (IsEdgeWithin (length A.names) A.states A.sets) es) A.edges s.first [] (let g = h.0 in omega arith) marked.firsts)

  second_within : IsSearchable A B → (s : ProductState) → IsPair A B s → (k : ℕ) → k < edge_pairs A B s → (second_at s k).target < length B.states
  second_within buchi s h k l =
      let P : Edge → Type 0 = λ e. e.target < length B.states in
      let Q : State → Type 0 = λ x. All P x.edges in
      All-get_or P (second_edges A B s.second) (k % length (second_edges A B s.second)) no_edge (second_place s k l) (All-get_or Q B.states s.second no_state h.1 buchi.seconds)

  pub pair_target : (numbers : List ℕ) → IsSearchable A B → (s : ProductState) (k : ℕ) (t : Step ProductState) → IsPair A B s → k < edge_pairs A B s → pair_step A B numbers s k ≡ Some t → IsPair A B t.target
  pair_target numbers inside s k t h l e =
      let w = step_is numbers s k t e in
      subst (λ (u : Step ProductState). IsPair A B u.target) w.2 ((first_within inside s h k l).target, second_within inside s h k l)

  marks_inside : (b : Bool) (marks : List ℕ) → All (λ k. k < A.sets) marks → MarksBelow (pair_marks A.sets b marks) (A.sets + 1)
  marks_inside true marks all j e = elim (put_cases nat_cmp A.sets marks j ((has_Decides nat_linear j (put nat_cmp A.sets marks)).0 e)) [
    | inl q ↦ omega arith
    | inr h ↦ let l = All-at_has (λ k. k < A.sets) marks all j h in omega arith
  ]
  marks_inside false marks all j e = let l = All-at_has (λ k. k < A.sets) marks all j ((has_Decides nat_linear j marks).0 e) in omega arith

  pub pair_marks_below : (numbers : List ℕ) → IsSearchable A B → (s : ProductState) (k : ℕ) (t : Step ProductState) → IsPair A B s → k < edge_pairs A B s → pair_step A B numbers s k ≡ Some t → MarksBelow t.marks (A.sets + 1)
  pair_marks_below numbers inside s k t h l e =
      let w = step_is numbers s k t e in
      subst (λ (u : Step ProductState). MarksBelow u.marks (A.sets + 1)) w.2 (marks_inside (state_at B s.second).accepting (first_at s k).marks (first_within inside s h k l).marks)
