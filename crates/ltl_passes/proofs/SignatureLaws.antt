-- A round of merging by signatures of lists.
use Rattle.std.proofs.Common.{◌≡◌, ℕ, zero, suc, ◌<◌, ◌≤◌, true, inl, inr, List, [], ◌∷◌, ◌++◌, map, length, refl, sym, ◌∙◌, ap, subst, arith, Some}
use Rattle.std.specs.Prelude.{slice_index, slice_index_or, slice_get, All}
use Rattle.std.proofs.lemmas.List.{get_or-map, length-map}
use Rattle.ltl_spec.specs.Collections.Sets.{Has, set_of}
use Rattle.ltl_spec.specs.Automata.Automaton.{Automaton, State, Edge, edge_cmp, state_at}
use Rattle.ltl_spec.specs.Construction.Merging.{retargeted_edge, retargeted_state}
use Rattle.ltl_spec.proofs.Collections.ListLaws.{All-at_has}
use Rattle.ltl_automaton.specs.CodedEdges.{coded_edge_of}
use Rattle.ltl_automaton.specs.SharedView.{Shared, IsShared, automaton_of, state_in}
use Rattle.ltl_automaton.specs.declared.coded_edge.CodedEdge as code
use Rattle.ltl_automaton.specs.declared.shared.SharedState.{SharedState}
use Rattle.ltl_automaton.proofs.EdgeLaws.{map_pushed}
use Rattle.ltl_automaton.proofs.SharedLaws.{got_once}
use Rattle.ltl_passes.specs.Worklist.{IsRound, named_view}
use Rattle.ltl_passes.specs.Partition.{AreListsWithin, AreSignatures, IsLeastAlike, IsWithinStates, place_signature, list_view, retargeted_list}

-- a list is seen as before where its targets keep their names
pub seen_again : (f g : ℕ → ℕ) (es : List Edge) → ((e : Edge) → Has es e → f e.target ≡ g e.target) → retargeted_list f es ≡ retargeted_list g es
seen_again f g es same = ap (set_of edge_cmp) (edges es same)
  where
    edges : (es : List Edge) → ((e : Edge) → Has es e → f e.target ≡ g e.target) → map (retargeted_edge f) es ≡ map (retargeted_edge g) es
    edges [] h = refl
    edges (e ∷ es) h =
        let here = h e (inl refl) in
        let rest = edges es (λ x k. h x (inr k)) in
        λ i. record e { target = here i } ∷ rest i

-- an element at a place is the same whatever stands past the end
pub index_any : {K : Type 0} (xs : List K) (i : ℕ) (c d : K) → i < length xs → slice_index_or xs i c ≡ slice_index_or xs i d
index_any [] i c d l = absurd (omega arith)
index_any (x ∷ xs) zero c d l = refl
index_any (x ∷ xs) (suc i) c d l = index_any xs i c d (omega arith)

-- one more edge with another target
pub retargeted_next : (f : ℕ → ℕ) (made more_made : List code.CodedEdge) (x : code.CodedEdge) (taken more_taken : List code.CodedEdge) (e : code.CodedEdge) → map coded_edge_of made ≡ map (retargeted_edge f) (map coded_edge_of taken)
    → coded_edge_of x ≡ retargeted_edge f (coded_edge_of e) → more_made ≡ made ++ x ∷ [] → more_taken ≡ taken ++ e ∷ [] → map coded_edge_of more_made ≡ map (retargeted_edge f) (map coded_edge_of more_taken)
retargeted_next f made more_made x taken more_taken e w p q t =
    map_pushed coded_edge_of made more_made x q ∙ ap (λ l. l ++ coded_edge_of x ∷ []) w ∙ ap (λ y. map (retargeted_edge f) (map coded_edge_of taken) ++ y ∷ []) p
    ∙ sym (map_pushed (retargeted_edge f) (map coded_edge_of taken) (map coded_edge_of more_taken) (coded_edge_of e) (map_pushed coded_edge_of taken more_taken e t))

module _ (S : Shared) (shared : IsShared S.lists S.states) where
  abbrev A : Automaton
  A = automaton_of S

  abbrev pub place : ℕ → SharedState
  place s = slice_index_or S.states s (record { list = 0; accepting = true })

  long : length A.states ≡ length S.states
  long = length-map S.states (state_in S.lists)

  pub is_at : (s : ℕ) → s < length A.states → state_at A s ≡ state_in S.lists (place s)
  is_at s l = get_or-map (state_in S.lists) S.states s (record { list = 0; accepting = true }) (record { accepting = true; edges = [] }) (let e = long in omega arith)

  pub has_list : (s : ℕ) → s < length A.states → (place s).list < length S.lists
  has_list s l = shared.places s (record { list = 0; accepting = true }) (let e = long in omega arith)

  -- what holds of the edges of all states holds of those of all lists
  pub all_lists : (P : List Edge → Type 0) → All (λ (s : State). P s.edges) A.states → All P S.lists
  all_lists P w k d l =
      let u = shared.used k l in
      let here = All-at_has (λ (s : State). P s.edges) A.states w (state_in S.lists u.0) (has_state S.states u.0 u.1) in
      subst P (ap (λ i. slice_index_or S.lists i []) u.2 ∙ index_any S.lists k [] d l) here
    where
      has_state : (ps : List SharedState) (p : SharedState) → Has ps p → Has (map (state_in S.lists) ps) (state_in S.lists p)
      has_state [] p h = absurd h
      has_state (q ∷ ps) p (inl e) = inl (ap (state_in S.lists) e)
      has_state (q ∷ ps) p (inr h) = inr (has_state ps p h)

  pub lists_within : IsWithinStates A.states → AreListsWithin S.lists (length A.states)
  lists_within w = all_lists (λ es. All (λ e. e.target < length A.states) es) w

  -- the least states that are seen as equal are the names of the next round
  pub next_round : (names : List ℕ) (keys : List (List Edge)) (signatures next : List ℕ) → AreSignatures (length S.lists) (list_view S.lists (slice_index names)) keys signatures
      → IsLeastAlike (length S.states) (place_signature S.states signatures) next → IsRound A names next
  next_round names keys signatures next c l = record {
    names = record {
      low = λ s m. l.low s (below s m);
      twice = λ s m.
          let h = below s m in
          let p : slice_index next s ≤ s = l.low s h in
          l.once (slice_index next s) s (omega arith) h (l.same s h);
    };
    long = l.long ∙ sym long;
    seen = to;
    same = from;
  }
    where
      inside : (s : ℕ) → s < length A.states → s < length S.states
      inside s m = let e = long in omega arith

      below : (s : ℕ) → s < length next → s < length S.states
      below s m = let e = l.long in omega arith

      view : ℕ → List Edge
      view k = list_view S.lists (slice_index names) k

      seen : (s : ℕ) → s < length A.states → named_view A names s ≡ (let t : State = record { accepting = (place s).accepting; edges = view (place s).list } in t)
      seen s m = ap (retargeted_state (slice_index names)) (is_at s m)

      to : (s t : ℕ) → s < length A.states → t < length A.states → slice_index next s ≡ slice_index next t → named_view A names s ≡ named_view A names t
      to s t m k e =
          let f : place_signature S.states signatures s ≡ place_signature S.states signatures t = sym (l.same s (inside s m)) ∙ ap (place_signature S.states signatures) e ∙ l.same t (inside t k) in
          let signature = ap (λ (p : SharedState). p.list) f in
          let accepting = ap (λ (p : SharedState). p.accepting) f in
          let edges : view (place s).list ≡ view (place t).list = Some_injective _ _ (sym (c.seen (place s).list (has_list s m)) ∙ ap (slice_get keys) signature ∙ c.seen (place t).list (has_list t k)) in
          seen s m ∙ (λ i. let u : State = record { accepting = accepting i; edges = edges i } in u) ∙ sym (seen t k)
        where
          Some_injective : (x y : List Edge) → Some x ≡ Some y → x ≡ y
          Some_injective x y e = cc

      from : (s t : ℕ) → s < length A.states → t < length A.states → named_view A names s ≡ named_view A names t → slice_index next s ≡ slice_index next t
      from s t m k e =
          let f = sym (seen s m) ∙ e ∙ seen t k in
          let accepting = ap (λ (u : State). u.accepting) f in
          let edges = ap (λ (u : State). u.edges) f in
          let signature = got_once keys (slice_index signatures (place s).list) (slice_index signatures (place t).list) (view (place s).list) c.distinct (c.seen (place s).list (has_list s m)) (c.seen (place t).list (has_list t k) ∙ ap (λ (es : List Edge). Some es) (sym edges)) in
          l.once s t (inside s m) (inside t k) (λ i. let p : SharedState = record { list = signature i; accepting = accepting i } in p)
