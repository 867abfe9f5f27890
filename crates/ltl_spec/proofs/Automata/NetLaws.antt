-- The automaton that is listed from a start: where its edges come from, that there is one, and that moves may be renamed.
use Rattle.std.proofs.Common.{◌≡◌, ℕ, Bool, true, false, cond, List, [], ◌∷◌, map, refl, sym, ◌∙◌, ap, subst}
use Rattle.ltl_spec.specs.Collections.Sets.{Has, set_of}
use Rattle.ltl_spec.specs.Automata.Automaton.{Automaton, State, Edge, edge_cmp}
use Rattle.ltl_spec.specs.Automata.Listing.{listing, IsComplete, PassesLimits}
use Rattle.ltl_spec.specs.Automata.Net.{Net, targets_of, edge_in, state_in, IsReachable}
use Rattle.ltl_spec.proofs.Collections.Orders.{edge_linear}
use Rattle.ltl_spec.proofs.Collections.SetLaws.{set_of_cases, Has-set_of}
use Rattle.ltl_spec.proofs.Collections.MemberLaws.{Has-map, map_cases}
use Rattle.ltl_spec.proofs.Automata.ListingLaws.{one_complete}

module _ {K M : Type 0} (same : K → K → Bool) (sorted : Bool) (net : Net K M) where
  -- an edge of a state is that of a move
  pub state_edges : (keys : List K) (k : K) (e : Edge) → Has (state_in same sorted net keys k).edges e → (m : M) × Has (net.moves k) m × (e ≡ edge_in same net keys m)
  state_edges keys k e h = map_cases (edge_in same net keys) (net.moves k) e (plain sorted h)
    where
      edges : List Edge
      edges = map (edge_in same net keys) (net.moves k)

      plain : (b : Bool) → Has (cond b (set_of edge_cmp (map (edge_in same net keys) (net.moves k))) (map (edge_in same net keys) (net.moves k))) e → Has (map (edge_in same net keys) (net.moves k)) e
      plain true m = set_of_cases edge_linear (map (edge_in same net keys) (net.moves k)) e m
      plain false m = m

  -- and each move has its edge
  pub Has-state_edge : (keys : List K) (k : K) (m : M) → Has (net.moves k) m → Has (state_in same sorted net keys k).edges (edge_in same net keys m)
  Has-state_edge keys k m h = there sorted
    where
      there : (b : Bool) → Has (cond b (set_of edge_cmp (map (edge_in same net keys) (net.moves k))) (map (edge_in same net keys) (net.moves k))) (edge_in same net keys m)
      there true = Has-set_of edge_linear (map (edge_in same net keys) (net.moves k)) (edge_in same net keys m) (Has-map (edge_in same net keys) (net.moves k) m h)
      there false = Has-map (edge_in same net keys) (net.moves k) m h

  -- there is one automaton
  pub one_reachable : (start : K) (sets : ℕ) (A B : Automaton) → IsReachable same sorted net start sets A → IsReachable same sorted net start sets B → A ≡ B
  one_reachable start sets A B a b =
      a.2 ∙ ap (λ keys. let X : Automaton = record { sets = sets; states = map (state_in same sorted net keys) keys } in X) (one_complete same (targets_of net) start a.0 b.0 a.1 b.1) ∙ sym b.2

-- where the moves of one net are those of another one, seen through f, the same is listed
module _ {K M N : Type 0} (same : K → K → Bool) (F : Net K M) (G : Net K N) (f : M → N)
    (moves : (k : K) → G.moves k ≡ map f (F.moves k)) (leads : (m : M) → G.target (f m) ≡ F.target m) (edges : (m : M) (n : ℕ) → G.edge (f m) n ≡ F.edge m n) (accepts : (k : K) → G.accepts k ≡ F.accepts k) where
  all_targets : targets_of G ≡ targets_of F
  all_targets = λ i k. (ap (map G.target) (moves k) ∙ over (F.moves k)) i
    where
      over : (ms : List M) → map G.target (map f ms) ≡ map F.target ms
      over [] = refl
      over (m ∷ ms) = λ i. leads m i ∷ over ms i

  all_states : (sorted : Bool) (keys : List K) → state_in same sorted G keys ≡ state_in same sorted F keys
  all_states sorted keys = λ i k. let s : State = record { accepting = accepts k i; edges = cond sorted (set_of edge_cmp (all k i)) (all k i) } in s
    where
      one : (m : M) → edge_in same G keys (f m) ≡ edge_in same F keys m
      one m = edges m _ ∙ ap (λ k. edge_in_at m k) (leads m)
        where
          edge_in_at : M → K → Edge
          edge_in_at m k = edge_in same (record F { target = λ _. k }) keys m

      over : (ms : List M) → map (edge_in same G keys) (map f ms) ≡ map (edge_in same F keys) ms
      over [] = refl
      over (m ∷ ms) = λ i. one m i ∷ over ms i

      all : (k : K) → map (edge_in same G keys) (G.moves k) ≡ map (edge_in same F keys) (F.moves k)
      all k = ap (map (edge_in same G keys)) (moves k) ∙ over (F.moves k)

  pub reachable_alike : (sorted : Bool) (start : K) (sets : ℕ) (A : Automaton) → IsReachable same sorted G start sets A → IsReachable same sorted F start sets A
  reachable_alike sorted start sets A (n, c, e) =
      let keys : listing same (targets_of G) start n ≡ listing same (targets_of F) start n = ap (λ T. listing same T start n) all_targets in
      (n, subst (λ T. IsComplete same T start n) all_targets c, e ∙ (λ i. let X : Automaton = record { sets = sets; states = map (all_states sorted (keys i) i) (keys i) } in X))

  pub limits_alike : (start : K) → PassesLimits same (targets_of G) start ≡ PassesLimits same (targets_of F) start
  limits_alike start = ap (λ T. PassesLimits same T start) all_targets
