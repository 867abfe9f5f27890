-- The first states that had each signature, as a coarser partition sees them.
use Rattle.std.proofs.Common.{◌≡◌, ℕ, ◌<◌, ◌⊎◌, inl, inr, Bool, List, [], ◌∷◌, ◌++◌, length, sym, ◌∙◌, ap, subst, arith, Some}
use Rattle.std.specs.Prelude.{slice_index, slice_get}
use Rattle.ltl_spec.specs.Automata.Automaton.{Automaton, State, Edge, state_at}
use Rattle.ltl_spec.specs.Construction.Merging.{retargeted_state}
use Rattle.ltl_spec.proofs.Collections.CaseLaws.{below_equal_above}
use Rattle.ltl_spec.proofs.Collections.ListLaws.{index_append, index_done}
use Rattle.ltl_passes.specs.Partition.{IsLeastPlaces, retargeted_list}
use Rattle.ltl_passes.specs.Worklist.{AreFiner, AreOwners, AreWithin, LeadsWithin, last_name, own_view, edge_view}
use Rattle.ltl_passes.proofs.ClassLaws.{get_more}
use Rattle.ltl_passes.proofs.FinerLaws.{seen_last}
use Rattle.ltl_passes.proofs.TargetLaws.{pushed_longer}

module _ (count : ℕ) (own : ℕ → State) (view : List Edge → State) (keys more_keys : List (List Edge)) (firsts : List ℕ) where
  abbrev Grown : Type 0
  Grown = (more : List (List Edge)) × (more_keys ≡ keys ++ more)

  Some_injective : (x y : List Edge) → Some x ≡ Some y → x ≡ y
  Some_injective x y e = cc

  grown_at : Grown → (k : ℕ) (es : List Edge) → slice_get keys k ≡ Some es → slice_get more_keys k ≡ Some es
  grown_at grown k es e = ap (λ ks. slice_get ks k) grown.1 ∙ get_more keys grown.0 k es e

  -- owners stay so where more is seen
  pub owners_grown : AreOwners count own view keys firsts → Grown → AreOwners count own view more_keys firsts
  owners_grown w grown = record {
    inside = w.inside;
    seen = λ k l. let (es, p, q) = w.seen k l in (es, grown_at grown k es p, q);
  }

  -- what was seen before has an owner
  pub owner_known : (number : ℕ) (edges : List Edge) (state t : ℕ) → AreOwners count own view keys firsts → Grown → slice_get more_keys number ≡ Some edges → number < length firsts → t ≡ slice_index firsts number → own state ≡ view edges
      → AreOwners count own view more_keys firsts × (t < count) × (own t ≡ own state)
  owner_known number edges state t w grown g l r e =
      let (es, p, q) = w.seen number l in
      let same = Some_injective es edges (sym (grown_at grown number es p) ∙ g) in
      let inside = w.inside number l in
      (owners_grown w grown, omega arith, ap own r ∙ q ∙ ap view same ∙ sym e)

  -- what is seen for the first time
  pub owner_new : (more_firsts : List ℕ) (number : ℕ) (edges : List Edge) (state : ℕ) → AreOwners count own view keys firsts → state < count → Grown → slice_get more_keys number ≡ Some edges → number ≡ length firsts → more_firsts ≡ firsts ++ state ∷ []
      → own state ≡ view edges → AreOwners count own view more_keys more_firsts
  owner_new more_firsts number edges state w l grown g n p e = record {
    inside = λ k h. inside k h (at k h);
    seen = λ k h. seen k h (at k h);
  }
    where
      at : (k : ℕ) → k < length more_firsts → ((k < length firsts) × (slice_index more_firsts k ≡ slice_index firsts k)) ⊎ ((k ≡ number) × (slice_index more_firsts k ≡ state))
      at k h = elim (below_equal_above k (length firsts)) [
        | inl m ↦ inl (m, ap (λ xs. slice_index xs k) p ∙ index_append firsts (state ∷ []) k 0 m)
        | inr (inl q) ↦ inr (q ∙ sym n, ap (slice_index more_firsts) q ∙ ap (λ xs. slice_index xs (length firsts)) p ∙ index_done firsts [] state 0)
        | inr (inr m) ↦ absurd (let a = pushed_longer firsts more_firsts state p in omega arith)
      ]

      inside : (k : ℕ) → k < length more_firsts → ((k < length firsts) × (slice_index more_firsts k ≡ slice_index firsts k)) ⊎ ((k ≡ number) × (slice_index more_firsts k ≡ state)) → slice_index more_firsts k < count
      inside k h (inl (m, q)) = let a = w.inside k m in omega arith
      inside k h (inr (m, q)) = omega arith

      seen : (k : ℕ) → k < length more_firsts → ((k < length firsts) × (slice_index more_firsts k ≡ slice_index firsts k)) ⊎ ((k ≡ number) × (slice_index more_firsts k ≡ state))
          → (es : List Edge) × (slice_get more_keys k ≡ Some es) × (own (slice_index more_firsts k) ≡ view es)
      seen k h (inl (m, q)) = let (es, a, b) = w.seen k m in (es, grown_at grown k es a, ap own q ∙ b)
      seen k h (inr (m, q)) = (edges, ap (slice_get more_keys) m ∙ g, ap own q ∙ e)

module _ (A : Automaton) where
  -- the last round sees a state as it is seen under finer names
  pub owner_view : (names : List ℕ) → LeadsWithin (last_name A) (length A.states) names → (s : ℕ) (b : Bool) (edges es : List Edge) → b ≡ (state_at A s).accepting → edges ≡ (state_at A s).edges → es ≡ retargeted_list (slice_index names) edges
      → own_view A s ≡ edge_view A b es
  owner_view names w s b edges es a e p =
      let same : es ≡ retargeted_list (slice_index names) (state_at A s).edges = p ∙ ap (retargeted_list (slice_index names)) e in
      sym (seen_last A names w (state_at A s)) ∙ sym (λ i. retargeted_state (last_name A) (let t : State = record { accepting = a i; edges = same i } in t))

  -- the least places of finer names are finer names
  pub least_finer : (names least : List ℕ) → LeadsWithin (last_name A) (length A.states) names → IsLeastPlaces names least → AreFiner A least
  least_finer names least w l = record {
    names = record {
      low = λ s m. l.low s (omega arith);
      twice = λ s m.
          let n : s < length names = omega arith in
          let p = l.low s n in
          l.once (slice_index least s) s (omega arith) n (l.same s n);
    };
    within = record {
      states = record { long = l.long ∙ long; inside = λ s m. let p = l.low s (omega arith) in omega arith };
      same = λ s m.
          let n : s < length names = omega arith in
          let p = l.low s n in
          sym (w.same (slice_index least s) (omega arith)) ∙ ap (last_name A) (l.same s n) ∙ w.same s m;
    };
  }
    where
      long : length names ≡ length A.states
      long = w.states.long

-- at first nothing was seen
pub no_owners : (count : ℕ) (own : ℕ → State) (view : List Edge → State) (keys : List (List Edge)) (firsts : List ℕ) → firsts ≡ [] → AreOwners count own view keys firsts
no_owners count own view keys firsts e =
    let none = ap length e in
    record { inside = λ k l. absurd (omega arith); seen = λ k l. absurd (omega arith) }

-- the classes that finer names give
pub first_within : (coarse : ℕ → ℕ) (n : ℕ) (names made links : List ℕ) → LeadsWithin coarse n names → made ≡ names → (LeadsWithin coarse (length names) names → LeadsWithin coarse (length names) links) → AreWithin coarse made links
first_within coarse n names made links w e rings =
    let own = subst (λ m. LeadsWithin coarse m names) (sym w.states.long) w in
    subst (λ ns. AreWithin coarse ns links) (sym e) (record { names = own; links = rings own })
