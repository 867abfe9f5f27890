-- A quotient stays within the limits of what it is made of, and each of its states is reached.
use Rattle.std.proofs.Common.{◌≡◌, ℕ, suc, ◌<◌, ◌≤◌, Bool, true, false, not, ◌&&◌, inl, inr, List, [], ◌∷◌, map, length, sym, ◌∙◌, ap, subst, arith}
use Rattle.std.specs.Prelude.{slice_index, slice_index_or, ◌==◌, sum_by, take, All}
use Rattle.std.specs.List.{list_any}
use Rattle.std.specs.Ordering.{nat_cmp}
use Rattle.ltl_spec.specs.Collections.Sets.{Has, IsRising, set_of}
use Rattle.ltl_spec.specs.Collections.Lists.{place_of}
use Rattle.ltl_spec.specs.Automata.Automaton.{Automaton, State, Edge, edge_cmp, state_at}
use Rattle.ltl_spec.specs.Construction.Merging.{same_edge, implies_edge, retargeted_edge, retargeted_state, without_implied, quotient}
use Rattle.ltl_spec.proofs.Collections.SetLaws.{set_of_cases, IsRising-set_of, IsRising-filter}
use Rattle.ltl_spec.proofs.Collections.Orders.{nat_linear, edge_linear}
use Rattle.ltl_spec.proofs.Collections.ListLaws.{Has-at, All-from_has, place_again}
use Rattle.ltl_spec.proofs.Collections.MemberLaws.{map_length, map_cases}
use Rattle.std.proofs.lemmas.Bool.Decides.{Decides-eqb}
use Rattle.std.proofs.lemmas.List.Sums.{sum_by-cons}
use Rattle.ltl_spec.proofs.Automata.ListedStates.{no_state}
use Rattle.ltl_spec.proofs.Semantics.Runs.{IsClosed}
use Rattle.ltl_spec.proofs.Construction.QuotientRuns.{IsNaming, HasSetEdges, number_inside, class_edge, number_start, edge_on}
use Rattle.ltl_spec.proofs.Construction.EdgeBounds.{HasNoRepeats-rising, thin_length}
use Rattle.ltl_models.specs.BaView.{IsReached, start, along}
use Rattle.ltl_spec.proofs.Collections.SumLaws.{set_of_length}
use Rattle.ltl_automaton.proofs.WayLaws.{take_whole}
use Rattle.ltl_passes.proofs.SignatureLaws.{index_any}
use Rattle.ltl_passes.proofs.Sums.{few_all}

-- sizes

-- a class has no more edges than the state that names it
pub class_length : (keep_implied : Bool) (f : ℕ → ℕ) (s : State) → length (without_implied keep_implied (retargeted_state f s)).edges ≤ length s.edges
class_length keep_implied f s =
    let a = thin_length keep_implied (retargeted_state f s) in
    let b = set_of_length edge_cmp (map (retargeted_edge f) s.edges) in
    let c = map_length (retargeted_edge f) s.edges in
    omega arith

-- its edges rise
pub class_rising : (keep_implied : Bool) (f : ℕ → ℕ) (s : State) → IsRising edge_cmp (without_implied keep_implied (retargeted_state f s)).edges
class_rising true f s = IsRising-set_of edge_linear (map (retargeted_edge f) s.edges)
class_rising false f s =
    IsRising-filter edge_cmp (λ e. not (list_any (λ g. not (same_edge g e) && implies_edge g e) (retargeted_state f s).edges)) (retargeted_state f s).edges
    (IsRising-set_of edge_linear (map (retargeted_edge f) s.edges))

-- the classes are fewer than the states, and are states
module _ (A : Automaton) (names : List ℕ) (naming : IsNaming A names) where
  abbrev classes : List ℕ
  classes = set_of nat_cmp names

  pub classes_few : length classes ≤ length A.states
  classes_few = let a = set_of_length nat_cmp names in let b = naming.long in omega arith

  named_inside : (n : ℕ) (ns : List ℕ) → ((k : ℕ) → k < length ns → slice_index ns k < n) → (c : ℕ) → Has ns c → c < n
  named_inside n [] l c h = absurd h
  named_inside n (x ∷ ns) l c (inl e) = let m = l 0 (omega arith) in let q : x < n = m in omega arith
  named_inside n (x ∷ ns) l c (inr h) = named_inside n ns (λ k m. l (suc k) (omega arith)) c h

  pub classes_inside : (c : ℕ) → Has classes c → c < length A.states
  classes_inside c h =
      named_inside (length A.states) names (λ k l. let e = naming.long in let m : slice_index names k ≤ k = naming.low k (omega arith) in omega arith) c (set_of_cases nat_linear names c h)

module _ (keep_implied : Bool) (A : Automaton) (names : List ℕ) (naming : IsNaming A names) where
  abbrev pub Q : Automaton
  Q = quotient keep_implied names A

  abbrev pub listed : List ℕ
  listed = set_of nat_cmp names

  -- the number of a state's class
  abbrev pub class_of : ℕ → ℕ
  class_of s = place_of ◌==◌ (slice_index names s) listed

  abbrev pub class_at : ℕ → State
  class_at c = without_implied keep_implied (retargeted_state class_of (state_at A c))

  pub quotient_long : length Q.states ≡ length listed
  quotient_long = map_length class_at listed

  pub quotient_some : 0 < length A.states → 0 < length Q.states
  quotient_some l = let m = number_inside keep_implied names A naming 0 l in omega arith

  pub quotient_few : length Q.states ≤ length A.states
  quotient_few = let a = quotient_long in let b = classes_few A names naming in omega arith

  -- what the edges with their new targets have, all edges have
  pub quotient_all : (P : Edge → Type 0) → ((s : ℕ) (e : Edge) → Has (state_at A s).edges e → P (retargeted_edge class_of e)) → All (λ s. All P s.edges) Q.states
  quotient_all P h = λ k d l. All-from_has P (slice_index_or Q.states k d).edges (λ f m.
      let w = class_edge keep_implied names A naming k f (subst (λ (t : State). Has t.edges f) (index_any Q.states k d no_state l) m) in
      subst P (sym w.1.2) (h w.0 w.1.0 w.1.1))

  pub quotient_rising : All (λ s. IsRising edge_cmp s.edges) Q.states
  quotient_rising = All-from_has (λ (s : State). IsRising edge_cmp s.edges) Q.states (λ s h.
      let w = map_cases class_at listed s h in
      subst (λ (t : State). IsRising edge_cmp t.edges) (sym w.2) (class_rising keep_implied class_of (state_at A w.0)))

  -- there are no more edges than before
  sum_classes : (cs : List ℕ) → sum_by (λ (s : State). length s.edges) (map class_at cs) ≤ sum_by (λ c. length (state_at A c).edges) cs
  sum_classes [] = omega arith
  sum_classes (c ∷ cs) =
      let a = sum_by-cons (λ (s : State). length s.edges) (class_at c) (map class_at cs) in
      let b = sum_by-cons (λ k. length (state_at A k).edges) c cs in
      let here = class_length keep_implied class_of (state_at A c) in
      let rest = sum_classes cs in
      omega arith

  pub quotient_few_edges : sum_by (λ s. length s.edges) Q.states ≤ sum_by (λ s. length s.edges) A.states
  quotient_few_edges =
      let whole : take (length Q.states) listed ≡ listed = take_whole (length Q.states) listed (let a = quotient_long in omega arith) in
      let all = sum_classes listed in
      let same = ap (sum_by (λ c. length (state_at A c).edges)) whole in
      few_all A listed Q.states (HasNoRepeats-rising listed (IsRising-set_of nat_linear names)) (All-from_has (λ k. k < length A.states) listed (classes_inside A names naming)) (omega arith)

  -- reached

  module _ (twice : (s : ℕ) → s < length A.states → slice_index names (slice_index names s) ≡ slice_index names s) (closed : IsClosed A) (sets : HasSetEdges A) where
    -- a class of a reached state is reached
    record IsOn (s : ℕ) : Type 0 where
      pub inside : s < length A.states
      pub reached : IsReached Q (class_of s)

    on : (s : ℕ) → IsReached A s → IsOn s
    on s start = record { inside = closed.begins; reached = subst (IsReached Q) (sym (number_start keep_implied names A naming closed.begins)) start }
    on s (along t e r h) =
        let p = on t r in
        let k = edge_on keep_implied names A naming sets t p.inside e h in
        record { inside = closed.inside t e h; reached = subst (IsReached Q) k.2.target (along (class_of t) k.0 p.reached k.1) }

    pub quotient_reached : ((s : ℕ) → s < length A.states → IsReached A s) → (q : ℕ) → q < length Q.states → IsReached Q q
    quotient_reached reached q l =
        let m : q < length listed = let a = quotient_long in omega arith in
        let c = slice_index listed q in
        let there : Has listed c = Has-at listed q 0 m in
        let inside = classes_inside A names naming c there in
        let own : slice_index names c ≡ c = named c there in
        let number : class_of c ≡ q = ap (λ n. place_of ◌==◌ n listed) own ∙ place_again ◌==◌ Decides-eqb listed q 0 (HasNoRepeats-rising listed (IsRising-set_of nat_linear names)) m in
        subst (IsReached Q) number (on c (reached c inside)).reached
      where
        name_from : (n : ℕ) (ns : List ℕ) (c : ℕ) → Has ns c → ((s : ℕ) → s < length ns → slice_index names (slice_index ns s) ≡ slice_index ns s) → slice_index names c ≡ c
        name_from n [] c h t = absurd h
        name_from n (x ∷ ns) c (inl e) t = ap (slice_index names) e ∙ t 0 (omega arith) ∙ sym e
        name_from n (x ∷ ns) c (inr h) t = name_from n ns c h (λ s l. t (suc s) (omega arith))

        named : (c : ℕ) → Has listed c → slice_index names c ≡ c
        named c h = name_from 0 names c (set_of_cases nat_linear names c h) (λ s l. twice s (let e = naming.long in omega arith))
