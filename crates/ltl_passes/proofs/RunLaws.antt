-- Edges that others imply, found by runs of one target.
use Rattle.std.proofs.Common.{◌≡◌, ℕ, zero, suc, ◌+◌, ◌<◌, ◌≤◌, ◌⊎◌, inl, inr, Bool, true, false, not, ◌&&◌, ◌||◌, cond, nat_eq, List, [], ◌∷◌, ◌++◌, map, length, take, drop, refl, sym, ◌∙◌, ap, subst, arith}
use Rattle.std.specs.Prelude.{◌==◌, slice_index, slice_index_or, slice_set, All}
use Rattle.std.specs.List.{list_any, filter, prefix_len}
use Rattle.std.specs.List.Sorted.{IsPermutation, IsNonDecreasingBy}
use Rattle.std.specs.Ordering.{nat_cmp}
use Rattle.std.proofs.lemmas.Bool.Decides.{same_from_decides}
use Rattle.std.proofs.lemmas.List.{append-nil, append_assoc, length-drop, length-map, get_or-map, map-append, take-append-drop, get_or-set_same, get_or-set_other}
use Rattle.std.proofs.lemmas.List.Elements.{All-push, filter-append}
use Rattle.std.proofs.lemmas.List.Sums.{prefix_len_is}
use Rattle.std.proofs.lemmas.List.Sorted.{Contains-permutation, IsPermutation-sym, IsNonDecreasingBy-drop, IsPermutation-map, length_permutation}
use Rattle.ltl_spec.specs.Collections.Sets.{Has, IsRising, has, is_subset, set_of}
use Rattle.ltl_spec.specs.Transitions.Cubes.{literal_cmp}
use Rattle.ltl_spec.specs.Automata.Automaton.{Edge, edge_cmp}
use Rattle.ltl_spec.specs.Construction.Merging.{implies_edge, same_edge, unimplied_edges}
use Rattle.ltl_spec.proofs.Collections.CaseLaws.{below_equal_above, false_is_true, left_true, nat_eq_is, nat_eq_other, nat_eq_same, right_true}
use Rattle.ltl_spec.proofs.Collections.FoundLaws.{map_equal, map_same}
use Rattle.ltl_spec.proofs.Collections.ListLaws.{All-at_has, All-from_has, Contains-from_has, Has-from_contains}
use Rattle.ltl_spec.proofs.Collections.MemberLaws.{Has-map, any_cases, any_true, filter_all, map_cases}
use Rattle.ltl_spec.proofs.Collections.Orders.{edge_linear, literal_linear, nat_linear}
use Rattle.ltl_spec.proofs.Collections.SetLaws.{Has-filter, Has-set_of, IsRising-filter, IsRising-set_of, append_cases, append_left, append_right, filter_cases, same_members, set_of_cases, set_of_same}
use Rattle.ltl_spec.proofs.Construction.ImpliedEdges.{implies_edge_Decides, implies_other}
use Rattle.ltl_spec.proofs.Construction.RoundLaws.{same_edge_Decides}
use Rattle.ltl_spec.proofs.Transitions.TransitionLaws.{subset_length}
use Rattle.ltl_spec.proofs.Transitions.UnimpliedLaws.{not_cases, not_from}
use Rattle.ltl_automaton.specs.EdgeView.{edge_of}
use Rattle.ltl_automaton.specs.declared.edge.Edge as plain
use Rattle.ltl_automaton.specs.EdgeOrder.{same_code, edge_Decides, edge_exact}
use Rattle.ltl_automaton.proofs.EdgeLaws.{map_pushed}
use Rattle.ltl_automaton.specs.CodedEdges.{HaveLabels, coded_edge_of, coded_linear_by_view, labelled_edge_of, tables_of}
use Rattle.ltl_automaton.specs.Labels.{AreTables, IsCoded, labelled_edge}
use Rattle.ltl_automaton.specs.declared.coded_edge.CodedEdge as coded
use Rattle.ltl_passes.specs.declared.implied.RunEdge as made
use Rattle.ltl_automaton.specs.declared.labels.Labels as slices
use Rattle.ltl_passes.specs.Runs.{AllLeadTo, IsByTarget, IsFirstLike, IsKept, IsOfWeight, IsWeighedLike, code_of, edge_at, is_below, is_lacked, is_left, is_other, left_of, run_edge, target_at, target_of}
use Rattle.ltl_passes.proofs.LabelLaws.{embedded_set, labelled_cmp, labelled_set}

-- ---- the calls

pub same_test : (e f : plain.Edge) → same_code e f ≡ same_edge (edge_of e) (edge_of f)
same_test e f =
    same_from_decides (same_code e f) (same_edge (edge_of e) (edge_of f)) (edge_Decides e f)
    ((λ t. edge_exact e f ((same_edge_Decides (edge_of e) (edge_of f)).0 t)), λ i. (same_edge_Decides (edge_of e) (edge_of f)).1 (ap edge_of i))

pub lacks_first : (k : made.RunEdge) (kind : ℕ) (of : List ℕ) → nat_eq kind 0 ≡ true → filter (λ e. not (has nat_cmp e k.edge.marks)) of ≡ filter (is_lacked k kind) of
lacks_first k kind of h = ap (λ b. filter (λ e. b && not (has nat_cmp e k.edge.marks)) of) (sym h)

none_lacked : (of : List ℕ) → [] ≡ filter (λ e. false) of
none_lacked [] = refl
none_lacked (e ∷ of) = none_lacked of

pub lacks_none : (k : made.RunEdge) (kind : ℕ) (of : List ℕ) → nat_eq kind 0 ≡ false → [] ≡ filter (is_lacked k kind) of
lacks_none k kind of h = none_lacked of ∙ ap (λ b. filter (λ e. b && not (has nat_cmp e k.edge.marks)) of) (sym h)

-- ---- one run

-- two that ask for as much don't imply each other
not_above : (w : ℕ) (f e : Edge) → IsOfWeight w f → IsOfWeight w e → implies_other f e ≡ true → ⊥
not_above w f e v u t =
    let c = (implies_edge_Decides f e).0 (right_true (not (same_edge f e)) _ t) in
    let cubes = subset_length literal_linear f.cube e.cube v.sets.cube u.sets.cube c.cube in
    let marks = subset_length nat_linear e.marks f.marks u.sets.marks v.sets.marks c.marks in
    let p = cubes.1 (omega (arith, cubes.0, marks.0, v.weight, u.weight, v.few, u.few)) in
    let m = marks.1 (omega (arith, cubes.0, marks.0, v.weight, u.weight, v.few, u.few)) in
    let equal : f ≡ e = λ i. let g : Edge = record { cube = p i; target = c.target i; marks = sym m i } in g in
    not_cases (same_edge f e) (left_true (not (same_edge f e)) _ t) ((same_edge_Decides f e).1 equal)

-- where no edge implies another one all stay
all_stay : (es : List Edge) → ((f e : Edge) → Has es f → Has es e → implies_other f e ≡ true → ⊥) → unimplied_edges es ≡ es
all_stay es none = filter_all (is_left es) es (λ e h. not_from _ (λ t. let (f, k, a) = any_cases (λ f. implies_other f e) es t in none f e k h a))

-- one edge alone stays
pub one_stays : (ks : List made.RunEdge) → length ks < 2 → ks ≡ left_of ks
one_stays [] l = refl
one_stays (k ∷ m ∷ ks) l = absurd (omega (arith, l))
one_stays (k ∷ []) l =
    let e = run_edge k in
    let same : same_edge e e ≡ true = (same_edge_Decides e e).1 refl in
    sym (ap (λ b. cond (not ((not b && implies_edge e e) || false)) (k ∷ []) []) same)

-- to one target, to be below is to imply
run_test : (t : ℕ) (k l : made.RunEdge) → target_of k ≡ t → target_of l ≡ t → (is_other k l && is_below k l) ≡ implies_other (run_edge k) (run_edge l)
run_test t k l e f =
    sym (ap (λ b. is_other k l && (b && is_subset literal_cmp k.edge.cube l.edge.cube && is_subset nat_cmp l.edge.marks k.edge.marks)) (nat_eq_same (target_of k) (target_of l) (e ∙ sym f)))

-- tests that agree on the items of a list and on their edges find alike
any_same : (p : made.RunEdge → Bool) (q : Edge → Bool) (ks : List made.RunEdge) → ((k : made.RunEdge) → Has ks k → p k ≡ q (run_edge k)) → list_any p ks ≡ list_any q (map run_edge ks)
any_same p q [] h = refl
any_same p q (k ∷ ks) h = λ i. h k (inl refl) i || any_same p q ks (λ l m. h l (inr m)) i

-- a test of the edges filters the items as it filters the edges
filter_view : (q : Edge → Bool) (ks : List made.RunEdge) → map run_edge (filter (λ k. q (run_edge k)) ks) ≡ filter q (map run_edge ks)
filter_view q [] = refl
filter_view q (k ∷ ks) = here (q (run_edge k)) (filter_view q ks)
  where
    here : (b : Bool) → map run_edge (filter (λ k. q (run_edge k)) ks) ≡ filter q (map run_edge ks)
        → map run_edge (cond b (k ∷ filter (λ k. q (run_edge k)) ks) (filter (λ k. q (run_edge k)) ks)) ≡ cond b (run_edge k ∷ filter q (map run_edge ks)) (filter q (map run_edge ks))
    here true e = ap (λ l. run_edge k ∷ l) e
    here false e = e

-- tests that agree on a list leave the same of it
filter_agree : {K : Type 0} (p q : K → Bool) (xs : List K) → ((x : K) → Has xs x → p x ≡ q x) → filter p xs ≡ filter q xs
filter_agree p q [] h = refl
filter_agree p q (x ∷ xs) h = λ i. cond (h x (inl refl) i) (x ∷ filter_agree p q xs (λ y m. h y (inr m)) i) (filter_agree p q xs (λ y m. h y (inr m)) i)

-- the least ones of a run are those that stay
pub least_stay : (t : ℕ) (ks left : List made.RunEdge) → AllLeadTo t ks → left ≡ filter (λ l. not (list_any (λ k. is_other k l && is_below k l) ks)) ks → left ≡ left_of ks
least_stay t ks left all e =
    e ∙ filter_agree (λ l. not (list_any (λ k. is_other k l && is_below k l) ks)) (λ k. is_left (map run_edge ks) (run_edge k)) ks (λ l h.
    ap not (any_same (λ k. is_other k l && is_below k l) (λ f. implies_other f (run_edge l)) ks (λ k m.
    run_test t k l (All-at_has (λ (x : made.RunEdge). target_of x ≡ t) ks all k m) (All-at_has (λ (x : made.RunEdge). target_of x ≡ t) ks all l h))))

-- ---- all runs

-- what a list has stands at a place
place_in : (ks : List made.RunEdge) (k d : made.RunEdge) → Has ks k → (j : ℕ) × (j < length ks) × (slice_index_or ks j d ≡ k)
place_in [] k d h = absurd h
place_in (x ∷ ks) k d (inl e) = (0, omega arith, sym e)
place_in (x ∷ ks) k d (inr h) = let w = place_in ks k d h in let l = w.1 in (suc w.0, omega (arith, l), w.2)

first_least : (x : made.RunEdge) (ks : List made.RunEdge) → IsNonDecreasingBy target_of (x ∷ ks) → (k : made.RunEdge) → Has (x ∷ ks) k → target_of x ≤ target_of k
first_least x ks sorted k h =
    let w = place_in (x ∷ ks) k x h in
    let l = sorted 0 w.0 x (omega arith) w.1 in
    subst (λ (y : made.RunEdge). target_of x ≤ target_of y) w.2 l

module _ (t : ℕ) where
  abbrev pub leads : made.RunEdge → Bool
  leads k = target_of k == t

  -- those of the run lead to its target
  run_leads : (ks : List made.RunEdge) (k : made.RunEdge) → Has (take (prefix_len leads ks) ks) k → target_of k ≡ t
  run_leads [] k h = absurd h
  run_leads (x ∷ ks) k h = at (λ m. run_leads ks k m) (leads x) refl h
    where
      front : (Has (take (prefix_len leads ks) ks) k → target_of k ≡ t) → leads x ≡ true → Has (x ∷ take (prefix_len leads ks) ks) k → target_of k ≡ t
      front rest e (inl q) = ap target_of q ∙ nat_eq_is (target_of x) t e
      front rest e (inr m) = rest m

      at : (Has (take (prefix_len leads ks) ks) k → target_of k ≡ t) → (b : Bool) → leads x ≡ b → Has (take (cond b (1 + prefix_len leads ks) 0) (x ∷ ks)) k → target_of k ≡ t
      at rest true e m = let z : 1 + prefix_len leads ks ≡ suc (prefix_len leads ks) = omega arith in front rest e (subst (λ n. Has (take n (x ∷ ks)) k) z m)
      at rest false e m = absurd m

  -- those behind it lead further
  behind_leads : (ks : List made.RunEdge) → ((k : made.RunEdge) → Has ks k → t ≤ target_of k) → IsNonDecreasingBy target_of ks → (k : made.RunEdge) → Has (drop (prefix_len leads ks) ks) k → t < target_of k
  behind_leads [] least sorted k h = absurd h
  behind_leads (x ∷ ks) least sorted k h = at (λ m. behind_leads ks (λ l n. least l (inr n)) (IsNonDecreasingBy-drop target_of 1 (x ∷ ks) sorted) k m) (leads x) refl h
    where
      above : t < target_of x → Has (x ∷ ks) k → t < target_of k
      above l m = let n = first_least x ks sorted k m in omega arith

      first : leads x ≡ false → t < target_of x
      first e = elim (below_equal_above t (target_of x)) [
        | inl l ↦ l
        | inr r ↦ elim r [
          | inl q ↦ false_is_true (sym e ∙ nat_eq_same (target_of x) t (sym q))
          | inr l ↦ let m = least x (inl refl) in absurd (omega arith)
        ]
      ]

      at : (Has (drop (prefix_len leads ks) ks) k → t < target_of k) → (b : Bool) → leads x ≡ b → Has (drop (cond b (1 + prefix_len leads ks) 0) (x ∷ ks)) k → t < target_of k
      at rest true e m = let z : 1 + prefix_len leads ks ≡ suc (prefix_len leads ks) = omega arith in rest (subst (λ n. Has (drop n (x ∷ ks)) k) z m)
      at rest false e m = above (first e) m

module _ {K : Type 0} where
  filter_short : (p : K → Bool) (xs : List K) → length (filter p xs) ≤ length xs
  filter_short p [] = omega arith
  filter_short p (x ∷ xs) = at (p x) (filter_short p xs)
    where
      at : (b : Bool) → length (filter p xs) ≤ length xs → length (cond b (x ∷ filter p xs) (filter p xs)) ≤ suc (length xs)
      at true l = omega (arith, l)
      at false l = omega (arith, l)

  -- a test that leaves a list as long as it was holds of all
  whole_filter : (p : K → Bool) (xs : List K) → length xs ≤ length (filter p xs) → (x : K) → Has xs x → p x ≡ true
  whole_filter p [] l x h = absurd h
  whole_filter p (y ∷ ys) l x h = at (λ m k. whole_filter p ys m x k) (p y) refl l h
    where
      at : (length ys ≤ length (filter p ys) → Has ys x → p x ≡ true) → (b : Bool) → p y ≡ b → suc (length ys) ≤ length (cond b (y ∷ filter p ys) (filter p ys)) → Has (y ∷ ys) x → p x ≡ true
      at rest true e m (inl q) = ap p q ∙ e
      at rest true e m (inr k) = rest (omega (arith, m)) k
      at rest false e m k = let n = filter_short p ys in absurd (omega (arith, m, n))

-- the codes of the edges of a list that stay among all
abbrev codes_left : List Edge → List made.RunEdge → List coded.CodedEdge
codes_left es ks = map code_of (filter (λ k. is_left es (run_edge k)) ks)

-- the runs before the rest are done: what is kept are those of their edges that stay
pub record IsDone (es : List Edge) (order rest : List made.RunEdge) (left : List coded.CodedEdge) : Type 0 where
  pub done : List made.RunEdge
  pub whole : done ++ rest ≡ order
  pub below : (k l : made.RunEdge) → Has done k → Has rest l → target_of k < target_of l
  pub sorted : IsNonDecreasingBy target_of rest
  pub kept : left ≡ codes_left es done

pub none_done : (es : List Edge) (order rest : List made.RunEdge) → IsNonDecreasingBy target_of order → rest ≡ order → IsDone es order rest []
none_done es order rest sorted e = record {
  done = [];
  whole = e;
  below = λ k l h m. absurd h;
  sorted = subst (IsNonDecreasingBy target_of) (sym e) sorted;
  kept = refl;
}

same_bool : (a b : Bool) → (a ≡ true → b ≡ true) → (b ≡ true → a ≡ true) → a ≡ b
same_bool true b f g = sym (f refl)
same_bool false true f g = g refl
same_bool false false f g = refl

-- what the list has and its permutation
module _ (es : List Edge) (order : List made.RunEdge) (moved : IsPermutation es (map run_edge order)) where
  there : (e : Edge) → Has es e → Has (map run_edge order) e
  there e h = Has-from_contains (map run_edge order) e (Contains-permutation es (map run_edge order) e moved (Contains-from_has es e h))

  back : (e : Edge) → Has (map run_edge order) e → Has es e
  back e h = Has-from_contains es e (Contains-permutation (map run_edge order) es e (IsPermutation-sym es (map run_edge order) moved) (Contains-from_has (map run_edge order) e h))

  module _ (rest : List made.RunEdge) (kept : List coded.CodedEdge) (d : IsDone es order rest kept) (t : ℕ) (run others : List made.RunEdge) (leads_on : (k : made.RunEdge) → Has rest k → t ≤ target_of k)
      (front : run ≡ take (prefix_len (leads t) rest) rest) (behind : others ≡ drop (prefix_len (leads t) rest) rest) where
    whole : run ++ others ≡ rest
    whole = (λ i. front i ++ behind i) ∙ take-append-drop (prefix_len (leads t) rest) rest

    leads_to : (k : made.RunEdge) → Has run k → target_of k ≡ t
    leads_to k h = run_leads t rest k (subst (λ ks. Has ks k) front h)

    leads_past : (k : made.RunEdge) → Has others k → t < target_of k
    leads_past k h = behind_leads t rest leads_on d.sorted k (subst (λ ks. Has ks k) behind h)

    in_rest : (k : made.RunEdge) → Has others k → Has rest k
    in_rest k h = subst (λ ks. Has ks k) whole (append_right run others k h)

    run_in_rest : (k : made.RunEdge) → Has run k → Has rest k
    run_in_rest k h = subst (λ ks. Has ks k) whole (append_left run others k h)

    -- what implies an edge of the run is of the run
    in_run : (k : made.RunEdge) → Has run k → (f : Edge) → Has es f → implies_other f (run_edge k) ≡ true → Has (map run_edge run) f
    in_run k h f m q =
        let (x, i, c) = map_cases run_edge order f (there f m) in
        let covers = (implies_edge_Decides f (run_edge k)).0 (right_true (not (same_edge f (run_edge k))) _ q) in
        let target : target_of x ≡ t = sym (ap (λ (e : Edge). e.target) c) ∙ covers.target ∙ leads_to k h in
        subst (Has (map run_edge run)) (sym c) (Has-map run_edge run x (cases x target (append_cases d.done rest x (subst (λ ks. Has ks x) (sym d.whole) i))))
      where
        last : (x : made.RunEdge) → target_of x ≡ t → Has run x ⊎ Has others x → Has run x
        last x e (inl m) = m
        last x e (inr m) = let l = leads_past x m in absurd (omega (arith, l, e))

        cases : (x : made.RunEdge) → target_of x ≡ t → Has d.done x ⊎ Has rest x → Has run x
        cases x e (inl m) = let l = d.below x k m (run_in_rest k h) in let s = leads_to k h in absurd (omega (arith, l, e, s))
        cases x e (inr m) = last x e (append_cases run others x (subst (λ ks. Has ks x) (sym whole) m))

    of_run : (f : Edge) → Has (map run_edge run) f → Has es f
    of_run f h =
        let (x, i, c) = map_cases run_edge run f h in
        back f (subst (Has (map run_edge order)) (sym c) (Has-map run_edge order x (subst (λ ks. Has ks x) d.whole (append_right d.done rest x (run_in_rest x i)))))

    -- so those that stay of the run are those that stay of all
    stay_alike : (k : made.RunEdge) → Has run k → is_left (map run_edge run) (run_edge k) ≡ is_left es (run_edge k)
    stay_alike k h =
        let q : Edge → Bool = λ f. implies_other f (run_edge k) in
        ap not (same_bool (list_any q (map run_edge run)) (list_any q es)
        (λ a. let (f, i, s) = any_cases q (map run_edge run) a in any_true q es f (of_run f i) s)
        (λ a. let (f, i, s) = any_cases q es a in any_true q (map run_edge run) f (in_run k h f i s) s))

    run_stays : left_of run ≡ filter (λ k. is_left es (run_edge k)) run
    run_stays = filter_agree (λ k. is_left (map run_edge run) (run_edge k)) (λ k. is_left es (run_edge k)) run stay_alike

    pub run_done : (more : List coded.CodedEdge) → more ≡ kept ++ map code_of (left_of run) → IsDone es order others more
    run_done more e =
        let p : made.RunEdge → Bool = λ k. is_left es (run_edge k) in
        record {
          done = d.done ++ run;
          whole = append_assoc d.done run others ∙ ap (λ ks. d.done ++ ks) whole ∙ d.whole;
          below = λ k l h m. passed k l m (append_cases d.done run k h);
          sorted = subst (IsNonDecreasingBy target_of) (sym behind) (IsNonDecreasingBy-drop target_of (prefix_len (leads t) rest) rest d.sorted);
          kept = e ∙ (λ i. d.kept i ++ map code_of (run_stays i)) ∙ sym (map-append code_of (filter p d.done) (filter p run)) ∙ ap (map code_of) (sym (filter-append p d.done run));
        }
      where
        passed : (k l : made.RunEdge) → Has others l → Has d.done k ⊎ Has run k → target_of k < target_of l
        passed k l m (inl h) = d.below k l h (in_rest l m)
        passed k l m (inr h) = let a = leads_past l m in let b = leads_to k h in omega (arith, a, b)

  -- when nothing is left, those that stay are kept
  pub all_done : (rest : List made.RunEdge) (kept : List coded.CodedEdge) → IsDone es order rest kept → rest ≡ [] → kept ≡ codes_left es order
  all_done rest kept d e = d.kept ∙ ap (codes_left es) (sym (append-nil d.done) ∙ ap (λ ks. d.done ++ ks) (sym e) ∙ d.whole)

  -- and sorted they are those of the list
  pub sorted_stay : IsRising edge_cmp es → set_of edge_cmp (filter (is_left es) (map run_edge order)) ≡ unimplied_edges es
  sorted_stay rising =
      same_members edge_linear (set_of edge_cmp (filter (is_left es) (map run_edge order))) (unimplied_edges es) (IsRising-set_of edge_linear (filter (is_left es) (map run_edge order))) (IsRising-filter edge_cmp (is_left es) es rising)
      (λ e h. let (i, s) = filter_cases (is_left es) (map run_edge order) e (set_of_cases edge_linear (filter (is_left es) (map run_edge order)) e h) in Has-filter (is_left es) es e (back e i) s)
      (λ e h. let (i, s) = filter_cases (is_left es) es e h in Has-set_of edge_linear (filter (is_left es) (map run_edge order)) e (Has-filter (is_left es) (map run_edge order) e (there e i) s))

  -- where as many are kept as there are, all stay
  pub none_goes : (kept : List Edge) → kept ≡ filter (is_left es) (map run_edge order) → length kept ≡ length es → unimplied_edges es ≡ es
  none_goes kept e n = filter_all (is_left es) es (λ x h. whole_filter (is_left es) (map run_edge order) long x (there x h))
    where
      long : length (map run_edge order) ≤ length (filter (is_left es) (map run_edge order))
      long =
          let a = ap length e in
          let c = length_permutation es (map run_edge order) moved in
          omega (arith, a, c, n)

module _ (l : slices.Labels) where
  -- items with their labels are seen as the edges with their labels
  labels_seen : (ks : List made.RunEdge) → ((k : made.RunEdge) → Has ks k → run_edge k ≡ labelled_edge_of l (code_of k)) → map (labelled_edge_of l) (map code_of ks) ≡ map run_edge ks
  labels_seen ks h = map_same code_of (labelled_edge_of l) ks ∙ map_equal (λ k. labelled_edge_of l (code_of k)) run_edge ks (λ k m. sym (h k m))

  module _ (es : List coded.CodedEdge) (order : List made.RunEdge) (w : IsByTarget l es order) where
    order_labels : (k : made.RunEdge) → Has order k → run_edge k ≡ labelled_edge_of l (code_of k)
    order_labels k h = All-at_has (λ (x : made.RunEdge). run_edge x ≡ labelled_edge_of l (code_of x)) order w.labelled k h

    -- so the edges in order are those of the list
    pub seen_moved : IsPermutation (map (labelled_edge_of l) es) (map run_edge order)
    seen_moved = subst (IsPermutation (map (labelled_edge_of l) es)) (labels_seen order order_labels) (IsPermutation-map (labelled_edge_of l) es (map code_of order) w.moved)

    -- what is kept, with labels
    kept_seen : (q : Edge → Bool) → map (labelled_edge_of l) (map code_of (filter (λ k. q (run_edge k)) order)) ≡ filter q (map run_edge order)
    kept_seen q =
        labels_seen (filter (λ k. q (run_edge k)) order) (λ k h. let (i, s) = filter_cases (λ k. q (run_edge k)) order k h in order_labels k i)
        ∙ filter_view q order

    -- what is kept is of the list
    kept_within : (p : made.RunEdge → Bool) (e : coded.CodedEdge) → Has (map code_of (filter p order)) e → Has es e
    kept_within p e h =
        let (k, i, c) = map_cases code_of (filter p order) e h in
        let (j, s) = filter_cases p order k i in
        let m = subst (Has (map code_of order)) (sym c) (Has-map code_of order k j) in
        Has-from_contains es e (Contains-permutation (map code_of order) es e (IsPermutation-sym es (map code_of order) w.moved) (Contains-from_has (map code_of order) e m))

-- the same, whatever the order
pub record AreDone (l : slices.Labels) (es : List coded.CodedEdge) (rest : List made.RunEdge) (left : List coded.CodedEdge) : Type 0 where
  pub order : List made.RunEdge
  pub by_target : IsByTarget l es order
  pub done : IsDone (map (labelled_edge_of l) es) order rest left

-- the first run
pub first_run : (l : slices.Labels) (es : List coded.CodedEdge) (rest : List made.RunEdge) → IsByTarget l es rest → AreDone l es rest []
first_run l es rest w = record { order = rest; by_target = w; done = none_done (map (labelled_edge_of l) es) rest rest w.sorted refl }

-- what begins the rest leads no further than the rest
module _ (l : slices.Labels) (es : List coded.CodedEdge) (rest : List made.RunEdge) (kept : List coded.CodedEdge) (w : AreDone l es rest kept) (first : made.RunEdge) (tail run others : List made.RunEdge) (begins : rest ≡ first ∷ tail)
    (front : run ≡ take (prefix_len (leads (target_of first)) rest) rest) (behind : others ≡ drop (prefix_len (leads (target_of first)) rest) rest) where
  leads_on : (k : made.RunEdge) → Has rest k → target_of first ≤ target_of k
  leads_on k h = first_least first tail (subst (IsNonDecreasingBy target_of) begins w.done.sorted) k (subst (λ ks. Has ks k) begins h)

  -- its run has one target
  pub run_target : AllLeadTo (target_of first) run
  run_target = All-from_has (λ (k : made.RunEdge). target_of k ≡ target_of first) run (λ k h. run_leads (target_of first) rest k (subst (λ ks. Has ks k) front h))

  -- one more run
  pub next_run : (more : List coded.CodedEdge) → more ≡ kept ++ map code_of (left_of run) → AreDone l es others more
  next_run more e = record {
    order = w.order;
    by_target = w.by_target;
    done = run_done (map (labelled_edge_of l) es) w.order (seen_moved l es w.order w.by_target) rest kept w.done (target_of first) run others leads_on front behind more e;
  }

  -- and the rest is shorter
  pub rest_falls : length others < length rest
  rest_falls =
      let long = length-drop (prefix_len (leads (target_of first)) rest) rest in
      let some : 0 < prefix_len (leads (target_of first)) rest =
      subst (λ n. 0 < n) (sym (ap (prefix_len (leads (target_of first))) begins ∙ ap (λ b. cond b (1 + prefix_len (leads (target_of first)) tail) 0) (nat_eq_same (target_of first) (target_of first) refl))) (omega arith) in
      let there : 0 < length rest = subst (λ ks. 0 < length ks) (sym begins) (omega arith) in
      let e = ap length behind in
      omega (arith, long, some, there, e)

-- the set of edges with labels is that of the edges with numbers
labelled_codes : (l : slices.Labels) → AreTables (tables_of l) → (es : List coded.CodedEdge) → HaveLabels l es
    → set_of edge_cmp (map (labelled_edge_of l) es) ≡ map (labelled_edge_of l) (set_of (λ e f. edge_cmp (coded_edge_of e) (coded_edge_of f)) es)
labelled_codes l a es c =
    let D : coded.CodedEdge → Type 0 = λ e. IsCoded (tables_of l) (coded_edge_of e) in
    embedded_set edge_cmp (λ e f. edge_cmp (coded_edge_of e) (coded_edge_of f)) (labelled_edge_of l) D (λ e f d g. labelled_cmp (tables_of l) a (coded_edge_of e) (coded_edge_of f) d g) es (All-at_has D es c)

-- edges whose numbers rise do so with their labels
labelled_rising : (l : slices.Labels) → AreTables (tables_of l) → (es : List coded.CodedEdge) → HaveLabels l es → IsRising edge_cmp (map coded_edge_of es) → IsRising edge_cmp (map (labelled_edge_of l) es)
labelled_rising l a es c rising =
    let t = tables_of l in
    let all = All-from_has (IsCoded t) (map coded_edge_of es) (λ e h. let (f, i, q) = map_cases coded_edge_of es e h in subst (IsCoded t) (sym q) (All-at_has (λ (x : coded.CodedEdge). IsCoded t (coded_edge_of x)) es c f i)) in
    let seen = map_same coded_edge_of (labelled_edge t) es in
    let own = sym (ap (set_of edge_cmp) seen) ∙ sym (labelled_set t a (map coded_edge_of es) all) ∙ ap (map (labelled_edge t)) (set_of_same edge_linear (map coded_edge_of es) rising) ∙ seen in
    subst (IsRising edge_cmp) own (IsRising-set_of edge_linear (map (labelled_edge_of l) es))

-- the last run
pub last_run : (l : slices.Labels) (es : List coded.CodedEdge) (rest : List made.RunEdge) (kept : List coded.CodedEdge) → AreDone l es rest kept → rest ≡ [] → IsKept l es kept
last_run l es rest kept w e = record {
  order = w.order;
  by_target = w.by_target;
  kept = all_done (map (labelled_edge_of l) es) w.order (seen_moved l es w.order w.by_target) rest kept w.done e;
}

module _ (l : slices.Labels) (es kept : List coded.CodedEdge) (w : IsKept l es kept) where
  abbrev seen : List Edge
  seen = map (labelled_edge_of l) es

  left_seen : map (labelled_edge_of l) kept ≡ filter (is_left seen) (map run_edge w.order)
  left_seen = ap (map (labelled_edge_of l)) w.kept ∙ kept_seen l es w.order w.by_target (is_left seen)

  -- as many as there are
  pub all_kept : length kept ≡ length es → unimplied_edges seen ≡ seen
  all_kept n =
      none_goes seen w.order (seen_moved l es w.order w.by_target) (map (labelled_edge_of l) kept) left_seen (length-map kept (labelled_edge_of l) ∙ n ∙ sym (length-map es (labelled_edge_of l)))

  -- what is kept has labels if the list has
  pub kept_labels : HaveLabels l es → HaveLabels l kept
  kept_labels c =
      let D : coded.CodedEdge → Type 0 = λ e. IsCoded (tables_of l) (coded_edge_of e) in
      All-from_has D kept (λ e h. All-at_has D es c e (kept_within l es w.order w.by_target (λ k. is_left seen (run_edge k)) e (subst (λ fs. Has fs e) w.kept h)))

  -- what is kept, sorted
  pub sorted_kept : AreTables (tables_of l) → HaveLabels l es → IsRising edge_cmp (map coded_edge_of es) → (sorted : List coded.CodedEdge) → sorted ≡ set_of (λ e f. edge_cmp (coded_edge_of e) (coded_edge_of f)) kept
      → map (labelled_edge_of l) sorted ≡ unimplied_edges seen
  sorted_kept a c rising sorted e =
      ap (map (labelled_edge_of l)) e ∙ sym (labelled_codes l a kept (kept_labels c)) ∙ ap (set_of edge_cmp) left_seen
      ∙ sorted_stay seen w.order (seen_moved l es w.order w.by_target) (labelled_rising l a es c rising)

  -- and has labels too
  pub sorted_labels : HaveLabels l es → (sorted : List coded.CodedEdge) → sorted ≡ set_of (λ e f. edge_cmp (coded_edge_of e) (coded_edge_of f)) kept → HaveLabels l sorted
  sorted_labels c sorted e =
      let D : coded.CodedEdge → Type 0 = λ f. IsCoded (tables_of l) (coded_edge_of f) in
      All-from_has D sorted (λ f h. All-at_has D kept (kept_labels c) f (set_of_cases coded_linear_by_view kept f (subst (λ fs. Has fs f) e h)))

-- ---- lists in which edges with one target ask for as much

-- the edge at each of the first n places asks for as much as the one that is noted for its target
pub record IsNotedLike (labels : slices.Labels) (es : List coded.CodedEdge) (noted : List ℕ) (k : ℕ) : Type 0 where
  pub low : slice_index noted (target_at es k) ≤ k
  pub same : target_at es (slice_index noted (target_at es k)) ≡ target_at es k
  pub weight : IsWeighedLike labels es (slice_index noted (target_at es k)) k

abbrev pub AreNoted : slices.Labels → List coded.CodedEdge → List ℕ → ℕ → Type 0
AreNoted labels es noted n = (k : ℕ) → k < n → IsNotedLike labels es noted k

-- one more
pub noted_next : (labels : slices.Labels) (es : List coded.CodedEdge) (noted : List ℕ) (n f : ℕ) → AreNoted labels es noted n → target_at es n < length noted → IsFirstLike es n (slice_index noted (target_at es n)) f → IsWeighedLike labels es f n
    → AreNoted labels es (slice_set noted (target_at es n) f) (n + 1)
noted_next labels es noted n f before inside like weighed k l = elim (below_equal_above k n) [
  | inl b ↦ old b
  | inr r ↦ elim r [ inl q ↦ subst (IsNotedLike labels es more) (sym q) last | inr b ↦ absurd (omega (arith, l, b)) ]
]
  where
    t : ℕ
    t = target_at es n

    more : List ℕ
    more = slice_set noted t f

    here : slice_index more t ≡ f
    here = get_or-set_same noted t f 0 inside

    last : IsNotedLike labels es more n
    last = record {
      low = let m = like.low in subst (λ p. p ≤ n) (sym here) m;
      same = ap (target_at es) here ∙ like.same;
      weight = subst (λ p. IsWeighedLike labels es p n) (sym here) weighed;
    }

    kept : (b : k < n) → slice_index more (target_at es k) ≡ slice_index noted (target_at es k) → IsNotedLike labels es more k
    kept b e =
        let u = before k b in
        record {
          low = subst (λ p. p ≤ k) (sym e) u.low;
          same = ap (target_at es) e ∙ u.same;
          weight = subst (λ p. IsWeighedLike labels es p k) (sym e) u.weight;
        }

    old : k < n → IsNotedLike labels es more k
    old b = elim (below_equal_above (target_at es k) t) [
      | inl c ↦ kept b (get_or-set_other noted t (target_at es k) f 0 (λ q. omega (arith, q, c)))
      | inr r ↦ elim r [
        | inl q ↦
            let u = before k b in
            let m = u.low in
            let z : slice_index noted (target_at es k) ≡ slice_index noted t = ap (slice_index noted) q in
            let e : f ≡ slice_index noted t = like.stays (omega (arith, m, b, z)) (sym (ap (target_at es) z) ∙ u.same ∙ q) in
            kept b (ap (slice_index more) q ∙ here ∙ e ∙ sym z)
        | inr c ↦ kept b (get_or-set_other noted t (target_at es k) f 0 (λ q. omega (arith, q, c)))
      ]
    ]

-- two that are weighed like a third don't imply each other
weighed_stay : (labels : slices.Labels) (es : List coded.CodedEdge) (q p r : ℕ) → IsWeighedLike labels es q p → IsWeighedLike labels es q r → implies_other (labelled_edge_of labels (edge_at es p)) (labelled_edge_of labels (edge_at es r)) ≡ true → ⊥
weighed_stay labels es q p r (inl a) (inl b) t =
    not_cases (same_edge (labelled_edge_of labels (edge_at es p)) (labelled_edge_of labels (edge_at es r))) (left_true (not (same_edge (labelled_edge_of labels (edge_at es p)) (labelled_edge_of labels (edge_at es r)))) _ t)
    ((same_edge_Decides (labelled_edge_of labels (edge_at es p)) (labelled_edge_of labels (edge_at es r))).1 (ap (λ n. labelled_edge_of labels (edge_at es n)) (sym a ∙ b)))
weighed_stay labels es q p r (inl a) (inr (w, u, v)) t = not_above w (labelled_edge_of labels (edge_at es p)) (labelled_edge_of labels (edge_at es r)) (subst (λ n. IsOfWeight w (labelled_edge_of labels (edge_at es n))) a u) v t
weighed_stay labels es q p r (inr (w, u, v)) (inl b) t = not_above w (labelled_edge_of labels (edge_at es p)) (labelled_edge_of labels (edge_at es r)) v (subst (λ n. IsOfWeight w (labelled_edge_of labels (edge_at es n))) b u) t
weighed_stay labels es q p r (inr (w, u, v)) (inr (x, y, z)) t =
    let one : x ≡ w = y.weight ∙ sym u.weight in
    not_above w (labelled_edge_of labels (edge_at es p)) (labelled_edge_of labels (edge_at es r)) v (subst (λ n. IsOfWeight n (labelled_edge_of labels (edge_at es r))) one z) t

-- an edge of the list stands at a place
edge_in : (es : List coded.CodedEdge) (g : coded.CodedEdge) → Has es g → (j : ℕ) × (j < length es) × (edge_at es j ≡ g)
edge_in [] g h = absurd h
edge_in (x ∷ xs) g (inl e) = (0, omega arith, sym e)
edge_in (x ∷ xs) g (inr h) = let w = edge_in xs g h in let l = w.1 in (suc w.0, omega (arith, l), w.2)

pub noted_stay : (labels : slices.Labels) (es : List coded.CodedEdge) (noted : List ℕ) → AreNoted labels es noted (length es) → unimplied_edges (map (labelled_edge_of labels) es) ≡ map (labelled_edge_of labels) es
noted_stay labels es noted all = all_stay (map (labelled_edge_of labels) es) (λ f e h k t.
    let (x, i, c) = map_cases (labelled_edge_of labels) es f h in
    let (y, j, d) = map_cases (labelled_edge_of labels) es e k in
    let (p, l, q) = edge_in es x i in
    let (r, m, s) = edge_in es y j in
    let at : f ≡ labelled_edge_of labels (edge_at es p) = c ∙ ap (labelled_edge_of labels) (sym q) in
    let here : e ≡ labelled_edge_of labels (edge_at es r) = d ∙ ap (labelled_edge_of labels) (sym s) in
    let covers = (implies_edge_Decides f e).0 (right_true (not (same_edge f e)) _ t) in
    let target : target_at es p ≡ target_at es r = sym (ap (λ (z : Edge). z.target) at) ∙ covers.target ∙ ap (λ (z : Edge). z.target) here in
    weighed_stay labels es (slice_index noted (target_at es p)) p r (all p l).weight (subst (λ n. IsWeighedLike labels es (slice_index noted n) r) (sym target) (all r m).weight)
    (ap (λ z. implies_other z (labelled_edge_of labels (edge_at es r))) (sym at) ∙ ap (implies_other f) (sym here) ∙ t))

-- ---- the steps of the code

-- one more item: its code
pub ordered_next : (order more : List made.RunEdge) (taken more_taken : List coded.CodedEdge) (k : made.RunEdge) (e : coded.CodedEdge) → map code_of order ≡ taken → code_of k ≡ e → more ≡ order ++ k ∷ []
    → more_taken ≡ taken ++ e ∷ [] → map code_of more ≡ more_taken
ordered_next order more taken more_taken k e w c m t = map_pushed code_of order more k m ∙ (λ i. w i ++ c i ∷ []) ∙ sym t

-- one more item: its labels
pub labelled_next : (l : slices.Labels) (order more : List made.RunEdge) (k : made.RunEdge) → All (λ k. run_edge k ≡ labelled_edge_of l (code_of k)) order → run_edge k ≡ labelled_edge_of l (code_of k)
    → more ≡ order ++ k ∷ [] → All (λ k. run_edge k ≡ labelled_edge_of l (code_of k)) more
labelled_next l order more k all e m =
    let P : made.RunEdge → Type 0 = λ k. run_edge k ≡ labelled_edge_of l (code_of k) in
    subst (All P) (sym m) (All-push P order k all e)

-- the edges in another order, each with its labels
pub ordered : (l : slices.Labels) (es sorted : List coded.CodedEdge) (order : List made.RunEdge) → IsPermutation es sorted → IsNonDecreasingBy (λ (e : coded.CodedEdge). e.target) sorted → map code_of order ≡ sorted
    → All (λ k. run_edge k ≡ labelled_edge_of l (code_of k)) order → IsByTarget l es order
ordered l es sorted order p s w all = record {
  moved = subst (IsPermutation es) (sym w) p;
  labelled = all;
  sorted = λ i j d low high.
      let long : length sorted ≡ length order = ap length (sym w) ∙ length-map order code_of in
      let at : (k : ℕ) → k < length order → target_of (slice_index_or order k d) ≡ (slice_index_or sorted k (code_of d)).target = λ k m.
      ap (λ (e : Edge). e.target) (all k d m) ∙ ap (λ (e : coded.CodedEdge). e.target) (sym (get_or-map code_of order k d (code_of d) m) ∙ ap (λ cs. slice_index_or cs k (code_of d)) w) in
      let a = at i (omega arith) in
      let b = at j high in
      let c = s i j (code_of d) low (omega arith) in
      omega (arith, a, b, c);
}

-- one more code that is kept
pub put_next : (old kept more : List coded.CodedEdge) (taken more_taken : List made.RunEdge) (k : made.RunEdge) → kept ≡ old ++ map code_of taken → more ≡ kept ++ code_of k ∷ [] → more_taken ≡ taken ++ k ∷ []
    → more ≡ old ++ map code_of more_taken
put_next old kept more taken more_taken k w m t =
    m ∙ ap (λ l. l ++ code_of k ∷ []) w ∙ append_assoc old (map code_of taken) (code_of k ∷ []) ∙ ap (λ l. old ++ l) (sym (map_pushed code_of taken more_taken k t))

pub run_is_len : (t : ℕ) (order : List made.RunEdge) (n : ℕ) → n ≤ length order → ((k : ℕ) (d : made.RunEdge) → k < n → (target_of (slice_index_or order k d) == t) ≡ true) → (n < length order → (d : made.RunEdge) → (target_of (slice_index_or order n d) == t) ≡ false)
    → n ≡ prefix_len (λ k. target_of k == t) order
run_is_len t order n l same stops =
    let none : made.RunEdge = record { edge = record { cube = []; target = 0; marks = [] }; coded = record { cube = 0; marks = 0; target = 0 } } in
    sym (prefix_len_is (λ (k : made.RunEdge). target_of k == t) order n none l (λ k m. same k none m) (λ m. stops m none))

-- the edge that was looked at leads elsewhere
pub other_target : (t : ℕ) (order : List made.RunEdge) (n : ℕ) (x : made.RunEdge) → n < length order → ¬ (target_of (slice_index_or order n x) ≡ t) → (d : made.RunEdge) → (target_of (slice_index_or order n d) == t) ≡ false
other_target t order n x l other d = nat_eq_other (target_of (slice_index_or order n d)) t (λ q. other (ap target_of (any order n x d l) ∙ q))
  where
    any : (ks : List made.RunEdge) (k : ℕ) (c d : made.RunEdge) → k < length ks → slice_index_or ks k c ≡ slice_index_or ks k d
    any [] k c d m = absurd (omega arith)
    any (y ∷ ks) zero c d m = refl
    any (y ∷ ks) (suc k) c d m = any ks k c d (omega arith)
