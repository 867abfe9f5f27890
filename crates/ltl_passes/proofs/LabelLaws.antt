-- Edges with numbers of labels compare as the edges with the labels do, so that sets and classes of the ones are those of the others.
use Rattle.std.proofs.Common.{◌≡◌, ℕ, zero, suc, ◌<◌, ◌&&◌, cond, inl, inr, not, ◌+◌, List, [], ◌∷◌, length, map, refl, sym, ◌∙◌, ap, subst, arith}
use Rattle.std.specs.Prelude.{slice_index, slice_index_or, All}
use Rattle.std.specs.declared.cmp.Ordering.{Ordering}
use Rattle.std.specs.declared.cmp.Ordering.TheVariants.{Less, Equal, Greater}
use Rattle.std.specs.Ordering.{nat_cmp, ordering_then, ordering_reverse, is_eq}
use Rattle.std.specs.Cmp.Lexicographic.{pointwise}
use Rattle.std.specs.List.{range_with_len}
use Rattle.std.specs.Bool.{beq}
use Rattle.std.proofs.lemmas.Cmp.{tied_itself}
use Rattle.ltl_spec.specs.Collections.Sets.{Has, IsRising, IsLinearOrder, by_order, put, set_of}
use Rattle.ltl_spec.specs.Collections.Lists.{place_of}
use Rattle.ltl_spec.specs.Transitions.Cubes.{cube_cmp}
use Rattle.ltl_spec.specs.Automata.Automaton.{Automaton, Edge, State, edge_cmp}
use Rattle.ltl_spec.specs.Construction.Merging.{same_edge, same_state, retargeted_edge, retargeted_state, class_names}
use Rattle.ltl_spec.proofs.Collections.CaseLaws.{below_equal_above}
use Rattle.ltl_spec.proofs.Collections.FoundLaws.{map_same, map_equal}
use Rattle.ltl_spec.proofs.Collections.ListLaws.{Has-at, All-at_has, All-from_has}
use Rattle.ltl_spec.proofs.Collections.MemberLaws.{map_cases, map_length}
use Rattle.ltl_spec.proofs.Collections.Orders.{nat_linear, cube_linear, edge_linear, row_set_linear}
use Rattle.ltl_spec.proofs.Collections.SetLaws.{all_at, put_cases, set_of_cases}
use Rattle.ltl_sets.specs.PlaceLaws.{less}
use Rattle.ltl_passes.specs.Partition.{retargeted_list}
use Rattle.ltl_automaton.specs.Labels.{Tables, AreTables, coded_edge, labelled_edge, labelled_state, labelled, IsCoded, AreCoded}

-- sets of images, where images of things of a kind compare as the things do
module _ {X Y : Type 0} (order : Y → Y → Ordering) (cmp : X → X → Ordering) (g : X → Y) (D : X → Type 0) (alike : (x y : X) → D x → D y → order (g x) (g y) ≡ cmp x y) where
  -- one more image
  pub embedded_put : (x : X) (ys : List X) → D x → ((y : X) → Has ys y → D y) → put order (g x) (map g ys) ≡ map g (put cmp x ys)
  embedded_put x [] d f = refl
  embedded_put x (y ∷ ys) d f =
      ap (λ r. by_order r (g x ∷ g y ∷ map g ys) (g y ∷ map g ys) (g y ∷ put order (g x) (map g ys))) (alike x y d (f y (inl refl)))
      ∙ elim (cmp x y) as (λ r. by_order r (g x ∷ g y ∷ map g ys) (g y ∷ map g ys) (g y ∷ put order (g x) (map g ys)) ≡ map g (by_order r (x ∷ y ∷ ys) (y ∷ ys) (y ∷ put cmp x ys))) [
        | Less ↦ refl
        | Equal ↦ refl
        | Greater ↦ ap (λ l. g y ∷ l) (embedded_put x ys d (λ z h. f z (inr h)))
      ]

  set_within : (xs : List X) (z : X) → Has (set_of cmp xs) z → Has xs z
  set_within [] z h = h
  set_within (x ∷ xs) z h = elim (put_cases cmp x (set_of cmp xs) z h) [ inl e ↦ inl e | inr k ↦ inr (set_within xs z k) ]

  -- the set of the images is the images of the set
  pub embedded_set : (xs : List X) → ((x : X) → Has xs x → D x) → set_of order (map g xs) ≡ map g (set_of cmp xs)
  embedded_set [] f = refl
  embedded_set (x ∷ xs) f =
      ap (put order (g x)) (embedded_set xs (λ z h. f z (inr h)))
      ∙ embedded_put x (set_of cmp xs) (f x (inl refl)) (λ z h. f z (inr (set_within xs z h)))

-- on a strictly rising list, earlier items are less
rising_less : {K : Type 0} (R : K → K → Ordering) (xs : List K) (i j : ℕ) (d : K) → IsRising R xs → i < j → j < length xs → R (slice_index_or xs i d) (slice_index_or xs j d) ≡ Less
rising_less R [] i j d r l m = absurd (omega arith)
rising_less R (x ∷ xs) i zero d r l m = absurd (omega arith)
rising_less R (x ∷ xs) zero (suc j) d r l m = all_at (λ y. R x y ≡ Less) xs _ r.0 (Has-at xs j d (omega arith))
rising_less R (x ∷ xs) (suc i) (suc j) d r l m = rising_less R xs i j d r.1 (omega arith) (omega arith)

-- the items of a strictly rising list compare as their places do
pub rising_cmp : {K : Type 0} {R : K → K → Ordering} → IsLinearOrder R → (xs : List K) (i j : ℕ) (d : K) → IsRising R xs → i < length xs → j < length xs
    → R (slice_index_or xs i d) (slice_index_or xs j d) ≡ nat_cmp i j
rising_cmp {R = R} o xs i j d r l m =
    elim (below_equal_above i j) [
      | inl k ↦ rising_less R xs i j d r k m ∙ sym (less i j k)
      | inr s ↦ elim s [
        | inl e ↦ ap (λ k. R (slice_index_or xs i d) (slice_index_or xs k d)) (sym e) ∙ tied_itself o.total (slice_index_or xs i d) ∙ sym (tied_itself nat_linear.total i) ∙ ap (nat_cmp i) e
        | inr k ↦ o.total.antisymm (slice_index_or xs i d) (slice_index_or xs j d) ∙ ap ordering_reverse (rising_less R xs j i d r k l ∙ sym (less j i k)) ∙ sym (nat_linear.total.antisymm i j)
      ]
    ]

then_equal : (a : Ordering) → ordering_then a Equal ≡ a
then_equal Less = refl
then_equal Equal = refl
then_equal Greater = refl

-- coded cubes compare by their numbers
pub coded_cube_cmp : (c d : ℕ) → cube_cmp (coded_edge c 0 0).cube (coded_edge d 0 0).cube ≡ nat_cmp c d
coded_cube_cmp c d = then_equal (ordering_then (nat_cmp c d) Equal) ∙ then_equal (nat_cmp c d)

-- coded edges compare by the numbers of their cubes, then by their targets, then by the numbers of their marks
pub coded_cmp : (c t m d u n : ℕ) → edge_cmp (coded_edge c t m) (coded_edge d u n) ≡ ordering_then (nat_cmp c d) (ordering_then (nat_cmp t u) (nat_cmp m n))
coded_cmp c t m d u n = λ i. ordering_then (coded_cube_cmp c d i) (ordering_then (nat_cmp t u) (then_equal (nat_cmp m n) i))

-- with another target an edge stays coded
pub coded_retargeted_edge : (t : Tables) (f : ℕ → ℕ) (e : Edge) → IsCoded t e → IsCoded t (retargeted_edge f e)
coded_retargeted_edge t f e c = record { cube = c.cube; marks = c.marks; is = ap (retargeted_edge f) c.is; cube_within = c.cube_within; marks_within = c.marks_within }

coded_map : (t : Tables) (f : ℕ → ℕ) (es : List Edge) → All (IsCoded t) es → All (IsCoded t) (map (retargeted_edge f) es)
coded_map t f es c =
    All-from_has (IsCoded t) (map (retargeted_edge f) es) (λ e h. let w = map_cases (retargeted_edge f) es e h in subst (IsCoded t) (sym w.2) (coded_retargeted_edge t f w.0 (All-at_has (IsCoded t) es c w.0 w.1)))

-- what is coded stays so where it is made a set
pub coded_set : (t : Tables) (es : List Edge) → All (IsCoded t) es → All (IsCoded t) (set_of edge_cmp es)
coded_set t es c = All-from_has (IsCoded t) (set_of edge_cmp es) (λ e h. All-at_has (IsCoded t) es c e (set_of_cases edge_linear es e h))

-- and where edges get other targets
pub coded_retargeted : (t : Tables) (f : ℕ → ℕ) (es : List Edge) → All (IsCoded t) es → All (IsCoded t) (retargeted_list f es)
coded_retargeted t f es c = coded_set t (map (retargeted_edge f) es) (coded_map t f es c)

module _ (t : Tables) (a : AreTables t) where
  -- by numbers within the tables
  numbers_cmp : (c u m d v n : ℕ) → c < length t.cubes → m < length t.marks → d < length t.cubes → n < length t.marks
      → edge_cmp (labelled_edge t (coded_edge c u m)) (labelled_edge t (coded_edge d v n)) ≡ edge_cmp (coded_edge c u m) (coded_edge d v n)
  numbers_cmp c u m d v n i j k l =
      (λ x. ordering_then (rising_cmp cube_linear t.cubes c d [] a.cubes i k x) (ordering_then (nat_cmp u v) (rising_cmp row_set_linear t.marks m n [] a.marks j l x)))
      ∙ sym (coded_cmp c u m d v n)

  -- edges with labels compare as their numbers do
  pub labelled_cmp : (e f : Edge) → IsCoded t e → IsCoded t f → edge_cmp (labelled_edge t e) (labelled_edge t f) ≡ edge_cmp e f
  labelled_cmp e f c d =
      (λ i. edge_cmp (labelled_edge t (c.is i)) (labelled_edge t (d.is i)))
      ∙ numbers_cmp c.cube e.target c.marks d.cube f.target d.marks c.cube_within c.marks_within d.cube_within d.marks_within
      ∙ (λ i. edge_cmp (sym c.is i) (sym d.is i))

  -- the edges of a set get their labels
  pub labelled_set : (es : List Edge) → All (IsCoded t) es → map (labelled_edge t) (set_of edge_cmp es) ≡ set_of edge_cmp (map (labelled_edge t) es)
  labelled_set es c = sym (embedded_set edge_cmp edge_cmp (labelled_edge t) (IsCoded t) labelled_cmp es (All-at_has (IsCoded t) es c))

  -- so do the edges with other targets, as a set
  pub labelled_retargeted : (f : ℕ → ℕ) (es : List Edge) → All (IsCoded t) es → map (labelled_edge t) (retargeted_list f es) ≡ retargeted_list f (map (labelled_edge t) es)
  labelled_retargeted f es c =
      labelled_set (map (retargeted_edge f) es) (coded_map t f es c)
      ∙ ap (set_of edge_cmp) (map_same (retargeted_edge f) (labelled_edge t) es ∙ sym (map_same (labelled_edge t) (retargeted_edge f) es))

  -- lists of edges with labels are equal where those with numbers are
  same_lists : (es fs : List Edge) → ((e : Edge) → Has es e → IsCoded t e) → ((f : Edge) → Has fs f → IsCoded t f) → pointwise same_edge (map (labelled_edge t) es) (map (labelled_edge t) fs) ≡ pointwise same_edge es fs
  same_lists [] [] c d = refl
  same_lists [] (f ∷ fs) c d = refl
  same_lists (e ∷ es) [] c d = refl
  same_lists (e ∷ es) (f ∷ fs) c d =
      let first = labelled_cmp e f (c e (inl refl)) (d f (inl refl)) in
      let rest = same_lists es fs (λ x h. c x (inr h)) (λ x h. d x (inr h)) in
      λ i. is_eq (first i) && rest i

  -- states with labels are equal where those with numbers are
  pub labelled_same : (r s : State) → All (IsCoded t) r.edges → All (IsCoded t) s.edges → same_state (labelled_state t r) (labelled_state t s) ≡ same_state r s
  labelled_same r s c d = ap (λ b. beq r.accepting s.accepting && b) (same_lists r.edges s.edges (All-at_has (IsCoded t) r.edges c) (All-at_has (IsCoded t) s.edges d))

  labelled_place : (s : State) (seen : List State) → All (IsCoded t) s.edges → ((r : State) → Has seen r → All (IsCoded t) r.edges)
      → place_of same_state (labelled_state t s) (map (labelled_state t) seen) ≡ place_of same_state s seen
  labelled_place s [] c d = refl
  labelled_place s (r ∷ seen) c d =
      let first = labelled_same s r c (d r (inl refl)) in
      let rest = labelled_place s seen c (λ q h. d q (inr h)) in
      λ i. cond (not (first i)) (1 + rest i) 0

  abbrev IsCodedState : State → Type 0
  IsCodedState s = All (IsCoded t) s.edges

  -- the states with other targets, and their classes
  abbrev seen_by : List ℕ → Automaton → List State
  seen_by names A = map (retargeted_state (slice_index names)) A.states

  abbrev classes_of : List State → List ℕ
  classes_of seen = map (λ s. place_of same_state s seen) seen

  module _ (A : Automaton) (c : AreCoded t A) (names : List ℕ) where
    seen_coded : (s : State) → Has (seen_by names A) s → All (IsCoded t) s.edges
    seen_coded s h =
        let (r, k, e) = map_cases (retargeted_state (slice_index names)) A.states s h in
        subst IsCodedState (sym e) (coded_retargeted t (slice_index names) r.edges (All-at_has IsCodedState A.states c r k))

    seen_labelled : seen_by names (labelled t A) ≡ map (labelled_state t) (seen_by names A)
    seen_labelled =
        map_same (labelled_state t) (retargeted_state (slice_index names)) A.states
        ∙ map_equal (λ s. retargeted_state (slice_index names) (labelled_state t s)) (λ s. labelled_state t (retargeted_state (slice_index names) s)) A.states (λ s h.
        let e = sym (labelled_retargeted (slice_index names) s.edges (All-at_has IsCodedState A.states c s h)) in
        λ i. let r : State = record { accepting = s.accepting; edges = e i } in r)
        ∙ sym (map_same (retargeted_state (slice_index names)) (labelled_state t) A.states)

    classes_labelled : classes_of (map (labelled_state t) (seen_by names A)) ≡ classes_of (seen_by names A)
    classes_labelled =
        map_same (labelled_state t) (λ s. place_of same_state s (map (labelled_state t) (seen_by names A))) (seen_by names A)
        ∙ map_equal (λ s. place_of same_state (labelled_state t s) (map (labelled_state t) (seen_by names A))) (λ s. place_of same_state s (seen_by names A)) (seen_by names A)
        (λ s h. labelled_place s (seen_by names A) (seen_coded s h) seen_coded)

  -- the classes are named as those of the states with numbers
  pub labelled_names : (A : Automaton) → AreCoded t A → (n : ℕ) → class_names (labelled t A) n ≡ class_names A n
  labelled_names A c zero = ap (range_with_len 0) (map_length (labelled_state t) A.states)
  labelled_names A c (suc n) =
      ap (λ names. classes_of (seen_by names (labelled t A))) (labelled_names A c n) ∙ ap classes_of (seen_labelled A c (class_names A n)) ∙ classes_labelled A c (class_names A n)
