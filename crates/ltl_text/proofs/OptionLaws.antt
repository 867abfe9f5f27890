-- The edges of a state by their targets.
use Rattle.std.proofs.Common.{◌≡◌, ◌∙◌, ap, ap₂, sym, refl, subst, ℕ, zero, suc, ◌+◌, ◌<◌, ◌≤◌, ◌⊎◌, inl, inr, Bool, true, false, cond, List, [], ◌∷◌, ◌++◌, length, map, append_assoc, append-nil, slice_index_or, arith, take, drop, length-take, length-drop}
use Rattle.std.specs.Prelude.{◌==◌, codes}
use Rattle.std.specs.List.{All, filter, flat_map, range_with_len, prefix_len}
use Rattle.std.specs.Ordering.{nat_cmp, on, then_cmp, ordering_then}
use Rattle.std.specs.declared.cmp.Ordering.{Ordering}
use Rattle.std.specs.declared.cmp.Ordering.TheVariants.{Less, Equal, Greater}
use Rattle.std.proofs.lemmas.Bool.Decides.{nat_tests}
use Rattle.std.proofs.lemmas.List.Elements.{All-drop, filter-append}
use Rattle.std.proofs.lemmas.List.{drop_all, drop_more, get_or-take, take-append-drop}
use Rattle.std.proofs.lemmas.List.Sums.{prefix_len_passes, prefix_len_stops}
use Rattle.std.proofs.lemmas.Simd.{pick_l_whole}
use Rattle.std.proofs.lemmas.Bool.{cases_lt}
use Rattle.ltl_spec.specs.Collections.Sets.{Has, IsRising, set_of}
use Rattle.ltl_spec.specs.Collections.Lists.{joined_by}
use Rattle.ltl_spec.proofs.Collections.SetLaws.{all_at, all_from, append_cases, append_right, IsRising-set_of, IsRising-filter, set_of_cases, Has-set_of, same_members, filter_cases, Has-filter}
use Rattle.ltl_spec.proofs.Collections.MemberLaws.{Has-map, map_cases, filter_all}
use Rattle.ltl_spec.proofs.Collections.ListLaws.{All-at_has, Has-at}
use Rattle.ltl_spec.proofs.Collections.Orders.{nat_linear}
use Rattle.ltl_spec.specs.Semantics.Word.{Name}
use Rattle.ltl_spec.specs.Automata.Automaton.{Automaton, Edge, State}
use Rattle.ltl_spec.specs.Automata.ClaimText.{cube_text, indented, label_of, option_line}
use Rattle.ltl_models.specs.BaView.{IsTargetOrder, target_at}
use Rattle.ltl_text.specs.Options.{edge_at, guards_text, option_text, options_text}
use Rattle.ltl_sets.specs.SubsetLaws.{filter_none}
use Rattle.ltl_sets.specs.PlaceLaws.{less, below, IsRising-range, Has-range}

-- ---- numbers
pub same_test : (x y : ℕ) → x ≡ y → (x == y) ≡ true
same_test x y h = grind (arith, nat_tests)

pub other_test : (x y : ℕ) → x < y → (x == y) ≡ false
other_test x y h = grind (arith, nat_tests)

pub later_test : (x y : ℕ) → y < x → (x == y) ≡ false
later_test x y h = grind (arith, nat_tests)

pub test_same : (x y : ℕ) → (x == y) ≡ true → x ≡ y
test_same x y h = grind (arith, nat_tests)

then_cases : (r s : Ordering) → ordering_then r s ≡ Less → (r ≡ Less) ⊎ ((r ≡ Equal) × (s ≡ Less))
then_cases Less s e = inl refl
then_cases Equal s e = inr (refl, e)
then_cases Greater s e = cc

-- ---- the numbers of a range
pub range_below : (a n : ℕ) (z : ℕ) → Has (range_with_len a n) z → z < a + n
range_below a zero z h = absurd h
range_below a (suc n) z (inl e) = omega arith
range_below a (suc n) z (inr h) = let lt = range_below (a + 1) n z h in omega (arith, lt)

-- ---- lists
pub flat_map_same : {X Y : Type 0} (f g : X → List Y) (xs : List X) → ((x : X) → Has xs x → f x ≡ g x) → flat_map f xs ≡ flat_map g xs
flat_map_same f g [] h = refl
flat_map_same f g (x ∷ xs) h = ap₂ (λ a b. a ++ b) (h x (inl refl)) (flat_map_same f g xs (λ z p. h z (inr p)))

filter-map_step : {X Y : Type 0} (b : Bool) (f : X → Y) (x : X) (ys : List Y) (xs : List X) → ys ≡ map f xs → cond b (f x ∷ ys) ys ≡ map f (cond b (x ∷ xs) xs)
filter-map_step true f x ys xs e = ap (λ t. f x ∷ t) e
filter-map_step false f x ys xs e = e

pub filter-map : {X Y : Type 0} (p : Y → Bool) (f : X → Y) (xs : List X) → filter p (map f xs) ≡ map f (filter (λ x. p (f x)) xs)
filter-map p f [] = refl
filter-map p f (x ∷ xs) = filter-map_step (p (f x)) f x (filter p (map f xs)) (filter (λ y. p (f y)) xs) (filter-map p f xs)

map_twice : {X Y Z : Type 0} (f : Y → Z) (g : X → Y) (xs : List X) → map f (map g xs) ≡ map (λ x. f (g x)) xs
map_twice f g [] = refl
map_twice f g (x ∷ xs) = ap (λ t. f (g x) ∷ t) (map_twice f g xs)

-- ---- places with targets, by target and then by place
module _ (target : ℕ → ℕ) where
  abbrev pub place_cmp : ℕ → ℕ → Ordering
  place_cmp = then_cmp (on target nat_cmp) nat_cmp

  abbrev pub at_target : ℕ → ℕ → Bool
  at_target t p = target p == t

  targets_rise : (p q : ℕ) → place_cmp p q ≡ Less → (target p < target q) ⊎ ((target p ≡ target q) × (p < q))
  targets_rise p q e =
      elim (then_cases (nat_cmp (target p) (target q)) (nat_cmp p q) e) [
        | inl l ↦ inl (below (target p) (target q) l)
        | inr m ↦ inr (nat_linear.exact (target p) (target q) m.0, below p q m.1)
      ]

  -- those of one target rise
  pub rise_alone : (t : ℕ) (ps : List ℕ) → IsRising place_cmp ps → ((p : ℕ) → Has ps p → target p ≡ t) → IsRising nat_cmp ps
  rise_alone t [] r h = tt
  rise_alone t (p ∷ ps) r h = (
    all_from (λ q. nat_cmp p q ≡ Less) ps (λ q k.
        elim (targets_rise p q (all_at (λ z. place_cmp p z ≡ Less) ps q r.0 k)) [
          | inl lt ↦ absurd (let e = h p (inl refl) in let f = h q (inr k) in omega (arith, e, f, lt))
          | inr m ↦ less p q m.1
        ]),
    rise_alone t ps r.1 (λ q k. h q (inr k)),
  )

  module _ (entry : ℕ → List ℕ → List ℕ) where
    -- an entry for each target
    abbrev pub entries : List ℕ → List ℕ
    entries ps = flat_map (λ t. entry t (filter (at_target t) ps)) (set_of nat_cmp (map target ps))

    module _ (t q : ℕ) (qs rs : List ℕ) (here : (p : ℕ) → Has (q ∷ qs) p → target p ≡ t) (later : (p : ℕ) → Has rs p → t < target p) where
      rest_after : (z : ℕ) → Has (set_of nat_cmp (map target rs)) z → t < z
      rest_after z h = let m = map_cases target rs z (set_of_cases nat_linear (map target rs) z h) in subst (λ w. t < w) (sym m.2) (later m.0 m.1)

      first_here : target q ≡ t
      first_here = here q (inl refl)

      to_first : (z : ℕ) → Has (set_of nat_cmp (map target (q ∷ qs ++ rs))) z → Has (t ∷ set_of nat_cmp (map target rs)) z
      to_first z h =
          let m = map_cases target (q ∷ qs ++ rs) z (set_of_cases nat_linear (map target (q ∷ qs ++ rs)) z h) in
          elim (append_cases (q ∷ qs) rs m.0 m.1) [
            | inl k ↦ inl (m.2 ∙ here m.0 k)
            | inr k ↦ inr (Has-set_of nat_linear (map target rs) z (subst (Has (map target rs)) (sym m.2) (Has-map target rs m.0 k)))
          ]

      from_first : (z : ℕ) → Has (t ∷ set_of nat_cmp (map target rs)) z → Has (set_of nat_cmp (map target (q ∷ qs ++ rs))) z
      from_first z (inl e) =
          Has-set_of nat_linear (map target (q ∷ qs ++ rs)) z (subst (Has (map target (q ∷ qs ++ rs))) (first_here ∙ sym e) (Has-map target (q ∷ qs ++ rs) q (inl refl)))
      from_first z (inr h) =
          let m = map_cases target rs z (set_of_cases nat_linear (map target rs) z h) in
          Has-set_of nat_linear (map target (q ∷ qs ++ rs)) z
          (subst (Has (map target (q ∷ qs ++ rs))) (sym m.2) (Has-map target (q ∷ qs ++ rs) m.0 (append_right (q ∷ qs) rs m.0 m.1)))

      targets_split : set_of nat_cmp (map target (q ∷ qs ++ rs)) ≡ t ∷ set_of nat_cmp (map target rs)
      targets_split =
          same_members nat_linear (set_of nat_cmp (map target (q ∷ qs ++ rs))) (t ∷ set_of nat_cmp (map target rs)) (IsRising-set_of nat_linear (map target (q ∷ qs ++ rs)))
          (all_from (λ z. nat_cmp t z ≡ Less) (set_of nat_cmp (map target rs)) (λ z h. less t z (rest_after z h)), IsRising-set_of nat_linear (map target rs)) to_first from_first

      group_is : filter (at_target t) (q ∷ qs ++ rs) ≡ q ∷ qs
      group_is =
          filter-append (at_target t) (q ∷ qs) rs
          ∙ ap₂ (λ a b. a ++ b) (filter_all (at_target t) (q ∷ qs) (λ p h. same_test (target p) t (here p h))) (filter_none (at_target t) rs (λ p h. later_test (target p) t (later p h)))
          ∙ append-nil (q ∷ qs)

      others_are : (z : ℕ) → t < z → filter (at_target z) (q ∷ qs ++ rs) ≡ filter (at_target z) rs
      others_are z lt =
          filter-append (at_target z) (q ∷ qs) rs
          ∙ ap (λ a. a ++ filter (at_target z) rs) (filter_none (at_target z) (q ∷ qs) (λ p h. other_test (target p) z (subst (λ w. w < z) (sym (here p h)) lt)))

      -- the entry of the least target, and the others
      pub entries_split : entries (q ∷ qs ++ rs) ≡ entry t (q ∷ qs) ++ entries rs
      entries_split =
          ap (flat_map (λ s. entry s (filter (at_target s) (q ∷ qs ++ rs)))) targets_split
          ∙ ap₂ (λ a b. a ++ b) (ap (entry t) group_is)
          (flat_map_same (λ s. entry s (filter (at_target s) (q ∷ qs ++ rs))) (λ s. entry s (filter (at_target s) rs)) (set_of nat_cmp (map target rs))
          (λ z h. ap (entry z) (others_are z (rest_after z h))))

  rising_right : (qs rs : List ℕ) → IsRising place_cmp (qs ++ rs) → IsRising place_cmp rs
  rising_right [] rs r = r
  rising_right (q ∷ qs) rs r = rising_right qs rs r.1

  rises : (p q : ℕ) → place_cmp p q ≡ Less → target p ≤ target q
  rises p q e = elim (targets_rise p q e) [ inl lt ↦ omega (arith, lt) | inr m ↦ (let s = m.0 in omega (arith, s)) ]

  not_same : (x y : ℕ) → (x == y) ≡ false → y ≤ x → y < x
  not_same x y e le = grind (arith, nat_tests)

  -- a list that does not begin with this target
  abbrev pub BeginsOther : ℕ → List ℕ → Type 0
  BeginsOther t [] = Unit {0}
  BeginsOther t (r ∷ rs) = at_target t r ≡ false

  -- behind those of the first target the targets are later
  pub later_targets : (t q : ℕ) (qs rs : List ℕ) → target q ≡ t → IsRising place_cmp (q ∷ qs ++ rs) → BeginsOther t rs → (p : ℕ) → Has rs p → t < target p
  later_targets t q qs [] e r b p h = absurd h
  later_targets t q qs (x ∷ rs) e r b p h =
      let le = rises q x (all_at (λ z. place_cmp q z ≡ Less) (qs ++ x ∷ rs) x r.0 (append_right qs (x ∷ rs) x (inl refl))) in
      let lt = not_same (target x) t b (omega (arith, le, e)) in
      elim h [
        | inl i ↦ subst (λ w. t < target w) (sym i) lt
        | inr k ↦ (let more = rises x p (all_at (λ z. place_cmp x z ≡ Less) rs p (rising_right qs (x ∷ rs) r.1).0 k) in omega (arith, lt, more))
      ]

-- ---- the options of a state
module _ (B : Automaton) (names : List Name) (es : List Edge) (ps : List ℕ) (o : IsTargetOrder es ps) where
  abbrev all_places : List ℕ
  all_places = range_with_len 0 (length es)

  place_within : (p : ℕ) → Has ps p → p < length es
  place_within p h = All-at_has (λ q. q < length es) ps o.within p h

  same_places : (t : ℕ) → filter (at_target (target_at es) t) ps ≡ filter (at_target (target_at es) t) all_places
  same_places t =
      same_members nat_linear (filter (at_target (target_at es) t) ps) (filter (at_target (target_at es) t) all_places)
      (rise_alone (target_at es) t (filter (at_target (target_at es) t) ps) (IsRising-filter (place_cmp (target_at es)) (at_target (target_at es) t) ps o.rising)
      (λ p h. test_same (target_at es p) t (filter_cases (at_target (target_at es) t) ps p h).1))
      (IsRising-filter nat_cmp (at_target (target_at es) t) all_places (IsRising-range 0 (length es)))
      (λ p h. let f = filter_cases (at_target (target_at es) t) ps p h in
      Has-filter (at_target (target_at es) t) all_places p (Has-range 0 (length es) p (omega arith) (let lt = place_within p f.0 in omega (arith, lt))) f.1)
      (λ p h. let f = filter_cases (at_target (target_at es) t) all_places p h in
      Has-filter (at_target (target_at es) t) ps p (o.whole p (let lt = range_below 0 (length es) p f.0 in omega (arith, lt))) f.1)

  all_edges : map (edge_at es) all_places ≡ es
  all_edges = pick_l_whole (record { cube = []; target = 0; marks = [] }) es (length es) refl

  same_guards : (t : ℕ) → map (λ p. cube_text names (edge_at es p).cube) (filter (at_target (target_at es) t) ps)
      ≡ map (λ e. cube_text names e.cube) (filter (λ e. e.target == t) es)
  same_guards t =
      ap (map (λ p. cube_text names (edge_at es p).cube)) (same_places t)
      ∙ sym (map_twice (λ (e : Edge). cube_text names e.cube) (edge_at es) (filter (at_target (target_at es) t) all_places))
      ∙ ap (map (λ (e : Edge). cube_text names e.cube)) (sym (filter-map (λ (e : Edge). e.target == t) (edge_at es) all_places))
      ∙ ap (λ l. map (λ (e : Edge). cube_text names e.cube) (filter (λ (e : Edge). e.target == t) l)) all_edges

  same_targets : set_of nat_cmp (map (target_at es) ps) ≡ set_of nat_cmp (map (λ e. e.target) es)
  same_targets =
      same_members nat_linear (set_of nat_cmp (map (target_at es) ps)) (set_of nat_cmp (map (λ (e : Edge). e.target) es))
      (IsRising-set_of nat_linear (map (target_at es) ps)) (IsRising-set_of nat_linear (map (λ (e : Edge). e.target) es)) there back
    where
      there : (z : ℕ) → Has (set_of nat_cmp (map (target_at es) ps)) z → Has (set_of nat_cmp (map (λ (e : Edge). e.target) es)) z
      there z h =
          let m = map_cases (target_at es) ps z (set_of_cases nat_linear (map (target_at es) ps) z h) in
          Has-set_of nat_linear (map (λ (e : Edge). e.target) es) z
          (subst (Has (map (λ (e : Edge). e.target) es)) (sym m.2)
          (Has-map (λ (e : Edge). e.target) es (edge_at es m.0) (Has-at es m.0 (record { cube = []; target = 0; marks = [] }) (place_within m.0 m.1))))

      back : (z : ℕ) → Has (set_of nat_cmp (map (λ (e : Edge). e.target) es)) z → Has (set_of nat_cmp (map (target_at es) ps)) z
      back z h =
          let m = map_cases (λ (e : Edge). e.target) es z (set_of_cases nat_linear (map (λ (e : Edge). e.target) es) z h) in
          let k = map_cases (edge_at es) all_places m.0 (subst (λ l. Has l m.0) (sym all_edges) m.1) in
          Has-set_of nat_linear (map (target_at es) ps) z
          (subst (Has (map (target_at es) ps)) (sym (m.2 ∙ ap (λ (e : Edge). e.target) k.2))
          (Has-map (target_at es) ps k.0 (o.whole k.0 (let lt = range_below 0 (length es) k.0 k.1 in omega (arith, lt)))))

-- the entries of the places are the options
pub entries_whole : (B : Automaton) (names : List Name) (s : State) (es : List Edge) (ps : List ℕ) → es ≡ s.edges → IsTargetOrder s.edges ps
    → entries (target_at es) (option_text B names es) ps ≡ options_text B names s
entries_whole B names s es ps e o =
    ap (λ l. entries (target_at l) (option_text B names l) ps) e
    ∙ ap (flat_map (λ t. option_text B names s.edges t (filter (at_target (target_at s.edges) t) ps))) (same_targets B names s.edges ps o)
    ∙ flat_map_same (λ t. option_text B names s.edges t (filter (at_target (target_at s.edges) t) ps)) (option_line B names s) (set_of nat_cmp (map (λ (x : Edge). x.target) s.edges))
    (λ t h. ap (λ l. indented (codes ":: " ++ joined_by (codes " || ") l ++ codes " -> goto " ++ label_of B t)) (same_guards B names s.edges ps o t))

-- ---- the places of the first target
passes_taken : (p : ℕ → Bool) (xs : List ℕ) (z : ℕ) → Has (take (prefix_len p xs) xs) z → p z ≡ true
passes_taken p xs z h = All-at_has (λ x. p x ≡ true) (take (prefix_len p xs) xs) each z h
  where
    each : (k d : ℕ) → k < length (take (prefix_len p xs) xs) → p (slice_index_or (take (prefix_len p xs) xs) k d) ≡ true
    each k d lt =
        let short : k < prefix_len p xs = omega (arith, lt, length-take (prefix_len p xs) xs) in
        ap p (get_or-take (prefix_len p xs) xs k d short) ∙ prefix_len_passes p xs k d short

module _ (target : ℕ → ℕ) (t : ℕ) where
  begins_at : (tail : List ℕ) (m : ℕ) → ((m < length tail) ⊎ (length tail ≤ m)) → (m < length tail → at_target target t (slice_index_or tail m 0) ≡ false) → BeginsOther target t (drop m tail)
  begins_at tail m (inl lt) h = subst (BeginsOther target t) (sym (drop_more tail m 0 lt)) (h lt)
  begins_at tail m (inr le) h = subst (BeginsOther target t) (sym (drop_all m tail le)) tt

  first_len : (p : ℕ) (tail rest : List ℕ) → rest ≡ p ∷ tail → target p ≡ t → prefix_len (at_target target t) rest ≡ suc (prefix_len (at_target target t) tail)
  first_len p tail rest e f =
      ap (prefix_len (at_target target t)) e
      ∙ ap (λ b. cond b (1 + prefix_len (at_target target t) tail) 0) (same_test (target p) t f)
      ∙ one_more (prefix_len (at_target target t) tail)
    where
      one_more : (k : ℕ) → 1 + k ≡ suc k
      one_more k = omega arith

  module _ (entry : ℕ → List ℕ → List ℕ) (p n : ℕ) (tail rest : List ℕ) (e : rest ≡ p ∷ tail) (f : target p ≡ t)
      (is : n ≡ prefix_len (at_target target t) rest) (rising : IsRising (place_cmp target) rest) where
    abbrev m : ℕ
    m = prefix_len (at_target target t) tail

    n_is : n ≡ suc m
    n_is = is ∙ first_len p tail rest e f

    front_is : take n rest ≡ p ∷ take m tail
    front_is = ap₂ (λ (k : ℕ) (l : List ℕ). take k l) n_is e

    back_is : drop n rest ≡ drop m tail
    back_is = ap₂ (λ (k : ℕ) (l : List ℕ). drop k l) n_is e

    rest_is : rest ≡ p ∷ take m tail ++ drop m tail
    rest_is = e ∙ ap (λ l. p ∷ l) (sym (take-append-drop m tail))

    here : (x : ℕ) → Has (p ∷ take m tail) x → target x ≡ t
    here x (inl i) = ap target i ∙ f
    here x (inr h) = test_same (target x) t (passes_taken (at_target target t) tail x h)

    later : (x : ℕ) → Has (drop m tail) x → t < target x
    later =
        later_targets target t p (take m tail) (drop m tail) f (subst (IsRising (place_cmp target)) rest_is rising)
        (begins_at tail m (cases_lt m (length tail)) (λ lt. prefix_len_stops (at_target target t) tail 0 lt))

    -- the entry of the first target, and those of the others
    pub entries_step : entries target entry rest ≡ entry t (take n rest) ++ entries target entry (drop n rest)
    entries_step =
        ap (entries target entry) rest_is ∙ entries_split target entry t p (take m tail) (drop m tail) here later
        ∙ ap₂ (λ a b. entry t a ++ entries target entry b) (sym front_is) (sym back_is)

    pub rising_step : IsRising (place_cmp target) (drop n rest)
    rising_step = subst (IsRising (place_cmp target)) (sym back_is) (rising_right target (p ∷ take m tail) (drop m tail) (subst (IsRising (place_cmp target)) rest_is rising))

-- an option in the pieces in which it is put
pub option_pieces : (B : Automaton) (names : List Name) (es : List Edge) (t : ℕ) (ps rest : List ℕ)
    → option_text B names es t ps ++ rest ≡ (9 ∷ codes ":: ") ++ (guards_text names es ps ++ (codes " -> goto " ++ (label_of B t ++ (10 ∷ [] ++ rest))))
option_pieces B names es t ps rest = ap (λ l. (9 ∷ codes ":: ") ++ l) (five (guards_text names es ps) (codes " -> goto ") (label_of B t) (10 ∷ []) rest)
  where
    five : (a b c d e : List ℕ) → (((a ++ b) ++ c) ++ d) ++ e ≡ a ++ (b ++ (c ++ (d ++ e)))
    five a b c d e = simp append_assoc

module _ (B : Automaton) (names : List Name) (es : List Edge) (p n t : ℕ) (tail rest group others : List ℕ) (e : rest ≡ p ∷ tail) (f : target_at es p ≡ t)
    (is : n ≡ prefix_len (at_target (target_at es) t) rest) (rising : IsRising (place_cmp (target_at es)) rest) (front : group ≡ take n rest) (back : others ≡ drop n rest) where
  abbrev pub what_is_left : List ℕ → List ℕ
  what_is_left ps = entries (target_at es) (option_text B names es) ps

  -- the first option in its pieces, and the others
  pub options_step : what_is_left rest ≡ (9 ∷ codes ":: ") ++ (guards_text names es group ++ (codes " -> goto " ++ (label_of B t ++ (10 ∷ [] ++ what_is_left others))))
  options_step =
      entries_step (target_at es) t (option_text B names es) p n tail rest e f is rising
      ∙ ap₂ (λ a b. option_text B names es t a ++ what_is_left b) (sym front) (sym back)
      ∙ option_pieces B names es t group (what_is_left others)

  pub options_rise : IsRising (place_cmp (target_at es)) others
  options_rise = subst (IsRising (place_cmp (target_at es))) (sym back) (rising_step (target_at es) t (option_text B names es) p n tail rest e f is rising)

  pub options_fall : n ≤ length rest → suc (length others) ≤ length rest
  options_fall le =
      let first = is ∙ first_len (target_at es) t p tail rest e f in
      let short = ap length back ∙ length-drop n rest in
      omega (arith, first, short, le)

  pub options_within : (P : ℕ → Type 0) → All P rest → All P others
  options_within P h = subst (All P) (sym back) (All-drop P n rest h)
