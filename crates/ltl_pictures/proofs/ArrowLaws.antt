-- The arrows of a state from the places of its edges.
use Rattle.std.proofs.Common.{◌≡◌, ◌∙◌, ap, ap₂, sym, refl, subst, ℕ, suc, ◌+◌, ◌<◌, ◌≤◌, Bool, cond, List, [], ◌∷◌, ◌++◌, length, map, append_assoc, arith, take, drop, length-drop}
use Rattle.std.specs.Prelude.{codes}
use Rattle.std.specs.Fmt.{decimal}
use Rattle.std.specs.List.{All, filter, flat_map, list_any, range_with_len, prefix_len}
use Rattle.std.specs.Ordering.{nat_cmp}
use Rattle.std.proofs.lemmas.List.Elements.{All-drop}
use Rattle.std.proofs.lemmas.Simd.{pick_l_whole}
use Rattle.ltl_spec.specs.Collections.Sets.{Has, IsRising, set_of}
use Rattle.ltl_spec.specs.Collections.Lists.{joined_by}
use Rattle.ltl_spec.proofs.Collections.SetLaws.{IsRising-set_of, IsRising-filter, set_of_cases, Has-set_of, same_members, filter_cases, Has-filter}
use Rattle.ltl_spec.proofs.Collections.MemberLaws.{Has-map, map_cases}
use Rattle.ltl_spec.proofs.Collections.ListLaws.{All-at_has, Has-at}
use Rattle.ltl_spec.proofs.Collections.Orders.{nat_linear}
use Rattle.ltl_spec.specs.Semantics.Word.{Name}
use Rattle.ltl_spec.specs.Automata.Automaton.{Edge}
use Rattle.ltl_models.specs.BaView.{IsTargetOrder, target_at}
use Rattle.ltl_sets.specs.PlaceLaws.{IsRising-range, Has-range}
use Rattle.ltl_text.specs.Options.{edge_at}
use Rattle.ltl_text.proofs.OptionLaws.{at_target, entries, entries_step, flat_map_same, place_cmp, range_below, rise_alone, rising_step, same_test, test_same}
use Rattle.ltl_pictures.specs.Picture.{arrow_to, arrows}
use Rattle.ltl_pictures.specs.DotText.{arrow_text, is_broken, label_end, label_start, or_text}
use Rattle.ltl_pictures.specs.Pieces.{front_text, parts_text, place_text}
use Rattle.ltl_pictures.proofs.PutLaws.{flat_mapped}

-- the arrow to a target, with the edges at these places
abbrev pub placed_text : List Name → Bool → (ℕ → Bool) → List Edge → ℕ → ℕ → List ℕ → List ℕ
placed_text names shown taken es k t ps = arrow_text names shown taken es (record { from = k; to = t; places = ps })

module _ (es : List Edge) (ps : List ℕ) (o : IsTargetOrder es ps) where
  abbrev all_places : List ℕ
  all_places = range_with_len 0 (length es)

  place_within : (p : ℕ) → Has ps p → p < length es
  place_within p h = All-at_has (λ q. q < length es) ps o.within p h

  same_places : (t : ℕ) → filter (at_target (target_at es) t) ps ≡ filter (at_target (target_at es) t) all_places
  same_places t =
      same_members nat_linear (filter (at_target (target_at es) t) ps) (filter (at_target (target_at es) t) all_places)
      (rise_alone (target_at es) t (filter (at_target (target_at es) t) ps) (IsRising-filter (place_cmp (target_at es)) (at_target (target_at es) t) ps o.rising)
      (λ p h. test_same (target_at es p) t (filter_cases (at_target (target_at es) t) ps p h).1))
      (IsRising-filter nat_cmp (at_target (target_at es) t) all_places (IsRising-range 0 (length es)))
      (λ p h. let f = filter_cases (at_target (target_at es) t) ps p h in
      Has-filter (at_target (target_at es) t) all_places p (Has-range 0 (length es) p (omega arith) (let lt = place_within p f.0 in omega (arith, lt))) f.1)
      (λ p h. let f = filter_cases (at_target (target_at es) t) all_places p h in
      Has-filter (at_target (target_at es) t) ps p (o.whole p (let lt = range_below 0 (length es) p f.0 in omega (arith, lt))) f.1)

  all_edges : map (edge_at es) all_places ≡ es
  all_edges = pick_l_whole (record { cube = []; target = 0; marks = [] }) es (length es) refl

  same_targets : set_of nat_cmp (map (target_at es) ps) ≡ set_of nat_cmp (map (λ e. e.target) es)
  same_targets =
      same_members nat_linear (set_of nat_cmp (map (target_at es) ps)) (set_of nat_cmp (map (λ (e : Edge). e.target) es))
      (IsRising-set_of nat_linear (map (target_at es) ps)) (IsRising-set_of nat_linear (map (λ (e : Edge). e.target) es)) ahead back
    where
      ahead : (z : ℕ) → Has (set_of nat_cmp (map (target_at es) ps)) z → Has (set_of nat_cmp (map (λ (e : Edge). e.target) es)) z
      ahead z h =
          let m = map_cases (target_at es) ps z (set_of_cases nat_linear (map (target_at es) ps) z h) in
          Has-set_of nat_linear (map (λ (e : Edge). e.target) es) z
          (subst (Has (map (λ (e : Edge). e.target) es)) (sym m.2)
          (Has-map (λ (e : Edge). e.target) es (edge_at es m.0) (Has-at es m.0 (record { cube = []; target = 0; marks = [] }) (place_within m.0 m.1))))

      back : (z : ℕ) → Has (set_of nat_cmp (map (λ (e : Edge). e.target) es)) z → Has (set_of nat_cmp (map (target_at es) ps)) z
      back z h =
          let m = map_cases (λ (e : Edge). e.target) es z (set_of_cases nat_linear (map (λ (e : Edge). e.target) es) z h) in
          let k = map_cases (edge_at es) all_places m.0 (subst (λ l. Has l m.0) (sym all_edges) m.1) in
          Has-set_of nat_linear (map (target_at es) ps) z
          (subst (Has (map (target_at es) ps)) (sym (m.2 ∙ ap (λ (e : Edge). e.target) k.2))
          (Has-map (target_at es) ps k.0 (o.whole k.0 (let lt = range_below 0 (length es) k.0 k.1 in omega (arith, lt)))))

  -- the entries of the places are the arrows
  pub entries_whole : (names : List Name) (shown : Bool) (taken : ℕ → Bool) (k : ℕ) → entries (target_at es) (placed_text names shown taken es k) ps ≡ flat_map (arrow_text names shown taken es) (arrows k es)
  entries_whole names shown taken k =
      ap (flat_map (λ t. placed_text names shown taken es k t (filter (at_target (target_at es) t) ps))) same_targets
      ∙ flat_map_same (λ t. placed_text names shown taken es k t (filter (at_target (target_at es) t) ps)) (λ t. arrow_text names shown taken es (arrow_to k es t)) (set_of nat_cmp (map (λ (x : Edge). x.target) es)) (λ t h. ap (placed_text names shown taken es k t) (same_places t))
      ∙ sym (flat_mapped (arrow_text names shown taken es) (arrow_to k es) (set_of nat_cmp (map (λ (x : Edge). x.target) es)))

-- ---- the first arrow, and the others
module _ (names : List Name) (shown : Bool) (taken : ℕ → Bool) (k : ℕ) (es : List Edge) (p n t : ℕ) (tail rest group others : List ℕ) (e : rest ≡ p ∷ tail) (f : target_at es p ≡ t)
    (is : n ≡ prefix_len (at_target (target_at es) t) rest) (rising : IsRising (place_cmp (target_at es)) rest) (front : group ≡ take n rest) (back : others ≡ drop n rest) where
  abbrev pub what_is_left : List ℕ → List ℕ
  what_is_left ps = entries (target_at es) (placed_text names shown taken es k) ps

  pub arrows_step : what_is_left rest ≡ placed_text names shown taken es k t group ++ what_is_left others
  arrows_step =
      entries_step (target_at es) t (placed_text names shown taken es k) p n tail rest e f is rising
      ∙ ap₂ (λ a b. placed_text names shown taken es k t a ++ what_is_left b) (sym front) (sym back)

  pub arrows_rise : IsRising (place_cmp (target_at es)) others
  arrows_rise = subst (IsRising (place_cmp (target_at es))) (sym back) (rising_step (target_at es) t (placed_text names shown taken es k) p n tail rest e f is rising)

  first_length : n ≡ 1 + prefix_len (at_target (target_at es) t) tail
  first_length = is ∙ ap (prefix_len (at_target (target_at es) t)) e ∙ ap (λ (b : Bool). cond b (1 + prefix_len (at_target (target_at es) t) tail) 0) (same_test (target_at es p) t f)

  pub arrows_fall : n ≤ length rest → suc (length others) ≤ length rest
  arrows_fall le = let first = first_length in let short = ap length back ∙ length-drop n rest in omega (arith, first, short, le)

  pub arrows_within : (P : ℕ → Type 0) → All P rest → All P others
  arrows_within P h = subst (All P) (sym back) (All-drop P n rest h)

-- ---- an arrow
module _ (names : List Name) (shown : Bool) (taken : ℕ → Bool) (es : List Edge) (from to : ℕ) (ps : List ℕ) where
  -- the arrow with a label of this kind
  abbrev styled : Bool → Bool → List ℕ
  styled red broken =
      codes "  " ++ decimal from ++ codes " -> " ++ decimal to ++ label_start red ++ joined_by (or_text broken red) (map (place_text names shown taken es red) ps) ++ label_end red

  pub arrow_pieces : (red broken : Bool) (between end : List ℕ) → red ≡ list_any taken ps → broken ≡ is_broken es ps → between ≡ or_text broken red → end ≡ label_end red
      → placed_text names shown taken es from to ps ≡ front_text from to red ++ (parts_text names shown taken es red between ps ++ end)
  arrow_pieces red broken between end r b t e =
      ap₂ styled (sym r) (sym b)
      ∙ regroup (codes "  ") (decimal from) (codes " -> ") (decimal to) (label_start red) (joined_by (or_text broken red) (map (place_text names shown taken es red) ps)) (label_end red)
      ∙ ap₂ (λ x y. front_text from to red ++ (parts_text names shown taken es red x ps ++ y)) (sym t) (sym e)
    where
      regroup : (a b c d e f g : List ℕ) → (((((a ++ b) ++ c) ++ d) ++ e) ++ f) ++ g ≡ (a ++ (b ++ (c ++ (d ++ e)))) ++ (f ++ g)
      regroup a b c d e f g = simp append_assoc
