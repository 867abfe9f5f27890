-- The verdict of the check, from what the search finds.
use Rattle.std.proofs.Common.{◌≡◌, ◌≢◌, ℕ, ◌+◌, ◌*◌, ◌/◌, ◌<◌, ◌≤◌, Bool, true, cond, List, [], ◌∷◌, ◌++◌, map, take, drop, length, inl, inr, refl, ap, sym, ◌∙◌, ◌^◌, subst, arith}
use Rattle.std.specs.Prelude.{All, filter, flat_map, slice_index_or}
use Rattle.std.proofs.lemmas.List.{length-append, take_at, drop_at}
use Rattle.ltl_spec.specs.Collections.Sets.{Has}
use Rattle.ltl_spec.specs.Transitions.Cubes.{Literal}
use Rattle.ltl_spec.specs.Semantics.Word.{Name, Letter, Lasso}
use Rattle.ltl_spec.specs.Formulas.Names.{unified}
use Rattle.ltl_spec.specs.Words.LassoText.{names_in}
use Rattle.ltl_spec.specs.Words.LeastForm.{least_form}
use Rattle.ltl_spec.specs.Automata.Automaton.{Automaton, State, Edge, state_at}
use Rattle.ltl_spec.specs.Hoa.HoaReading.{MarkedAutomaton}
use Rattle.ltl_spec.specs.Checking.Product.{unified_number}
use Rattle.ltl_spec.specs.Checking.Search.{lasso_along, letter_of}
use Rattle.ltl_spec.specs.Checking.Searched.{HasCommonWalk, printed_word}
use Rattle.ltl_spec.specs.Checking.Check.{Contained, Violated, IsVerdict, IsCommon, IsPositive, graph_of, marked_cubes, cubes_of, product_size}
use Rattle.ltl_spec.specs.Checking.Bounds.{HasNamesBelow, IsBuchi, IsProper}
use Rattle.ltl_spec.proofs.Collections.SetLaws.{append_cases, append_left, append_right, filter_cases, Has-set_of}
use Rattle.ltl_spec.proofs.Collections.ListLaws.{All-at_has, All-from_has, Has-at}
use Rattle.ltl_spec.proofs.Collections.MemberLaws.{map_cases, map_length, Has-map, Has-flat_map}
use Rattle.ltl_spec.proofs.Collections.Orders.{name_linear}
use Rattle.ltl_spec.proofs.Automata.ListedStates.{no_state, has_edge_below}
use Rattle.ltl_spec.proofs.Checking.CheckLaws.{common_accepted, common_needed, both_below}
use Rattle.ltl_spec.proofs.Checking.VerdictLaws.{contained_verdict, graph_is_graph}
use Rattle.ltl_hoa.specs.MarkedView.{IsMarked, IsEdgeWithin}
use Rattle.ltl_models.specs.BaView.{IsBa}
use Rattle.ltl_check.specs.declared.walk.Taken.{Taken}
use Rattle.ltl_check.specs.Levels.{IsFullWalk, levels_net}
use Rattle.ltl_check.specs.ProductView.{number_in, product_net, edge_pairs, pair_at, pair_count}
use Rattle.ltl_check.specs.VerdictView.{letters_of, letters_in, IsReachedLevelState, IsBriefOn, IsNoLongerOn, chosen_pairs}
use Rattle.ltl_check.specs.Shortest.{IsShortestLasso}
use Rattle.ltl_check.specs.Shrunk.{AreNeeded, IsShared}
use Rattle.ltl_check.specs.Looks.{LooksAtMost}
use Rattle.ltl_word.specs.LassoView.{letter_with, word_with}
use Rattle.ltl_check.specs.Explored.{sum_below, Reached, IsGrown}
use Rattle.ltl_check.proofs.ShortestLaws.{counted_most, counted_below}
use Rattle.ltl_check.proofs.ProductWalks.{found_walk, found_cubes, walk_found, reached_by_looks}
use Rattle.ltl_spec.proofs.Collections.FoundLaws.{map_same}

-- what the types hold is what the laws of the check ask for
pub proper_of : (A : MarkedAutomaton) → IsMarked A → IsProper A
proper_of A m = record {
  differ = m.differ;
  marks = λ es e h k j o. All-at_has (λ i. i < A.sets) e.marks (edge es e h k).marks j o;
  propositions = λ es e h k l o. All-at_has (λ (x : Literal). x.proposition < length A.names) e.cube (edge es e h k).cube l o;
}
  where
    edge : (es : List Edge) (e : Edge) → Has A.edges es → Has es e → IsEdgeWithin (length A.names) A.states A.sets e
    edge es e h k = All-at_has (IsEdgeWithin (length A.names) A.states A.sets) es (All-at_has (λ xs. All (IsEdgeWithin (length A.names) A.states A.sets) xs) A.edges m.within es h) e k

pub buchi_of : (n : ℕ) (B : Automaton) → IsBa B → HasNamesBelow n B → IsBuchi n B
buchi_of n B b named = record { sets = b.no_sets; begins = b.some; inside = inside; propositions = named }
  where
    inside : (s : ℕ) (e : Edge) → Has (state_at B s).edges e → e.target < length B.states
    inside s e h =
        let P : Edge → Type 0 = λ x. x.target < length B.states in
        let Q : State → Type 0 = λ x. All P x.edges in
        All-at_has P (state_at B s).edges (All-at_has Q B.states b.within (state_at B s) (Has-at B.states s no_state (has_edge_below B s e h))) e h

-- the cubes of a marked automaton are those of its graph
marked_cubes_same : (A : MarkedAutomaton) → cubes_of (graph_of A) ≡ marked_cubes A
marked_cubes_same A = at A.edges
  where
    at : (ess : List (List Edge)) → flat_map (λ (s : State). map (λ (e : Edge). e.cube) s.edges) (map (λ es. let t : State = record { accepting = true; edges = es } in t) ess) ≡ flat_map (map (λ (e : Edge). e.cube)) ess
    at [] = refl
    at (es ∷ ess) = ap (λ l. map (λ (e : Edge). e.cube) es ++ l) (at ess)

module _ (A : MarkedAutomaton) (names : List Name) (B : Automaton) (numbers : List ℕ) (marked : IsMarked A) (ba : IsBa B) (named : HasNamesBelow (length names) B)
    (maps : (p : ℕ) → p < length names → number_in numbers p ≡ unified_number A.names names p) where
  abbrev all_names : List Name
  all_names = unified A.names names

  proper : IsProper A
  proper = proper_of A marked

  buchi : IsBuchi (length names) B
  buchi = buchi_of (length names) B ba named

  -- without a walk
  pub none_verdict : ((stem cycle : List Taken) → IsFullWalk (product_net A B numbers) (A.sets + 1) stem cycle → ⊥) → IsVerdict A names B (IsCommon A names B) Contained
  none_verdict none = contained_verdict A proper names B buchi (λ h. let w = walk_found A names B numbers ba.some marked.counted named maps h in none w.0 w.1 w.2)

  module _ (stem cycle : List Taken) (w : IsFullWalk (product_net A B numbers) (A.sets + 1) stem cycle) where
    -- the letters hold propositions that have names
    within_of : (t : Taken) → Has (stem ++ cycle) t → (i : ℕ) → Has t.letter i → i < length all_names
    within_of t h i m =
        let (k, x, stands, e) = found_cubes A names B numbers ba.some marked.counted named maps stem cycle w t h in
        let (l, o, q) = map_cases (λ (l : Literal). l.proposition) (filter (λ (l : Literal). l.positive) x.cube) i (subst (λ is. Has is i) (sym e) m) in
        subst (λ n. n < length all_names) (sym q) (both_below (graph_of A) B A.names names marked.differ (graph_is_graph A proper) buchi A.start k x stands l (filter_cases (λ (l : Literal). l.positive) x.cube l o).0)

    letters_at : (ts : List Taken) → ((t : Taken) → Has ts t → Has (stem ++ cycle) t) → (is : List ℕ) → Has (letters_of ts) is → All (λ i. i < length all_names) is
    letters_at ts among is h =
        let (t, k, e) = map_cases (λ (t : Taken). t.letter) ts is h in
        All-from_has (λ i. i < length all_names) is (λ i m. within_of t (among t k) i (subst (λ js. Has js i) e m))

    pub letters_within : (count : ℕ) → count ≡ length all_names → All (All (λ i. i < count)) (letters_of stem ++ letters_of cycle)
    letters_within count e =
        subst (λ n. All (All (λ i. i < n)) (letters_of stem ++ letters_of cycle)) (sym e)
        (All-from_has (All (λ i. i < length all_names)) (letters_of stem ++ letters_of cycle) (λ is h. elim (append_cases (letters_of stem) (letters_of cycle) is h) [
          | inl k ↦ letters_at stem (λ t m. append_left stem cycle t m) is k
          | inr k ↦ letters_at cycle (λ t m. append_right stem cycle t m) is k
        ]))

    -- the letters along the walk, as numbers of names
    letters_along : (h : HasCommonWalk A names B) → lasso_along all_names h.stem h.cycle ≡ record { stem = map (λ (t : Taken). letter_with all_names t.letter) stem; cycle = map (λ (t : Taken). letter_with all_names t.letter) cycle }
        → (all : List Name) → all ≡ all_names → word_with all (letters_of stem) (letters_of cycle) ≡ lasso_along all_names h.stem h.cycle
    letters_along h along all e =
        ap (λ ns. word_with ns (letters_of stem) (letters_of cycle)) e
        ∙ (λ i. record { stem = map_same (λ (t : Taken). t.letter) (letter_with all_names) stem i; cycle = map_same (λ (t : Taken). t.letter) (letter_with all_names) cycle i }) ∙ sym along

    -- a word that isn't longer than that of the walk
    pub no_longer : (all : List Name) → all ≡ all_names → (edges : ℕ) → edges ≡ length stem + length cycle
        → (v : Lasso) → letters_in v ≤ letters_in (least_form (word_with all (letters_of stem) (letters_of cycle))) → IsNoLongerOn A names B edges (Violated v)
    no_longer all e edges f v l =
        let (h, along) = found_walk A names B numbers ba.some marked.counted named maps stem cycle w in
        let printed : letters_in (least_form (word_with all (letters_of stem) (letters_of cycle))) ≡ letters_in (printed_word A names h.stem h.cycle) = ap (λ x. letters_in (least_form x)) (letters_along h along all e) in
        (h, (as_many h.stem h.cycle stem cycle along ∙ sym f), subst (λ n. letters_in v ≤ n) printed l)
      where
        as_many : (es ds : List Edge) (ss cs : List Taken) → lasso_along all_names es ds ≡ record { stem = map (λ (t : Taken). letter_with all_names t.letter) ss; cycle = map (λ (t : Taken). letter_with all_names t.letter) cs }
            → length es + length ds ≡ length ss + length cs
        as_many es ds ss cs along =
            let s = ap (λ (x : Lasso). length x.stem) along in
            let c = ap (λ (x : Lasso). length x.cycle) along in
            let m = map_length (λ (x : Edge). letter_of all_names x.cube) es in
            let n = map_length (λ (x : Edge). letter_of all_names x.cube) ds in
            let o = map_length (λ (t : Taken). letter_with all_names t.letter) ss in
            let p = map_length (λ (t : Taken). letter_with all_names t.letter) cs in
            omega (arith, s, c, m, n, o, p)

    -- both automata accept the word along the walk
    pub walk_shared : (all : List Name) → all ≡ all_names → (letters : List (List ℕ)) (count : ℕ) → letters ≡ letters_of stem ++ letters_of cycle → count ≡ length stem → IsShared A names B all letters count
    walk_shared all e letters count ls n =
        let (h, along) = found_walk A names B numbers ba.some marked.counted named maps stem cycle w in
        let long : length (letters_of stem) ≡ count = map_length (λ (t : Taken). t.letter) stem ∙ sym n in
        let all_long : length letters ≡ length stem + length cycle =
        ap length ls ∙ length-append (letters_of stem) (letters_of cycle) ∙ (λ i. map_length (λ (t : Taken). t.letter) stem i + map_length (λ (t : Taken). t.letter) cycle i) in
        let some : 0 < length cycle = some_step cycle w.moves in
        let first : take count letters ≡ letters_of stem = ap (take count) ls ∙ take_at (letters_of stem) (letters_of cycle) count long in
        let second : drop count letters ≡ letters_of cycle = ap (drop count) ls ∙ drop_at (letters_of stem) (letters_of cycle) count long in
        let same : word_with all (take count letters) (drop count letters) ≡ lasso_along all_names h.stem h.cycle = (λ i. word_with all (first i) (second i)) ∙ letters_along h along all e in
        (omega arith, subst (IsCommon A names B) (sym same) (common_accepted (graph_of A) B A.names names marked.differ (graph_is_graph A proper) buchi A.start h))
      where
        some_step : (ts : List Taken) → ts ≢ [] → 0 < length ts
        some_step [] f = absurd (f refl)
        some_step (t ∷ ts) f = omega arith

    -- the names in its letters are needed
    pub walk_needed : (all : List Name) → all ≡ all_names → AreNeeded A names B all (letters_of stem ++ letters_of cycle)
    walk_needed all e b i h m =
        let (g, along) = found_walk A names B numbers ba.some marked.counted named maps stem cycle w in
        let named_in : Has (names_in (word_with all (letters_of stem) (letters_of cycle))) (slice_index_or all i []) =
        Has-flat_map (λ (x : Letter). x) (map (letter_with all) (letters_of stem) ++ map (letter_with all) (letters_of cycle)) (letter_with all b) (slice_index_or all i [])
        (elim (append_cases (letters_of stem) (letters_of cycle) b h) [
          | inl k ↦ append_left (map (letter_with all) (letters_of stem)) (map (letter_with all) (letters_of cycle)) (letter_with all b) (Has-map (letter_with all) (letters_of stem) b k)
          | inr k ↦ append_right (map (letter_with all) (letters_of stem)) (map (letter_with all) (letters_of cycle)) (letter_with all b) (Has-map (letter_with all) (letters_of cycle) b k)
        ])
        (Has-set_of name_linear (map (λ j. slice_index_or all j []) b) (slice_index_or all i []) (Has-map (λ j. slice_index_or all j []) b i m)) in
        elim (common_needed (graph_of A) B A.names names marked.differ (graph_is_graph A proper) buchi A.start g (slice_index_or all i []) (subst (λ u. Has (names_in u) (slice_index_or all i [])) (letters_along g along all e) named_in)) [
          | inl p ↦ inl (subst (λ cs. IsPositive A.names cs (slice_index_or all i [])) (marked_cubes_same A) p)
          | inr p ↦ inr p
        ]

    -- no common walk has fewer edges than a word has letters that has no more than a shortest walk has edges
    shortest_word : IsShortestLasso (product_net A B numbers) (A.sets + 1) stem cycle → (v : Lasso) → length v.stem + length v.cycle ≤ length stem + length cycle
        → (h : HasCommonWalk A names B) → length v.stem + length v.cycle ≤ length h.stem + length h.cycle
    shortest_word shortest v l h =
        let f = walk_found A names B numbers ba.some marked.counted named maps h in
        let m = shortest.1 f.0 f.1 f.2 in
        let n = f.3 in
        omega arith

    -- after so many looks for a shorter walk
    pub brief_word : (before looks most more : ℕ) → before ≡ 0 → most ≤ 2 ^ 64 → (c : ℕ) × IsGrown before looks c × (c < most → IsShortestLasso (product_net A B numbers) (A.sets + 1) stem cycle) → LooksAtMost before looks (most + more)
        → (v : Lasso) → length v.stem + length v.cycle ≤ length stem + length cycle → IsBriefOn A names B most more looks (Violated v)
    brief_word before looks most more z small s m v few = (counted_most before looks (most + more) z m, λ less. shortest_word (s.2 (counted_below before looks s.0 most small s.1 less)) v few)

  -- what is reached costs no more than what the search paid for
  pub paid_copies : (c : ℕ) → ((p : ℕ → Bool) → ((n : ℕ) → p n ≡ true → Reached (levels_net (A.sets + 1) (product_net A B numbers)) n)
      → sum_below (λ n. cond (p n) (edge_pairs A B (pair_at A B (n / (A.sets + 1 + 1)))) 0) (pair_count A B * (A.sets + 1 + 1)) ≤ c)
      → (p : ℕ → Bool) → ((n : ℕ) → p n ≡ true → IsReachedLevelState A names B n) → chosen_pairs A B p (product_size A names B) ≤ c
  paid_copies c paid p reached =
      let two : A.sets + 1 + 1 ≡ A.sets + 2 = omega arith in
      subst (λ k. sum_below (λ n. cond (p n) (edge_pairs A B (pair_at A B (n / k))) 0) (pair_count A B * k) ≤ c) two
      (paid p (λ n e. reached_by_looks A names B numbers ba.some marked.counted named maps n (reached n e)))
