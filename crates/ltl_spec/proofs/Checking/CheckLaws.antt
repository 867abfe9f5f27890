-- The check: two automata accept no common word exactly when their product has no accepting walk, and else they accept the word along one.
use Rattle.std.proofs.Common.{◌≡◌, ℕ, ◌*◌, ◌↔◌, ◌<◌, true, ◌⊎◌, inl, inr, List, [], ◌∷◌, ◌++◌, map, length, sym, ◌∙◌, ap, subst, arith, Some}
use Rattle.std.specs.Prelude.{All, slice_index_or, filter}
use Rattle.std.proofs.lemmas.Bool.{cases_lt}
use Rattle.std.proofs.lemmas.List.{get_or_past}
use Rattle.std.proofs.lemmas.Option.{slice_get-get_or}
use Rattle.ltl_spec.specs.Collections.Sets.{Has, IsRising}
use Rattle.ltl_spec.specs.Collections.Lists.{HasNoRepeats}
use Rattle.ltl_spec.specs.Transitions.Cubes.{Literal, is_contradictory}
use Rattle.ltl_spec.specs.Semantics.Word.{Name, name_cmp, Letter, Lasso, IsLasso, next, is_true_at}
use Rattle.ltl_spec.specs.Formulas.Names.{unified}
use Rattle.ltl_spec.specs.Words.LassoText.{names_in}
use Rattle.ltl_spec.specs.Automata.Automaton.{Automaton, State, Edge, state_at, Accepts, AcceptsFrom}
use Rattle.ltl_spec.specs.Checking.Product.{renamed_literal, renamed_automaton, first_state, second_state, unified_number, common_graph, common_start}
use Rattle.ltl_spec.specs.Checking.Search.{IsPath, HasAcceptingWalk, letter_of, lasso_along}
use Rattle.ltl_spec.specs.Checking.Check.{IsPositive, cubes_of}
use Rattle.ltl_spec.specs.Checking.Bounds.{HasNamesBelow, HasNoContradictions, AcceptsEverywhere, IsGraph, IsBuchi}
use Rattle.ltl_spec.proofs.Collections.SetLaws.{append_cases, IsRising-set_of, set_of_cases, union_cases}
use Rattle.ltl_spec.proofs.Collections.Orders.{name_linear, literal_linear}
use Rattle.ltl_spec.proofs.Collections.ListLaws.{Has-at, All-from_has}
use Rattle.ltl_spec.proofs.Collections.MemberLaws.{Has-map, map_cases, Has-flat_map, flat_map_cases}
use Rattle.ltl_spec.proofs.Automata.ListedStates.{no_state, has_edge_below}
use Rattle.ltl_spec.proofs.Checking.UnifiedLaws.{first_names, second_names, first_below, second_below, HasNoRepeats-unified}
use Rattle.ltl_spec.proofs.Checking.ProductRuns.{renamed_cases, product_at, product_cases, product_length}
use Rattle.ltl_spec.proofs.Checking.ProductLaws.{common_accepts}
use Rattle.ltl_spec.proofs.Checking.PathLaws.{letter_cases, walk_of_accepted, word_cycles, word_accepted}

-- the edges of a path are edges of the graph
pub edge_of_path : (P : Automaton) (es : List Edge) (s t : ℕ) (e : Edge) → IsPath P s es t → Has es e → (k : ℕ) × Has (state_at P k).edges e
edge_of_path P [] s t e p h = absurd h
edge_of_path P (x ∷ es) s t e p (inl q) = (s, subst (Has (state_at P s).edges) (sym q) p.0)
edge_of_path P (x ∷ es) s t e p (inr h) = edge_of_path P es x.target t e p.1 h

-- the cube of an edge is one of the automaton's
pub Has-cubes_of : (A : Automaton) (s : ℕ) (e : Edge) → Has (state_at A s).edges e → Has (cubes_of A) e.cube
Has-cubes_of A s e h =
    Has-flat_map (λ (t : State). map (λ (x : Edge). x.cube) t.edges) A.states (state_at A s) e.cube
    (Has-at A.states s no_state (has_edge_below A s e h))
    (Has-map (λ (x : Edge). x.cube) (state_at A s).edges e h)

-- the letters along a walk are sets
pub along_sets : (names : List Name) (stem cycle : List Edge) → All (IsRising name_cmp) ((lasso_along names stem cycle).stem ++ (lasso_along names stem cycle).cycle)
along_sets names stem cycle = All-from_has (IsRising name_cmp) (map (λ (e : Edge). letter_of names e.cube) stem ++ map (λ (e : Edge). letter_of names e.cube) cycle) rises
  where
    one : (es : List Edge) (a : Letter) → Has (map (λ (e : Edge). letter_of names e.cube) es) a → IsRising name_cmp a
    one es a h =
        let w = map_cases (λ (e : Edge). letter_of names e.cube) es a h in
        subst (IsRising name_cmp) (sym w.2) (IsRising-set_of name_linear (map (λ (l : Literal). slice_index_or names l.proposition []) (filter (λ l. l.positive) w.0.cube)))

    rises : (a : Letter) → Has (map (λ (e : Edge). letter_of names e.cube) stem ++ map (λ (e : Edge). letter_of names e.cube) cycle) a → IsRising name_cmp a
    rises a h = elim (append_cases (map (λ (e : Edge). letter_of names e.cube) stem) (map (λ (e : Edge). letter_of names e.cube) cycle) a h) [ inl k ↦ one stem a k | inr k ↦ one cycle a k ]

-- a name in the letters is that of a positive literal of an edge
pub along_cases : (P : Automaton) (names : List Name) (start : ℕ) (h : HasAcceptingWalk P start) (n : Name) → Has (names_in (lasso_along names h.stem h.cycle)) n
    → (k : ℕ) × (e : Edge) × (l : Literal) × Has (state_at P k).edges e × Has e.cube l × (l.positive ≡ true) × (n ≡ slice_index_or names l.proposition [])
along_cases P names start h n m =
    let (a, k, q) = flat_map_cases (λ (x : Letter). x) (map (λ (e : Edge). letter_of names e.cube) h.stem ++ map (λ (e : Edge). letter_of names e.cube) h.cycle) n m in
    elim (append_cases (map (λ (e : Edge). letter_of names e.cube) h.stem) (map (λ (e : Edge). letter_of names e.cube) h.cycle) a k) [
      | inl p ↦ one h.stem start h.state h.arrives a p q
      | inr p ↦ one h.cycle h.state h.state h.cycles.closes a p q
    ]
  where
    one : (es : List Edge) (s t : ℕ) → IsPath P s es t → (a : Letter) → Has (map (λ (e : Edge). letter_of names e.cube) es) a → Has a n
        → (k : ℕ) × (e : Edge) × (l : Literal) × Has (state_at P k).edges e × Has e.cube l × (l.positive ≡ true) × (n ≡ slice_index_or names l.proposition [])
    one es s t path a p q =
        let (e, r, same) = map_cases (λ (x : Edge). letter_of names x.cube) es a p in
        let (l, c, positive, name) = letter_cases names e.cube n (subst (λ b. Has b n) same q) in
        let w = edge_of_path P es s t e path r in
        (w.0, e, l, w.1, c, positive, name)

-- a graph accepts some word exactly when it has an accepting walk
pub some_word : (P : Automaton) (names : List Name) → HasNoRepeats names → HasNamesBelow (length names) P → HasNoContradictions P → AcceptsEverywhere P → (start : ℕ)
    → ((w : Lasso) × IsLasso w × AcceptsFrom start names P w) ↔ HasAcceptingWalk P start
some_word P names differ below plain all start = (
  λ h. walk_of_accepted P (is_true_at names h.0) (next h.0) start h.2,
  λ h. (
    lasso_along names h.stem h.cycle,
    record { sets = along_sets names h.stem h.cycle; cycles = word_cycles P names differ below plain all start h },
    word_accepted P names differ below plain all start h,
  ),
)

-- The given automaton with its start and names, and a Büchi automaton with its names
module _ (A B : Automaton) (own other : List Name) (differ : HasNoRepeats own) (graph : IsGraph (length own) A) (buchi : IsBuchi (length other) B) (start : ℕ) where
  abbrev pub both : Automaton
  both = common_graph own other A B

  abbrev renamed : Automaton
  renamed = renamed_automaton (unified_number own other) B

  abbrev pub both_start : ℕ
  both_start = common_start own other A B start

  abbrev both_names : List Name
  both_names = unified own other

  -- the literals of a product's edge come from either side
  literal_cases : (k : ℕ) (g : Edge) (l : Literal) → Has (state_at both k).edges g → Has g.cube l
      → ((e : Edge) × Has (state_at A (first_state A renamed k)).edges e × Has e.cube l)
      ⊎ ((f : Edge) × (m : Literal) × Has (state_at B (second_state A renamed k)).edges f × Has f.cube m × (l ≡ renamed_literal (unified_number own other) m))
  literal_cases k g l h c =
      let (e, f, m, n, q, plain) = product_cases A renamed k g h in
      elim (union_cases literal_linear e.cube f.cube l (subst (λ (x : Edge). Has x.cube l) q c)) [
        | inl p ↦ inl (e, m, p)
        | inr p ↦
            let (b, r, same) = renamed_cases (unified_number own other) B (second_state A renamed k) f n in
            let (o, t, u) = map_cases (renamed_literal (unified_number own other)) b.cube l (set_of_cases literal_linear (map (renamed_literal (unified_number own other)) b.cube) l (subst (λ (x : Edge). Has x.cube l) same p)) in
            inr (b, o, r, t, u)
      ]

  pub both_below : HasNamesBelow (length both_names) both
  both_below k g h l c = elim (literal_cases k g l h c) [
    | inl (e, m, p) ↦ first_below own other differ l.proposition (graph.propositions (first_state A renamed k) e m l p)
    | inr (f, o, m, p, q) ↦
        subst (λ (x : Literal). x.proposition < length both_names) (sym q) (second_below own other o.proposition (buchi.propositions (second_state A renamed k) f m o p))
  ]

  pub both_plain : HasNoContradictions both
  both_plain k g h =
      let (e, f, m, n, q, plain) = product_cases A renamed k g h in
      ap (λ (x : Edge). is_contradictory x.cube) q ∙ plain

  pub both_accepting : AcceptsEverywhere both
  both_accepting k = elim (cases_lt k (length A.states * length renamed.states)) [
    | inl l ↦ ap (λ (x : State). x.accepting) (product_at A renamed k l)
    | inr l ↦ let e = product_length A renamed in ap (λ (x : State). x.accepting) (get_or_past both.states k no_state (omega (arith, e, l)))
  ]

  -- no word is accepted by both where there is no walk
  pub no_common_word : ¬ (HasAcceptingWalk both both_start) → (w : Lasso) → 0 < length w.cycle → ¬ (AcceptsFrom start own A w × Accepts other B w)
  no_common_word none w cycles h = none (walk_of_accepted both _ _ both_start ((common_accepts A B own other differ graph buchi start w cycles).1 h))

  module _ (h : HasAcceptingWalk both both_start) where
    -- the word along a walk
    abbrev pub common_word : Lasso
    common_word = lasso_along both_names h.stem h.cycle

    -- is a word, and both accept it
    pub common_lasso : IsLasso common_word
    common_lasso = record {
      sets = along_sets both_names h.stem h.cycle;
      cycles = word_cycles both both_names (HasNoRepeats-unified own other) both_below both_plain both_accepting both_start h;
    }

    pub common_accepted : AcceptsFrom start own A common_word × Accepts other B common_word
    common_accepted =
        (common_accepts A B own other differ graph buchi start common_word common_lasso.cycles).0
        (word_accepted both both_names (HasNoRepeats-unified own other) both_below both_plain both_accepting both_start h)

    -- and its letters hold no needless name
    pub common_needed : (n : Name) → Has (names_in common_word) n → IsPositive own (cubes_of A) n ⊎ IsPositive other (cubes_of B) n
    common_needed n m =
        let (k, g, l, p, c, positive, name) = along_cases both both_names both_start h n m in
        elim (literal_cases k g l p c) [
          | inl (e, q, t) ↦
              let small = graph.propositions (first_state A renamed k) e q l t in
              inl (e.cube, l, Has-cubes_of A (first_state A renamed k) e q, t, positive, slice_get-get_or own l.proposition [] small ∙ ap Some (sym (name ∙ first_names own other differ l.proposition small)))
          | inr (f, o, q, t, same) ↦
              let small = buchi.propositions (second_state A renamed k) f q o t in
              let here = name ∙ ap (λ (x : Literal). slice_index_or both_names x.proposition []) same ∙ second_names own other o.proposition small in
              inr (f.cube, o, Has-cubes_of B (second_state A renamed k) f q, t, sym (ap (λ (x : Literal). x.positive) same) ∙ positive, slice_get-get_or other o.proposition [] small ∙ ap Some (sym here))
        ]
