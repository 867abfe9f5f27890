-- The propositions of an automaton's cubes are those of the formula from which it was made.
use Rattle.std.proofs.Common.{◌≡◌, ℕ, suc, ◌+◌, ◌*◌, ◌<◌, Bool, true, false, cond, inl, inr, List, [], ◌∷◌, ◌++◌, map, length, refl, sym, ◌∙◌, subst, ◌||◌, ◌&&◌, Some}
use Rattle.std.specs.Prelude.{fold, slice_index_or, slice_get}
use Rattle.std.proofs.lemmas.Bool.{cases_lt}
use Rattle.std.proofs.lemmas.List.{get_or_past}
use Rattle.std.proofs.lemmas.Option.{slice_get_past, none-some}
use Rattle.ltl_spec.specs.Collections.Sets.{Has}
use Rattle.ltl_spec.specs.Semantics.Word.{Name}
use Rattle.ltl_spec.specs.Transitions.Cubes.{Literal, Cube}
use Rattle.ltl_spec.specs.Formulas.Formula.{Formula, Reading, Constant, Proposition, Unary, Binary, Not, Next, And, Or, Until, Release}
use Rattle.ltl_spec.proofs.Formulas.CanonicalLaws.{HasNames, IsNamed, named_within}
use Rattle.ltl_spec.specs.NormalForms.Normal.{Normal, Top, Bottom, Leaf, Next, And, Or, Until, Release, same}
use Rattle.ltl_spec.specs.NormalForms.NormalForm.{normal_form, is_eventually, is_always, simple_and, simple_or, simple_until, simple_release, simple_form, core, postorder, rows, is_elementary, elementary_rows}
use Rattle.ltl_spec.specs.Transitions.Pairs.{RowSet, Pair, join, empty_pair, later_pair, conj, pairs}
use Rattle.ltl_spec.specs.Transitions.RowTransitions.{Table, table_of, place, pairs_at, Transition, transitions}
use Rattle.ltl_spec.specs.Automata.Automaton.{Automaton, state_at}
use Rattle.ltl_spec.specs.Automata.Generalized.{same_row_set, row_net, root_set, IsGeneralized}
use Rattle.ltl_spec.specs.Construction.Merging.{merged_automaton}
use Rattle.ltl_spec.specs.Construction.Levels.{LevelState, LevelEdge, same_level_state, start_copy, level_edge, level_edges, level_net, level_automaton}
use Rattle.ltl_spec.specs.Formulas.Grammar.{Parses, Reads, of_constant, of_name, of_brackets, of_unary, of_tighter, of_left, of_right}
use Rattle.ltl_spec.specs.Formulas.Tokens.{Token}
use Rattle.ltl_spec.specs.Construction.Translation.{Options, buchi_automaton, IsTranslation}
use Rattle.ltl_spec.specs.Checking.Bounds.{HasPropositionsBelow, HasNamesBelow, IsBuchi}
use Rattle.ltl_spec.proofs.Collections.SetLaws.{append_cases, set_of_cases, union_cases, filter_cases}
use Rattle.ltl_spec.proofs.Collections.ListLaws.{Has-at, first_occurrences_cases}
use Rattle.ltl_spec.proofs.NormalForms.NormalLaws.{same_Decides}
use Rattle.ltl_spec.proofs.Collections.MemberLaws.{map_cases}
use Rattle.ltl_spec.proofs.Transitions.JoinLaws.{join_cases}
use Rattle.ltl_spec.proofs.Collections.Orders.{literal_linear, pair_linear, level_edge_linear}
use Rattle.ltl_spec.proofs.Transitions.TransitionLaws.{transition_cases}
use Rattle.ltl_spec.proofs.Construction.EdgeBounds.{moves_all, merged_all, renumbered_all}
use Rattle.ltl_spec.proofs.Construction.MergingRuns.{merged_closed}
use Rattle.ltl_spec.proofs.Construction.LevelRuns.{levels_closed}
use Rattle.ltl_spec.proofs.Construction.RenumberedRuns.{renumbered_closed}
use Rattle.ltl_spec.proofs.Semantics.GeneralizedLaws.{generalized_closed}
pub use Rattle.ltl_spec.specs.Checking.Bounds.{HasLeavesBelow}

module _ (n : ℕ) where
  -- formulas

  normal_below : (F : Formula) → HasPropositionsBelow n F → HasLeavesBelow n (normal_form true F) × HasLeavesBelow n (normal_form false F)
  normal_below (Constant true) h = (tt, tt)
  normal_below (Constant false) h = (tt, tt)
  normal_below (Proposition p) h = (h, h)
  normal_below (Unary Not a) h = let w = normal_below a h in search
  normal_below (Unary _ a) h = let w = normal_below a h in search
  normal_below (Binary And a b) h = let v = normal_below a h.0 in let w = normal_below b h.1 in search
  normal_below (Binary _ a b) h = let v = normal_below a h.0 in let w = normal_below b h.1 in search

  -- what holds of two outcomes holds of the choice
  chosen_below : (t : Bool) (a b : Normal) → HasLeavesBelow n a → HasLeavesBelow n b → HasLeavesBelow n (cond t a b)
  chosen_below true a b h k = h
  chosen_below false a b h k = k

  simple_and_below : (a b : Normal) → HasLeavesBelow n a → HasLeavesBelow n b → HasLeavesBelow n (simple_and a b)
  simple_and_below a b h k =
      chosen_below (same a Top) b _ k (chosen_below (same b Top) a _ h (chosen_below (same a Bottom || same b Bottom) Bottom _ tt (chosen_below (same a b) a (And a b) h (h, k))))

  simple_or_below : (a b : Normal) → HasLeavesBelow n a → HasLeavesBelow n b → HasLeavesBelow n (simple_or a b)
  simple_or_below a b h k =
      chosen_below (same a Bottom) b _ k (chosen_below (same b Bottom) a _ h (chosen_below (same a Top || same b Top) Top _ tt (chosen_below (same a b) a (Or a b) h (h, k))))

  simple_until_below : (a b : Normal) → HasLeavesBelow n a → HasLeavesBelow n b → HasLeavesBelow n (simple_until a b)
  simple_until_below a b h k =
      chosen_below (same b Top || same b Bottom) b _ k (chosen_below (same a Bottom || same a b) b _ k (chosen_below (same a Top && is_eventually b) b (Until a b) k (h, k)))

  simple_release_below : (a b : Normal) → HasLeavesBelow n a → HasLeavesBelow n b → HasLeavesBelow n (simple_release a b)
  simple_release_below a b h k =
      chosen_below (same b Top || same b Bottom) b _ k (chosen_below (same a Top || same a b) b _ k (chosen_below (same a Bottom && is_always b) b (Release a b) k (h, k)))

  simple_below : (F : Normal) → HasLeavesBelow n F → HasLeavesBelow n (simple_form F)
  simple_below Top h = tt
  simple_below Bottom h = tt
  simple_below (Leaf l) h = h
  simple_below (Next a) h = let k = simple_below a h in chosen_below (same (simple_form a) Top || same (simple_form a) Bottom) (simple_form a) (Next (simple_form a)) k k
  simple_below (And a b) h = simple_and_below (simple_form a) (simple_form b) (simple_below a h.0) (simple_below b h.1)
  simple_below (Or a b) h = simple_or_below (simple_form a) (simple_form b) (simple_below a h.0) (simple_below b h.1)
  simple_below (Until a b) h = simple_until_below (simple_form a) (simple_form b) (simple_below a h.0) (simple_below b h.1)
  simple_below (Release a b) h = simple_release_below (simple_form a) (simple_form b) (simple_below a h.0) (simple_below b h.1)

  -- what is translated has the formula's propositions
  pub core_below : (F : Formula) (negate rewrite : Bool) → HasPropositionsBelow n F → HasLeavesBelow n (core F negate rewrite)
  core_below F true true h = simple_below (normal_form false F) (normal_below F h).1
  core_below F true false h = (normal_below F h).1
  core_below F false true h = simple_below (normal_form true F) (normal_below F h).0
  core_below F false false h = (normal_below F h).0

  -- a part of one of two operands, or the whole
  of_two : (ys zs : List Normal) (F x : Normal) → Has (ys ++ zs ++ F ∷ []) x → HasLeavesBelow n F → (Has ys x → HasLeavesBelow n x) → (Has zs x → HasLeavesBelow n x) → HasLeavesBelow n x
  of_two ys zs F x m h f g = elim (append_cases (ys ++ zs) (F ∷ []) x m) [
    | inl k ↦ elim (append_cases ys zs x k) [ inl o ↦ f o | inr o ↦ g o ]
    | inr k ↦ elim k [ inl e ↦ subst (HasLeavesBelow n) (sym e) h | inr z ↦ absurd z ]
  ]

  -- so do the parts
  part_below : (F x : Normal) → HasLeavesBelow n F → Has (postorder F) x → HasLeavesBelow n x
  part_below Top x h m = elim m [ inl e ↦ subst (HasLeavesBelow n) (sym e) h | inr z ↦ absurd z ]
  part_below Bottom x h m = elim m [ inl e ↦ subst (HasLeavesBelow n) (sym e) h | inr z ↦ absurd z ]
  part_below (Leaf l) x h m = elim m [ inl e ↦ subst (HasLeavesBelow n) (sym e) h | inr z ↦ absurd z ]
  part_below (Next a) x h m = elim (append_cases (postorder a) (Next a ∷ []) x m) [ inl k ↦ part_below a x h k | inr k ↦ elim k [ inl e ↦ subst (HasLeavesBelow n) (sym e) h | inr z ↦ absurd z ] ]
  part_below (And a b) x h m = of_two (postorder a) (postorder b) (And a b) x m h (part_below a x h.0) (part_below b x h.1)
  part_below (Or a b) x h m = of_two (postorder a) (postorder b) (Or a b) x m h (part_below a x h.0) (part_below b x h.1)
  part_below (Until a b) x h m = of_two (postorder a) (postorder b) (Until a b) x m h (part_below a x h.0) (part_below b x h.1)
  part_below (Release a b) x h m = of_two (postorder a) (postorder b) (Release a b) x m h (part_below a x h.0) (part_below b x h.1)

  row_below : (F : Normal) → HasLeavesBelow n F → (i : ℕ) → HasLeavesBelow n (slice_index_or (elementary_rows F) i Bottom)
  row_below F h i = elim (cases_lt i (length (elementary_rows F))) [
    | inl l ↦
        let x = slice_index_or (elementary_rows F) i Bottom in
        let m = (filter_cases (λ a. is_elementary a || same a F) (rows F) x (Has-at (elementary_rows F) i Bottom l)).0 in
        part_below F x h (first_occurrences_cases same same_Decides (postorder F) x m)
    | inr l ↦ subst (HasLeavesBelow n) (sym (get_or_past (elementary_rows F) i Bottom l)) tt
  ]

  -- pairs and transitions

  -- the propositions of the cube are below n
  abbrev IsBelow : Cube → Type 0
  IsBelow c = (l : Literal) → Has c l → l.proposition < n

  abbrev AreBelow : List Pair → Type 0
  AreBelow ps = (p : Pair) → Has ps p → IsBelow p.cube

  nothing_below : IsBelow []
  nothing_below l h = absurd h

  one_below : (p : Pair) → IsBelow p.cube → AreBelow (p ∷ [])
  one_below p h q (inl e) = subst (λ (x : Pair). IsBelow x.cube) (sym e) h
  one_below p h q (inr z) = absurd z

  both_below : (ps qs : List Pair) → AreBelow ps → AreBelow qs → AreBelow (ps ++ qs)
  both_below ps qs h k r m = elim (append_cases ps qs r m) [ inl o ↦ h r o | inr o ↦ k r o ]

  join_below : (ps qs : List Pair) → AreBelow ps → AreBelow qs → AreBelow (join ps qs)
  join_below ps qs h k r m l o =
      let (p, q, a, b, e) = join_cases ps qs r m in
      elim (union_cases literal_linear p.cube q.cube l (subst (λ (x : Pair). Has x.cube l) e o)) [ inl c ↦ h p a l c | inr c ↦ k q b l c ]

  pairs_below : (place : Normal → ℕ) (F : Normal) → HasLeavesBelow n F → AreBelow (pairs place F)
  pairs_below place Top h = one_below empty_pair nothing_below
  pairs_below place Bottom h = λ p z. absurd z
  pairs_below place (Leaf l) h = one_below (record { cube = l ∷ []; targets = [] }) (λ m k. elim k [ inl e ↦ subst (λ (x : Literal). x.proposition < n) (sym e) h | inr z ↦ absurd z ])
  pairs_below place (Next a) h = λ p k. let (e, m, d) = map_cases (λ (x : RowSet). record { cube = []; targets = x }) (conj place a) p k in subst (λ (x : Pair). IsBelow x.cube) (sym d) nothing_below
  pairs_below place (And a b) h = join_below (pairs place a) (pairs place b) (pairs_below place a h.0) (pairs_below place b h.1)
  pairs_below place (Or a b) h = both_below (pairs place a) (pairs place b) (pairs_below place a h.0) (pairs_below place b h.1)
  pairs_below place (Until a b) h =
      both_below (pairs place b) (join (pairs place a) (later_pair (place (Until a b)) ∷ [])) (pairs_below place b h.1)
      (join_below (pairs place a) (later_pair (place (Until a b)) ∷ []) (pairs_below place a h.0) (one_below (later_pair (place (Until a b))) nothing_below))
  pairs_below place (Release a b) h =
      join_below (pairs place b) (pairs place a ++ later_pair (place (Release a b)) ∷ []) (pairs_below place b h.1)
      (both_below (pairs place a) (later_pair (place (Release a b)) ∷ []) (pairs_below place a h.0) (one_below (later_pair (place (Release a b))) nothing_below))

  module _ (core : Normal) (low : HasLeavesBelow n core) where
    abbrev t : Table
    t = table_of core

    folded_below : (e : RowSet) (ps : List Pair) → AreBelow ps → AreBelow (fold (λ qs i. join qs (pairs_at t i)) ps e)
    folded_below [] ps h = h
    folded_below (i ∷ e) ps h = folded_below e (join ps (pairs_at t i)) (join_below ps (pairs_at t i) h (pairs_below (place t) (slice_index_or (elementary_rows core) i Bottom) (row_below core low i)))

    transition_below : (keep : Bool) (e : RowSet) (u : Transition) → Has (transitions t keep e) u → IsBelow u.cube
    transition_below keep e u h =
        let (p, k, d) = transition_cases t keep e u h in
        let m = set_of_cases pair_linear (fold (λ qs i. join qs (pairs_at t i)) (empty_pair ∷ []) e) p k in
        subst (λ (x : Transition). IsBelow x.cube) (sym d) (folded_below e (empty_pair ∷ []) (one_below empty_pair nothing_below) p m)

  -- automata

  pub generalized_below : (core : Normal) → HasLeavesBelow n core → (keep : Bool) (A : Automaton) → IsGeneralized core keep A → HasNamesBelow n A
  generalized_below core low keep A (m, c, e) =
      subst (HasNamesBelow n) (sym e) (moves_all (λ v. IsBelow v.cube) same_row_set false (row_net core keep) (λ s u h _. transition_below core low keep s u h) (root_set core keep) (length (table_of core).untils) m)

  module _ (A : Automaton) (low : HasNamesBelow n A) where
    levels_below : HasNamesBelow n (level_automaton A)
    levels_below = moves_all (λ v. IsBelow v.cube) same_level_state true (level_net A) each start_copy 0 (length A.states * (A.sets + 1))
      where
        each : (c : LevelState) (e : LevelEdge) → Has (level_edges A c) e → (k : ℕ) → IsBelow e.cube
        each c e h k =
            let (z, o, q) = map_cases (level_edge A c.level) (state_at A c.state).edges e (set_of_cases level_edge_linear (map (level_edge A c.level) (state_at A c.state).edges) e h) in
            subst (λ (v : LevelEdge). IsBelow v.cube) (sym q) (low c.state z o)

  -- the automaton of a normal form is one to search with
  pub translation_is_buchi : (N : Normal) (o : Options) (B : Automaton) → IsTranslation N o B → HasLeavesBelow n N → IsBuchi n B
  translation_is_buchi N o B (A, g, e) low = subst (IsBuchi n) (sym e) made
    where
      made : IsBuchi n (buchi_automaton o A)
      made =
          let closed = generalized_closed N o.keep_implied A g in
          let small_closed = merged_closed A o.keep_implied o.keep_equal closed in
          let leveled_closed = levels_closed (merged_automaton o.keep_implied o.keep_equal A) small_closed in
          let smaller_closed = merged_closed (level_automaton (merged_automaton o.keep_implied o.keep_equal A)) o.keep_implied o.keep_equal leveled_closed in
          let last = renumbered_closed (merged_automaton o.keep_implied o.keep_equal (level_automaton (merged_automaton o.keep_implied o.keep_equal A))) smaller_closed in
          let below = generalized_below N low o.keep_implied A g in
          let small_below = merged_all (λ v. IsBelow v.cube) (λ f x m. m) A below o.keep_implied o.keep_equal in
          let leveled_below = levels_below (merged_automaton o.keep_implied o.keep_equal A) small_below in
          let smaller_below = merged_all (λ v. IsBelow v.cube) (λ f x m. m) (level_automaton (merged_automaton o.keep_implied o.keep_equal A)) leveled_below o.keep_implied o.keep_equal in
          record {
            sets = refl;
            begins = last.begins;
            inside = last.inside;
            propositions = renumbered_all (λ v. IsBelow v.cube) (λ f x m. m) (merged_automaton o.keep_implied o.keep_equal (level_automaton (merged_automaton o.keep_implied o.keep_equal A))) smaller_below;
          }

-- the propositions of a formula as it was read have names
within_names : (names : List Name) (p : ℕ) (m : Name) → slice_get names p ≡ Some m → p < length names
within_names names p m e = elim (cases_lt p (length names)) [
  | inl l ↦ l
  | inr l ↦ absurd (none-some m (sym (slice_get_past names p l) ∙ e))
]

pub parsed_below : {names : List Name} (r : ℕ) (ts : List Token) (F : Formula) → Parses names r ts F → HasPropositionsBelow (length names) F
parsed_below r ts F (of_constant b) = tt
parsed_below {names} r ts F (of_name m p e) = within_names names p m e
parsed_below r us F (of_brackets ts us' F' e d) = parsed_below 5 ts F' d
parsed_below r us F (of_unary op ts F' d) = parsed_below 0 ts F' d
parsed_below r us F (of_tighter r' ts F' d) = parsed_below r' ts F' d
parsed_below r us F (of_left op r' xs ys us' a b i g e d f) = (parsed_below (suc r') xs a d, parsed_below r' ys b f)
parsed_below r us F (of_right op r' xs ys us' a b i g e d f) = (parsed_below r' xs a d, parsed_below (suc r') ys b f)

-- so are the propositions of a formula whose names are those of its propositions
named_propositions : (names : List Name) (F : Formula) → HasNames names F → HasPropositionsBelow (length names) F
named_propositions names (Constant b) h = tt
named_propositions names (Proposition p) h = h
named_propositions names (Unary op a) h = named_propositions names a h
named_propositions names (Binary op a b) h = (named_propositions names a h.0, named_propositions names b h.1)

pub named_below : (R : Reading) → IsNamed R → HasPropositionsBelow (length R.names) R.formula
named_below R d = named_propositions R.names R.formula (named_within R d)

-- so the automaton of a formula that was read, or of its negation, has no propositions but those that the formula names
pub translation_named : (tokens : List Token) (R : Reading) → Reads tokens R → (negate rewrite : Bool) (N : Normal) → N ≡ core R.formula negate rewrite → (o : Options) (B : Automaton) → IsTranslation N o B → HasNamesBelow (length R.names) B
translation_named tokens R reads negate rewrite N e o B t =
    let low = core_below (length R.names) R.formula negate rewrite (parsed_below 5 tokens R.formula reads.1) in
    (translation_is_buchi (length R.names) N o B t (subst (HasLeavesBelow (length R.names)) (sym e) low)).propositions
