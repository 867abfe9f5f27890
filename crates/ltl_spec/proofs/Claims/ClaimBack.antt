-- A printed claim is read back, as a program that accepts the words of its automaton.
use Rattle.std.proofs.Common.{◌≡◌, ℕ, zero, suc, ◌+◌, ◌-◌, ◌^◌, ◌<◌, ◌≤◌, Bool, true, false, cond, not, ◌&&◌, inl, inr, List, [], ◌∷◌, ◌++◌, length, map, Option, Some, None, nat_eq, ◌==◌, refl, sym, ◌∙◌, ap, subst, arith, append_assoc, length-append}
use Rattle.std.specs.Prelude.{option_and_then, unwrap_or, ◌⊎◌, if◌then◌else◌, flat_map, filter, slice_index_or, option_map, decimal, IsTrue, ◌↔◌, codes}
use Rattle.std.specs.List.{list_all, list_any, range_with_len, starts_with}
use Rattle.std.specs.Cmp.Lexicographic.{pointwise}
use Rattle.std.proofs.lemmas.Bool.{cases_lt, false≢true}
use Rattle.std.proofs.lemmas.Option.{same_Some}
use Rattle.std.proofs.lemmas.Bool.Decides.{nat_tests, Decides-eqb}
use Rattle.std.proofs.lemmas.List.{append-nil, map_push, get_or-map}
use Rattle.std.proofs.lemmas.List.FromFn.{length-range_with_len, get_or-range_with_len, length-map-range_with_len, get_or-map-range_with_len}
use Rattle.std.proofs.lemmas.List.Sums.{passes_at_first}
use Rattle.ltl_spec.specs.Collections.Sets.{Has}
use Rattle.ltl_spec.specs.Collections.Lists.{HasNoRepeats}
use Rattle.ltl_spec.specs.Semantics.Word.{Name, Lasso, next, is_true_at}
use Rattle.ltl_spec.specs.Formulas.Formula.{Reading}
use Rattle.ltl_spec.specs.Formulas.Tokens.{same_name}
use Rattle.ltl_spec.specs.Formulas.Names.{is_proposition}
use Rattle.ltl_spec.specs.Transitions.Cubes.{allows}
use Rattle.ltl_spec.specs.Automata.Automaton.{Automaton, State, Edge, state_at, Accepts}
use Rattle.ltl_spec.specs.Automata.ClaimText.{is_skip_state, skip_state, numbers, label_of, block, never_text}
use Rattle.ltl_spec.specs.Construction.Merging.{same_edge}
use Rattle.ltl_spec.specs.Checking.Bounds.{IsBuchi}
use Rattle.ltl_spec.specs.Claims.ClaimTokens.{ClaimToken, Never, OpenBrace, CloseBrace, is_promela_word, claim_tokens}
use Rattle.ltl_spec.specs.Claims.ClaimProgram.{Go, Nothing, Statement, ClaimLabel, Program}
use Rattle.ltl_spec.specs.Claims.ClaimMachine.{no_statement, statement_at, is_label, Sofar, taken_all, at_first, ended, claim_program}
use Rattle.ltl_spec.specs.Claims.ClaimMeaning.{program_names, end, labelled, follow, leads, option_edges, accepts, statement_state, end_state, claim_automaton, ClaimAccepts}
use Rattle.ltl_spec.proofs.Collections.CaseLaws.{left_true, right_true, here_or_above}
use Rattle.ltl_spec.proofs.Collections.ListLaws.{Has-first_occurrences, Has-at, HasNoRepeats-push, HasNoRepeats-map, index_append, index_done, place_below, at_place}
use Rattle.ltl_spec.specs.Collections.Lists.{place_of}
use Rattle.ltl_spec.proofs.Collections.MemberLaws.{Has-flat_map, Has-map, map_cases, map_length, flat_map_cases, all_Decides}
use Rattle.ltl_spec.proofs.Collections.FoundLaws.{map_same}
use Rattle.ltl_spec.proofs.Collections.SetLaws.{append_cases, append_left, append_right, filter_cases, Has-filter, set_of_cases, Has-set_of}
use Rattle.ltl_spec.proofs.Collections.Orders.{nat_linear}
use Rattle.ltl_spec.proofs.Construction.RoundLaws.{same_edge_Decides}
use Rattle.ltl_spec.proofs.Hoa.GeneralizedBack.{range_below, range_differs}
use Rattle.ltl_spec.proofs.Formulas.NameLaws.{same_name_Decides}
use Rattle.ltl_spec.proofs.Semantics.RunLaws.{accepts_from_by_run, accepts_by_run}
use Rattle.ltl_spec.proofs.Claims.ClaimSpelling.{Spelled, IsClaimName, proposition_name, spelled_both}
use Rattle.ltl_spec.proofs.Claims.ClaimPrinted.{Way, Ways, Skips, Block, labels_from, block_gotos, IsFresh, ways_block, last_blocks, claim_blocks, label_cases, label_there, block_tokens, block_names, body_options, block_statement, statements_from, statements_length, start_of, program_of, AreNamed, AreReadable, claim_read, name_at}
use Rattle.ltl_spec.proofs.Claims.ClaimTexts.{edges_to, targets, way_to, ways_of, block_at, first_states, last_states, label_accepts, label_no_end, label_exact, IsWritable, skip_spelled, never_tokens}
use Rattle.ltl_spec.proofs.Claims.ClaimRuns.{Follows, Follower, followed_run}
use Rattle.ltl_spec.proofs.Claims.ClaimEdges.{renumbered, way_edge, ways_cases, ways_there, way_names, allows_same, one_labelled, label_found_at}

-- ---- lists

filter_differs : (p : ℕ → Bool) (xs : List ℕ) → HasNoRepeats xs → HasNoRepeats (filter p xs)
filter_differs p [] n = tt
filter_differs p (x ∷ xs) n = go (p x) (filter_differs p xs n.1)
  where
    go : (c : Bool) → HasNoRepeats (filter p xs) → HasNoRepeats (if c then x ∷ filter p xs else filter p xs)
    go true m = ((λ h. n.0 (filter_cases p xs x h).0), m)
    go false m = m

-- no element of the first part stands behind it
before_differs : (done : List ℕ) (k : ℕ) (ks : List ℕ) → HasNoRepeats (done ++ k ∷ ks) → ¬ (Has done k)
before_differs [] k ks n h = h
before_differs (j ∷ js) k ks n (inl e) = n.0 (append_right js (k ∷ ks) j (inl (sym e)))
before_differs (j ∷ js) k ks n (inr h) = before_differs js k ks n.1 h

map_both : {X Y : Type 0} (f : X → Y) (xs ys : List X) → map f (xs ++ ys) ≡ map f xs ++ map f ys
map_both f [] ys = refl
map_both f (x ∷ xs) ys = ap (λ zs. f x ∷ zs) (map_both f xs ys)

-- the options of a block's statement
options_at : (names : List Name) (a : ℕ) (bs : List Block) (i : ℕ) (d : Block) → i < length bs → (slice_index_or (statements_from names a bs) i no_statement).options ≡ body_options names (slice_index_or bs i d).1
options_at names a [] i d l = absurd (omega arith)
options_at names a (b ∷ []) zero d l = refl
options_at names a (b ∷ []) (suc i) d l = absurd (omega arith)
options_at names a (b ∷ c ∷ bs) zero d l = refl
options_at names a (b ∷ c ∷ bs) (suc i) d l = options_at names (a + 1) (c ∷ bs) i d (omega arith)

last_at : (names : List Name) (a : ℕ) (bs : List Block) (y : Block) → slice_index_or (statements_from names a (bs ++ y ∷ [])) (length bs) no_statement ≡ block_statement names y Nothing
last_at names a [] y = refl
last_at names a (b ∷ []) y = refl
last_at names a (b ∷ c ∷ bs) y = last_at names (a + 1) (c ∷ bs) y

-- the numbers that equal one
equal_below : (a m s : ℕ) → s < a → filter (λ k. k == s) (range_with_len a m) ≡ []
equal_below a zero s l = refl
equal_below a (suc m) s l =
    let other : (a == s) ≡ false = grind (arith, nat_tests, l) in
    ap (λ c. cond c (a ∷ filter (λ k. k == s) (range_with_len (a + 1) m)) (filter (λ k. k == s) (range_with_len (a + 1) m))) other ∙ equal_below (a + 1) m s (omega arith)

equal_inside : (a m s : ℕ) → a ≤ s → s < a + m → filter (λ k. k == s) (range_with_len a m) ≡ s ∷ []
equal_inside a zero s l u = absurd (omega arith)
equal_inside a (suc m) s l u = elim (here_or_above a s l) [
  | inl e ↦
      ap (λ c. cond c (a ∷ filter (λ k. k == s) (range_with_len (a + 1) m)) (filter (λ k. k == s) (range_with_len (a + 1) m))) ((Decides-eqb a s).1 e)
      ∙ ap (λ ks. a ∷ ks) (equal_below (a + 1) m s (omega arith)) ∙ ap (λ k. k ∷ []) e
  | inr b ↦
      let other : (a == s) ≡ false = grind (arith, nat_tests, b) in
      ap (λ c. cond c (a ∷ filter (λ k. k == s) (range_with_len (a + 1) m)) (filter (λ k. k == s) (range_with_len (a + 1) m))) other ∙ equal_inside (a + 1) m s b (omega arith)
]

equal_past : (a m s : ℕ) → a + m ≤ s → filter (λ k. k == s) (range_with_len a m) ≡ []
equal_past a zero s l = refl
equal_past a (suc m) s l =
    let other : (a == s) ≡ false = grind (arith, nat_tests, l) in
    ap (λ c. cond c (a ∷ filter (λ k. k == s) (range_with_len (a + 1) m)) (filter (λ k. k == s) (range_with_len (a + 1) m))) other ∙ equal_past (a + 1) m s (omega arith)

-- ---- the skipping state

module _ (B : Automaton) where
  -- the state that is written last, if there is one
  pub record IsLast (z : ℕ) : Type 0 where
    pub is : z ≡ skip_state B
    pub inside : z < length B.states
    pub later : (z == 0) ≡ false
    pub accepting : (state_at B z).accepting ≡ true
    pub edges : (state_at B z).edges ≡ record { cube = []; target = z; marks = [] } ∷ []

  abbrev pub AreLast : Option ℕ → Type 0
  AreLast None = length B.states ≤ skip_state B
  AreLast (Some z) = IsLast z

  one_edge : (es : List Edge) (e : Edge) → pointwise same_edge es (e ∷ []) ≡ true → es ≡ e ∷ []
  one_edge [] e q = absurd (false≢true q)
  one_edge (f ∷ []) e q = ap (λ x. x ∷ []) ((same_edge_Decides f e).0 (left_true (same_edge f e) _ q))
  one_edge (f ∷ g ∷ gs) e q = absurd (false≢true (right_true (same_edge f e) _ q))

  found_last : skip_state B < length B.states → IsLast (skip_state B)
  found_last l =
      let long : length (numbers B) ≡ length B.states = length-range_with_len 0 (length B.states) in
      let number : slice_index_or (numbers B) (skip_state B) 0 ≡ skip_state B = get_or-range_with_len 0 (length B.states) (skip_state B) 0 l ∙ plus (skip_state B) in
      let passes : is_skip_state B (skip_state B) ≡ true = subst (λ k. is_skip_state B k ≡ true) number (passes_at_first (is_skip_state B) (numbers B) 0 (omega arith)) in
      let s = state_at B (skip_state B) in
      let front = left_true (not (skip_state B == 0) && s.accepting) _ passes in
      record {
        is = refl;
        inside = l;
        later = other (skip_state B == 0) (left_true (not (skip_state B == 0)) _ front);
        accepting = right_true (not (skip_state B == 0)) _ front;
        edges = one_edge s.edges (record { cube = []; target = skip_state B; marks = [] }) (right_true (not (skip_state B == 0) && s.accepting) _ passes);
      }
    where
      plus : (n : ℕ) → 0 + n ≡ n
      plus n = omega arith

      other : (c : Bool) → not c ≡ true → c ≡ false
      other true q = sym q
      other false q = refl

  pub some_last : (z : Option ℕ) × AreLast z
  some_last = elim (cases_lt (skip_state B) (length B.states)) [ inl l ↦ (Some (skip_state B), found_last l) | inr l ↦ (None, l) ]

  abbrev pub listed : Option ℕ → List ℕ
  listed None = []
  listed (Some z) = z ∷ []

  last_listed : (z : Option ℕ) → AreLast z → last_states B ≡ listed z
  last_listed None l = equal_past 0 (length B.states) (skip_state B) (omega arith)
  last_listed (Some z) l =
      let inside : skip_state B < 0 + length B.states = let e = l.is in let m = l.inside in omega arith in
      equal_inside 0 (length B.states) (skip_state B) (omega arith) inside ∙ ap (λ k. k ∷ []) (sym l.is)

-- ---- a Büchi automaton whose propositions have names that may stand in a claim

module _ (B : Automaton) (R : Reading) (good : IsBuchi (length R.names) B) (few : length B.states < 2 ^ 64)
    (proper : list_all is_proposition R.names ≡ true) (free : list_all (λ n. not (is_promela_word n)) R.names ≡ true) where
  abbrev count : ℕ
  count = length B.states

  abbrev firsts : List ℕ
  firsts = first_states B

  negation : (c : Bool) → not c ≡ true → c ≡ false
  negation true q = sym q
  negation false q = refl

  proper_at : (p : ℕ) → p < length R.names → is_proposition (name_at R.names p) ≡ true
  proper_at p l = (all_Decides is_proposition R.names).0 proper (name_at R.names p) (Has-at R.names p [] l)

  spoken_at : (p : ℕ) → p < length R.names → IsClaimName (name_at R.names p)
  spoken_at p l =
      proposition_name (name_at R.names p) (proper_at p l)
      (negation (is_promela_word (name_at R.names p)) ((all_Decides (λ n. not (is_promela_word n)) R.names).0 free (name_at R.names p) (Has-at R.names p [] l)))

  target_edge : (s t : ℕ) → Has (targets B (state_at B s)) t → (e : Edge) × Has (state_at B s).edges e × (t ≡ e.target)
  target_edge s t h = map_cases (λ e. e.target) (state_at B s).edges t (set_of_cases nat_linear (map (λ e. e.target) (state_at B s).edges) t h)

  target_inside : (s t : ℕ) → Has (targets B (state_at B s)) t → t < count
  target_inside s t h = let (e, m, q) = target_edge s t h in subst (λ u. u < count) (sym q) (good.inside s e m)

  writable : (s : ℕ) → IsWritable B R.names (state_at B s)
  writable s = record {
    spoken = λ e h l m. spoken_at l.proposition (good.propositions s e h l m);
    targets = λ t h. let b = target_inside s t h in omega (arith, b, few);
  }

  ways_named : (s : ℕ) (w : Way) → Has (ways_of B (state_at B s)) w → AreNamed R.names w.0
  ways_named s w h =
      let (t, m, q) = map_cases (way_to B (state_at B s)) (targets B (state_at B s)) w h in
      let (e, k, r) = target_edge s t m in
      subst (λ (v : Way). AreNamed R.names v.0) (sym q)
      (go (edges_to B (state_at B s) t) (λ f i. (filter_cases (λ g. g.target == t) (state_at B s).edges f i).0) (e, Has-filter (λ g. g.target == t) (state_at B s).edges e k ((Decides-eqb e.target t).1 (sym r))))
    where
      go : (es : List Edge) → ((e : Edge) → Has es e → Has (state_at B s).edges e) → (e : Edge) × Has es e → AreNamed R.names (map (λ e. e.cube) es)
      go [] i m = absurd m.1
      go (e ∷ es) i m = λ c j l n. let (f, k, q) = map_cases (λ (g : Edge). g.cube) (e ∷ es) c j in proper_at l.proposition (good.propositions s f (i f k) l (subst (λ d. Has d l) q n))

  number_below : (k : ℕ) → Has (numbers B) k → k < count
  number_below k h = let r = (range_below 0 count k h).1 in omega (arith, r)

  number_there : (k : ℕ) → k < count → Has (numbers B) k
  number_there k l =
      let long : length (numbers B) ≡ count = length-range_with_len 0 count in
      let same : slice_index_or (numbers B) k 0 ≡ k = get_or-range_with_len 0 count k 0 l ∙ (let e : 0 + k ≡ k = omega arith in e) in
      subst (Has (numbers B)) same (Has-at (numbers B) k 0 (omega arith))

  first_cases : (k : ℕ) → Has firsts k → (k < count) × ((k == skip_state B) ≡ false)
  first_cases k h = let (m, q) = filter_cases (λ j. not (j == skip_state B)) (numbers B) k h in (number_below k m, negation (k == skip_state B) q)

  small : (k : ℕ) → k < count → k < 2 ^ 64
  small k l = omega (arith, l, few)

  firsts_differ : HasNoRepeats firsts
  firsts_differ = filter_differs (λ k. not (k == skip_state B)) (numbers B) (range_differs 0 count)

  fresh : (done : List ℕ) (k : ℕ) → ¬ (Has done k) → ((j : ℕ) → Has done j → j < count) → k < count → IsFresh (label_of B k) (map ways_block (map (block_at B) done))
  fresh done k n below l = (go (is_label (label_of B k) (labels_from 0 (map ways_block (map (block_at B) done)))) refl, label_no_end (k == 0) (k == skip_state B) (state_at B k).accepting (decimal k))
    where
      go : (c : Bool) → is_label (label_of B k) (labels_from 0 (map ways_block (map (block_at B) done))) ≡ c → is_label (label_of B k) (labels_from 0 (map ways_block (map (block_at B) done))) ≡ false
      go false e = e
      go true e =
          let (b, h, q) = label_cases 0 (map ways_block (map (block_at B) done)) (label_of B k) e in
          let (x, i, r) = map_cases ways_block (map (block_at B) done) b h in
          let (j, m, s) = map_cases (block_at B) done x i in
          let same : label_of B k ≡ label_of B j = q ∙ ap (λ (d : Block). d.0) r ∙ ap (λ (y : Name × List Way). y.0) s in
          absurd (n (subst (Has done) (sym (label_exact B k j (small k l) (small j (below j m)) same)) m))

  readable : (ks done : List ℕ) → HasNoRepeats (done ++ ks) → ((k : ℕ) → Has (done ++ ks) k → k < count) → AreReadable R.names (map ways_block (map (block_at B) done)) (map (block_at B) ks)
  readable [] done n below = tt
  readable (k ∷ ks) done n below = (
    fresh done k (before_differs done k ks n) (λ j h. below j (append_left done (k ∷ ks) j h)) (below k (append_right done (k ∷ ks) k (inl refl))),
    ways_named k,
    subst (λ bs. AreReadable R.names bs (map (block_at B) ks)) (ap (map ways_block) (map_push (block_at B) done k) ∙ map_push ways_block (map (block_at B) done) (block_at B k))
        (readable ks (done ++ k ∷ []) (subst HasNoRepeats (sym (append_assoc done (k ∷ []) ks)) n) (λ j h. below j (subst (λ js. Has js j) (append_assoc done (k ∷ []) ks) h))),
  )

  module _ (z : Option ℕ) (last : AreLast B z) where
    abbrev blocks : List Block
    blocks = claim_blocks (map (block_at B) firsts) (option_map (label_of B) z)

    abbrev pub printed_program : Program
    printed_program = program_of R.names blocks

    abbrev states : List ℕ
    states = firsts ++ listed B z

    last_inside : (y : Option ℕ) → AreLast B y → (k : ℕ) → Has (listed B y) k → (k < count) × (k ≡ skip_state B)
    last_inside None l k h = absurd h
    last_inside (Some y) l k (inl e) = (subst (λ j. j < count) (sym e) l.inside, e ∙ l.is)
    last_inside (Some y) l k (inr h) = absurd h

    last_fresh : (y : Option ℕ) → AreLast B y → (k : ℕ) → Has (listed B y) k → ¬ (Has firsts k)
    last_fresh y l k h f = false≢true (sym (first_cases k f).1 ∙ (Decides-eqb k (skip_state B)).1 (last_inside y l k h).1)

    states_below : (k : ℕ) → Has states k → k < count
    states_below k h = elim (append_cases firsts (listed B z) k h) [ inl m ↦ (first_cases k m).0 | inr m ↦ (last_inside z last k m).0 ]

    states_differ : HasNoRepeats states
    states_differ = go z last
      where
        go : (y : Option ℕ) → AreLast B y → HasNoRepeats (firsts ++ listed B y)
        go None l = subst HasNoRepeats (sym (append-nil firsts)) firsts_differ
        go (Some y) l = HasNoRepeats-push firsts y firsts_differ (last_fresh (Some y) l y (inl refl))

    states_there : (k : ℕ) → k < count → Has states k
    states_there k l = go (k == skip_state B) refl
      where
        go : (c : Bool) → (k == skip_state B) ≡ c → Has states k
        go false e = append_left firsts (listed B z) k (Has-filter (λ j. not (j == skip_state B)) (numbers B) k (number_there k l) (ap not e))
        go true e = append_right firsts (listed B z) k (subst (λ js. Has js k) (last_listed B z last) (Has-filter (λ j. j == skip_state B) (numbers B) k (number_there k l) e))

    label_names : map (λ b. b.0) blocks ≡ map (label_of B) states
    label_names =
        map_both (λ (b : Block). b.0) (map ways_block (map (block_at B) firsts)) (last_blocks (option_map (label_of B) z))
        ∙ ap (λ ns. ns ++ map (λ b. b.0) (last_blocks (option_map (label_of B) z))) (map_same ways_block (λ b. b.0) (map (block_at B) firsts) ∙ map_same (block_at B) (λ x. x.0) firsts)
        ∙ ap (λ ns. map (label_of B) firsts ++ ns) (go z)
        ∙ sym (map_both (label_of B) firsts (listed B z))
      where
        go : (y : Option ℕ) → map (λ b. b.0) (last_blocks (option_map (label_of B) y)) ≡ map (label_of B) (listed B y)
        go None = refl
        go (Some y) = refl

    labels_differ : HasNoRepeats (map (λ b. b.0) blocks)
    labels_differ =
        subst HasNoRepeats (sym label_names)
        (HasNoRepeats-map (label_of B) states (λ j k h i e. label_exact B j k (small j (states_below j h)) (small k (states_below k i)) e) states_differ)

    -- each `goto` has its label
    block_there : (k : ℕ) → Has states k → is_label (label_of B k) (labels_from 0 blocks) ≡ true
    block_there k h =
        let (b, m, q) = map_cases (λ (b : Block). b.0) blocks (label_of B k) (subst (λ ns. Has ns (label_of B k)) (sym label_names) (Has-map (label_of B) states k h)) in
        ap (λ l. is_label l (labels_from 0 blocks)) q ∙ label_there 0 blocks b m

    goto_cases : (l : Name) → Has (flat_map block_gotos blocks) l → (k : ℕ) × (k < count) × (l ≡ label_of B k)
    goto_cases l h =
        let (b, m, g) = flat_map_cases block_gotos blocks l h in
        elim (append_cases (map ways_block (map (block_at B) firsts)) (last_blocks (option_map (label_of B) z)) b m) [
          | inl i ↦
              let (x, j, q) = map_cases ways_block (map (block_at B) firsts) b i in
              let (k, f, r) = map_cases (block_at B) firsts x j in
              let (w, v, s) = map_cases (λ (y : Way). y.1) (ways_of B (state_at B k)) l (subst (λ (d : Block). Has (block_gotos d) l) (q ∙ ap ways_block r) g) in
              let (t, u, p) = map_cases (way_to B (state_at B k)) (targets B (state_at B k)) w v in
              (t, target_inside k t u, s ∙ ap (λ (y : Way). y.1) p)
          | inr i ↦ absurd (none z b i g)
        ]
      where
        none : (y : Option ℕ) (b : Block) → Has (last_blocks (option_map (label_of B) y)) b → Has (block_gotos b) l → ⊥
        none None b i g = i
        none (Some y) b (inl e) g = subst (λ (d : Block). Has (block_gotos d) l) e g
        none (Some y) b (inr i) g = i

    all_labelled : list_all (λ l. is_label l (labels_from 0 blocks)) (flat_map block_gotos blocks) ≡ true
    all_labelled =
        (all_Decides (λ l. is_label l (labels_from 0 blocks)) (flat_map block_gotos blocks)).1
        (λ l h. let (k, b, q) = goto_cases l h in ap (λ m. is_label m (labels_from 0 blocks)) q ∙ block_there k (states_there k b))

    -- ---- reading

    first_zero : (y : Option ℕ) → AreLast B y → (0 == skip_state B) ≡ false
    first_zero None l = let b = good.begins in grind (arith, nat_tests, l, b)
    first_zero (Some y) l = go (0 == skip_state B) refl
      where
        go : (c : Bool) → (0 == skip_state B) ≡ c → (0 == skip_state B) ≡ false
        go false e = e
        go true e = absurd (false≢true (sym l.later ∙ (Decides-eqb y 0).1 (l.is ∙ sym ((Decides-eqb 0 (skip_state B)).0 e))))

    abbrev behind_first : List ℕ
    behind_first = filter (λ k. not (k == skip_state B)) (range_with_len 1 (count - 1))

    firsts_begin : firsts ≡ 0 ∷ behind_first
    firsts_begin =
        let some : count ≡ suc (count - 1) = let b = good.begins in omega (arith, b) in
        ap (λ m. filter (λ k. not (k == skip_state B)) (range_with_len 0 m)) some
        ∙ ap (λ c. cond (not c) (0 ∷ behind_first) behind_first) (first_zero z last)

    last_spelled : (y : Option ℕ) → AreLast B y → Spelled (flat_map (block B R.names) (listed B y)) (flat_map (block_tokens R.names) (last_blocks (option_map (label_of B) y)))
    last_spelled None l = λ rest. refl
    last_spelled (Some y) l =
        spelled_both (block B R.names y) [] (block_tokens R.names (label_of B y, Skips)) [] (skip_spelled B R.names y (small y l.inside) ((Decides-eqb y (skip_state B)).1 l.is)) (λ rest. refl)

    abbrev ending : List ClaimToken
    ending = flat_map (block_tokens R.names) (last_blocks (option_map (label_of B) z)) ++ CloseBrace ∷ []

    text_tokens : claim_tokens (never_text B R) ≡ Never ∷ OpenBrace ∷ flat_map (block_tokens R.names) (map ways_block (map (block_at B) firsts)) ++ ending
    text_tokens =
        never_tokens B R proper (λ k h. (small k (number_below k h), writable k)) (option_map (label_of B) z)
        (subst (λ ks. Spelled (flat_map (block B R.names) ks) (flat_map (block_tokens R.names) (last_blocks (option_map (label_of B) z)))) (sym (last_listed B z last)) (last_spelled z last))
        ∙ ap (λ bs. Never ∷ OpenBrace ∷ flat_map (block_tokens R.names) bs ++ ending) (sym (map_same (block_at B) ways_block firsts))

    abbrev Reads : List ℕ → Type 0
    Reads ks =
        option_and_then (λ (s : Sofar). ended s.symbols s.built.program) (taken_all (Some at_first) (Never ∷ OpenBrace ∷ flat_map (block_tokens R.names) (map ways_block (map (block_at B) ks)) ++ ending))
        ≡ ended [] (program_of R.names (claim_blocks (map (block_at B) ks) (option_map (label_of B) z)))

    label_fresh : (y : Option ℕ) → AreLast B y → (l : Name) → option_map (label_of B) y ≡ Some l → IsFresh l (map ways_block (map (block_at B) firsts))
    label_fresh None a l e = cc
    label_fresh (Some y) a l e =
        let same : label_of B y ≡ l = same_Some (label_of B y) l e in
        subst (λ m. IsFresh m (map ways_block (map (block_at B) firsts))) same (fresh firsts y (last_fresh (Some y) a y (inl refl)) (λ j h. (first_cases j h).0) a.inside)

    tokens_read : Reads firsts
    tokens_read =
        subst Reads (sym firsts_begin)
        (ap (option_and_then (λ (s : Sofar). ended s.symbols s.built.program))
        (claim_read R.names (block_at B 0) (map (block_at B) behind_first) (option_map (label_of B) z)
        (subst (λ ks. AreReadable R.names [] (map (block_at B) ks)) firsts_begin (readable firsts [] firsts_differ (λ k h. (first_cases k h).0)))
        (subst (λ ks. (l : Name) → option_map (label_of B) z ≡ Some l → IsFresh l (map ways_block (map (block_at B) ks))) firsts_begin (label_fresh z last))))

    pub program_read : claim_program (never_text B R) ≡ Some printed_program
    program_read =
        ap (λ ts. option_and_then (λ (s : Sofar). ended s.symbols s.built.program) (taken_all (Some at_first) ts)) text_tokens ∙ tokens_read
        ∙ ap (λ c. if c then Some printed_program else None) all_labelled

    -- ---- states

    abbrev pub automaton : Automaton
    automaton = claim_automaton printed_program

    abbrev no_state : State
    no_state = record { accepting = true; edges = [] }

    abbrev no_block : Block
    no_block = ([], Skips)

    abbrev no_ways : Name × List Way
    no_ways = ([], [])

    abbrev last_length : Option ℕ → ℕ
    last_length None = 0
    last_length (Some y) = 1

    end_is : end printed_program ≡ length firsts + last_length z
    end_is =
        statements_length R.names 0 blocks
        ∙ length-append (map ways_block (map (block_at B) firsts)) (last_blocks (option_map (label_of B) z))
        ∙ ap (λ m. m + length (last_blocks (option_map (label_of B) z))) (map_length ways_block (map (block_at B) firsts) ∙ map_length (block_at B) firsts)
        ∙ ap (λ m. length firsts + m) (go z)
      where
        go : (y : Option ℕ) → length (last_blocks (option_map (label_of B) y)) ≡ last_length y
        go None = refl
        go (Some y) = refl

    length_blocks : length blocks ≡ end printed_program
    length_blocks = sym (statements_length R.names 0 blocks)

    -- the block of a state
    first_block : (i : ℕ) → i < length firsts → slice_index_or blocks i no_block ≡ ways_block (block_at B (slice_index_or firsts i 0))
    first_block i l =
        let one : length (map (block_at B) firsts) ≡ length firsts = map_length (block_at B) firsts in
        let two : length (map ways_block (map (block_at B) firsts)) ≡ length (map (block_at B) firsts) = map_length ways_block (map (block_at B) firsts) in
        index_append (map ways_block (map (block_at B) firsts)) (last_blocks (option_map (label_of B) z)) i no_block (omega arith)
        ∙ get_or-map ways_block (map (block_at B) firsts) i no_ways no_block (omega arith)
        ∙ ap ways_block (get_or-map (block_at B) firsts i 0 no_ways l)

    last_block : (y : ℕ) → z ≡ Some y → slice_index_or blocks (length firsts) no_block ≡ (label_of B y, Skips)
    last_block y e =
        let long : length (map ways_block (map (block_at B) firsts)) ≡ length firsts = map_length ways_block (map (block_at B) firsts) ∙ map_length (block_at B) firsts in
        ap (λ j. slice_index_or blocks j no_block) (sym long)
        ∙ ap (λ (x : Option ℕ). slice_index_or (claim_blocks (map (block_at B) firsts) (option_map (label_of B) x)) (length (map ways_block (map (block_at B) firsts))) no_block) e
        ∙ index_done (map ways_block (map (block_at B) firsts)) [] (label_of B y, Skips) no_block

    options_are : (i : ℕ) → i < end printed_program → (statement_at printed_program i).options ≡ body_options R.names (slice_index_or blocks i no_block).1
    options_are i l = let e = length_blocks in options_at R.names 0 blocks i no_block (omega arith)

    last_statement : (y : ℕ) → z ≡ Some y → statement_at printed_program (length firsts) ≡ block_statement R.names (label_of B y, Skips) Nothing
    last_statement y e =
        let long : length (map ways_block (map (block_at B) firsts)) ≡ length firsts = map_length ways_block (map (block_at B) firsts) ∙ map_length (block_at B) firsts in
        ap (λ j. slice_index_or printed_program.statements j no_statement) (sym long)
        ∙ ap (λ (x : Option ℕ). slice_index_or (statements_from R.names 0 (claim_blocks (map (block_at B) firsts) (option_map (label_of B) x))) (length (map ways_block (map (block_at B) firsts))) no_statement) e
        ∙ last_at R.names 0 (map ways_block (map (block_at B) firsts)) (label_of B y, Skips)

    state_is : (i : ℕ) → i < end printed_program → state_at automaton i ≡ statement_state printed_program i
    state_is i l =
        let long : length (map (statement_state printed_program) (range_with_len 0 (end printed_program))) ≡ end printed_program = length-map-range_with_len (statement_state printed_program) 0 (end printed_program) in
        index_append (map (statement_state printed_program) (range_with_len 0 (end printed_program))) (end_state printed_program ∷ []) i no_state (omega arith)
        ∙ get_or-map-range_with_len (statement_state printed_program) 0 (end printed_program) i i no_state l (omega arith)

    state_end : state_at automaton (end printed_program) ≡ end_state printed_program
    state_end =
        let long : length (map (statement_state printed_program) (range_with_len 0 (end printed_program))) ≡ end printed_program = length-map-range_with_len (statement_state printed_program) 0 (end printed_program) in
        ap (λ j. slice_index_or automaton.states j no_state) (sym long) ∙ index_done (map (statement_state printed_program) (range_with_len 0 (end printed_program))) [] (end_state printed_program) no_state

    accepts_is : (i : ℕ) → i < end printed_program → accepts printed_program i ≡ starts_with nat_eq (slice_index_or blocks i no_block).0 (codes "accept")
    accepts_is i l =
        let e = length_blocks in
        let on : i ≡ 0 + i = omega arith in
        ap (λ j. list_any (λ l. nat_eq l.statement j && starts_with nat_eq l.name (codes "accept")) (labels_from 0 blocks)) on
        ∙ one_labelled (λ l. starts_with nat_eq l (codes "accept")) 0 i blocks no_block (omega arith)

    -- where labels lead

    goal_is : (i : ℕ) (t : ℕ) → i < length blocks → (slice_index_or blocks i no_block).0 ≡ label_of B t → labelled printed_program (label_of B t) ≡ i
    goal_is i t l e =
        let zero_more : 0 + i ≡ i = omega arith in
        ap (labelled printed_program) (sym e)
        ∙ ap (λ (o : Option ClaimLabel). unwrap_or (option_map (λ x. x.statement) o) (end printed_program)) (label_found_at 0 i blocks no_block labels_differ l) ∙ zero_more

    -- ---- a state of the automaton follows one of the claim, and the other way round

    abbrev Tail : Option ℕ → ℕ → ℕ → Type 0
    Tail None i s = ⊥
    Tail (Some y) i s = (s ≡ y) × ((i ≡ length firsts) ⊎ (i ≡ length firsts + 1))

    abbrev First : ℕ → ℕ → Type 0
    First i s = (i < length firsts) × (slice_index_or firsts i 0 ≡ s)

    abbrev IsAt : ℕ → ℕ → Type 0
    IsAt i s = First i s ⊎ Tail z i s

    first_inside : (i : ℕ) → i < length firsts → i < end printed_program
    first_inside i l = let e = end_is in omega arith

    block_length : (i : ℕ) → i < end printed_program → i < length blocks
    block_length i l = let e = length_blocks in omega arith

    -- each state is at the place of its block
    place_is : (t : ℕ) → t < count → IsAt (labelled printed_program (label_of B t)) t
    place_is t l = elim (append_cases firsts (listed B z) t (states_there t l)) [
      | inl h ↦
          let i = place_of ◌==◌ t firsts in
          let b = place_below ◌==◌ Decides-eqb t firsts h in
          let same = at_place ◌==◌ Decides-eqb t firsts 0 h in
          let g = goal_is i t (block_length i (first_inside i b)) (ap (λ (x : Block). x.0) (first_block i b) ∙ ap (label_of B) same) in
          inl (subst (λ j. j < length firsts) (sym g) b, ap (λ j. slice_index_or firsts j 0) g ∙ same)
      | inr h ↦ inr (go z refl h)
    ]
      where
        go : (y : Option ℕ) → z ≡ y → Has (listed B y) t → Tail y (labelled printed_program (label_of B t)) t
        go None e h = h
        go (Some y) e (inl q) =
            let few_more : length firsts < end printed_program = let n = end_is in let m = ap last_length e in omega arith in
            (q, inl (goal_is (length firsts) t (block_length (length firsts) few_more) (ap (λ (x : Block). x.0) (last_block y e) ∙ ap (label_of B) (sym q))))
        go (Some y) e (inr h) = absurd h

    start_is : IsAt 0 0
    start_is = inl (let e = ap length firsts_begin in omega arith, ap (λ ks. slice_index_or ks 0 0) firsts_begin)

    first_accepting : (i s : ℕ) → First i s → (state_at automaton i).accepting ≡ (state_at B s).accepting
    first_accepting i s (l, e) =
        let m = first_inside i l in
        let in_firsts : Has firsts s = subst (Has firsts) e (Has-at firsts i 0 l) in
        ap (λ (x : State). x.accepting) (state_is i m) ∙ accepts_is i m
        ∙ ap (λ (b : Block). starts_with nat_eq b.0 (codes "accept")) (first_block i l ∙ ap (λ k. ways_block (block_at B k)) e)
        ∙ label_accepts (s == 0) (s == skip_state B) (state_at B s).accepting (decimal s) (λ q. absurd (false≢true (sym (first_cases s in_firsts).1 ∙ q)))

    first_edges : (i s : ℕ) → First i s → (state_at automaton i).edges ≡ flat_map (option_edges printed_program i) (body_options R.names (Ways (ways_of B (state_at B s))))
    first_edges i s (l, e) =
        let m = first_inside i l in
        ap (λ (x : State). x.edges) (state_is i m)
        ∙ ap (flat_map (option_edges printed_program i)) (options_are i m ∙ ap (λ (b : Block). body_options R.names b.1) (first_block i l ∙ ap (λ k. ways_block (block_at B k)) e))

    first_there : (i s : ℕ) → First i s → Has blocks (ways_block (block_at B s))
    first_there i s (l, e) =
        append_left (map ways_block (map (block_at B) firsts)) (last_blocks (option_map (label_of B) z)) (ways_block (block_at B s))
        (Has-map ways_block (map (block_at B) firsts) (block_at B s) (Has-map (block_at B) firsts s (subst (Has firsts) e (Has-at firsts i 0 l))))

    -- the edge behind the last block, and at the closing brace
    abbrev last_edge : Edge
    last_edge = record { cube = []; target = length firsts + 1; marks = [] }

    abbrev tail_state : State
    tail_state = record { accepting = true; edges = last_edge ∷ [] }

    tail_is : (y : Option ℕ) → z ≡ y → AreLast B y → (i s : ℕ) → Tail y i s → state_at automaton i ≡ tail_state
    tail_is None q a i s t = absurd t
    tail_is (Some y) q a i s (e, inl f) =
        let few_more : length firsts < end printed_program = let n = end_is in let m = ap last_length q in omega arith in
        let accepting : accepts printed_program (length firsts) ≡ true =
        accepts_is (length firsts) few_more ∙ ap (λ (b : Block). starts_with nat_eq b.0 (codes "accept")) (last_block y q)
        ∙ label_accepts (y == 0) (y == skip_state B) (state_at B y).accepting (decimal y) (λ _. a.accepting) ∙ a.accepting in
        let ends : end printed_program ≡ length firsts + 1 = end_is ∙ ap (λ m. length firsts + m) (ap last_length q) in
        let st = last_statement y q in
        let behind : leads printed_program Nothing (Some (length firsts)) ≡ end printed_program =
        ap (λ (t : Statement). if t.loops then length firsts else follow printed_program (end printed_program) t.next t.around) st in
        let edges : flat_map (option_edges printed_program (length firsts)) (statement_at printed_program (length firsts)).options ≡ last_edge ∷ [] =
        ap (λ (t : Statement). flat_map (option_edges printed_program (length firsts)) t.options) st ∙ ap (λ n. record { cube = []; target = n; marks = [] } ∷ []) (behind ∙ ends) in
        ap (state_at automaton) f ∙ state_is (length firsts) few_more ∙ (λ k. record { accepting = accepting k; edges = edges k })
    tail_is (Some y) q a i s (e, inr f) =
        let ends : end printed_program ≡ length firsts + 1 = end_is ∙ ap (λ m. length firsts + m) (ap last_length q) in
        ap (state_at automaton) (f ∙ sym ends) ∙ state_end ∙ ap (λ n. record { accepting = true; edges = record { cube = []; target = n; marks = [] } ∷ [] }) ends

    tail_loop : (y : Option ℕ) → AreLast B y → (i s : ℕ) → Tail y i s → ((state_at B s).accepting ≡ true) × ((state_at B s).edges ≡ record { cube = []; target = s; marks = [] } ∷ [])
    tail_loop None a i s t = absurd t
    tail_loop (Some y) a i s (e, f) = subst (λ k. ((state_at B k).accepting ≡ true) × ((state_at B k).edges ≡ record { cube = []; target = k; marks = [] } ∷ [])) (sym e) (a.accepting, a.edges)

    tail_goes : (y : Option ℕ) → (i s : ℕ) → Tail y i s → Tail y (length firsts + 1) s
    tail_goes None i s t = t
    tail_goes (Some y) i s t = (t.0, inr refl)

    module _ (w : Lasso) where
      abbrev claimed : ℕ → ℕ → Bool
      claimed = is_true_at (program_names printed_program) w

      abbrev given : ℕ → ℕ → Bool
      given = is_true_at R.names w

      -- an edge of a state that isn't the skipping one, and the edge of its block
      edge_way : (s : ℕ) (e : Edge) → Has (state_at B s).edges e → Has (ways_of B (state_at B s)) (way_to B (state_at B s) e.target)
      edge_way s e h = Has-map (way_to B (state_at B s)) (targets B (state_at B s)) e.target (Has-set_of nat_linear (map (λ f. f.target) (state_at B s).edges) e.target (Has-map (λ f. f.target) (state_at B s).edges e h))

      edge_cube : (s : ℕ) (e : Edge) → Has (state_at B s).edges e → Has (way_to B (state_at B s) e.target).0 e.cube
      edge_cube s e h = Has-map (λ f. f.cube) (edges_to B (state_at B s) e.target) e (Has-filter (λ f. f.target == e.target) (state_at B s).edges e h ((Decides-eqb e.target e.target).1 refl))

      same_allowed : (i s j : ℕ) (e : Edge) → First i s → Has (state_at B s).edges e → allows (claimed j) (map (renumbered R.names (program_names printed_program)) e.cube) ≡ allows (given j) e.cube
      same_allowed i s j e f h =
          allows_same R.names (program_names printed_program) w j e.cube
          (λ l m. Has-first_occurrences same_name same_name_Decides printed_program.names (name_at R.names l.proposition)
          (Has-flat_map (block_names R.names) blocks (ways_block (block_at B s)) (name_at R.names l.proposition) (first_there i s f)
          (way_names R.names (ways_of B (state_at B s)) (way_to B (state_at B s) e.target) e.cube l (edge_way s e h) (edge_cube s e h) m)))

      -- an edge of a block comes from an edge
      edge_from : (i s : ℕ) → First i s → (x : Edge) → Has (state_at automaton i).edges x
          → (e : Edge) × Has (state_at B s).edges e × (x ≡ way_edge R.names printed_program (way_to B (state_at B s) e.target) e.cube)
      edge_from i s f x h =
          let (v, m, (c, k, q)) = ways_cases R.names printed_program i (ways_of B (state_at B s)) x (subst (λ es. Has es x) (first_edges i s f) h) in
          let (t, n, r) = map_cases (way_to B (state_at B s)) (targets B (state_at B s)) v m in
          let (e, o, p) = map_cases (λ (g : Edge). g.cube) (edges_to B (state_at B s) t) c (subst (λ (u : Way). Has u.0 c) r k) in
          let (a, b) = filter_cases (λ g. g.target == t) (state_at B s).edges e o in
          let same : e.target ≡ t = (Decides-eqb e.target t).0 b in
          (e, a, q ∙ ap (λ (u : Way). way_edge R.names printed_program u c) r ∙ ap (way_edge R.names printed_program (way_to B (state_at B s) t)) p ∙ ap (λ u. way_edge R.names printed_program (way_to B (state_at B s) u) e.cube) (sym same))

      only : (es : List Edge) (x e : Edge) → es ≡ x ∷ [] → Has es e → e ≡ x
      only es x e q h = elim (subst (λ xs. Has xs e) q h) [ inl r ↦ r | inr n ↦ absurd n ]

      forth : Follows automaton B claimed given IsAt
      forth = record { accepts = accepting; edges = edges }
        where
          accepting : (i s : ℕ) → IsAt i s → IsTrue (state_at automaton i).accepting → IsTrue (state_at B s).accepting
          accepting i s (inl f) a = sym (first_accepting i s f) ∙ a
          accepting i s (inr t) a = (tail_loop z last i s t).0

          edges : (i s j : ℕ) (x : Edge) → IsAt i s → Has (state_at automaton i).edges x → IsTrue (allows (claimed j) x.cube) → Follower automaton B claimed given IsAt s j x
          edges i s j x (inl f) h a =
              let (e, m, q) = edge_from i s f x h in (
                e,
                m,
                sym (same_allowed i s j e f m) ∙ subst (λ (y : Edge). IsTrue (allows (claimed j) y.cube)) q a,
                subst (λ (y : Edge). IsAt y.target e.target) (sym q) (place_is e.target (good.inside s e m)),
              )
          edges i s j x (inr t) h a =
              let q = only (state_at automaton i).edges last_edge x (ap (λ (y : State). y.edges) (tail_is z refl last i s t)) h in (
                record { cube = []; target = s; marks = [] },
                subst (λ es. Has es (record { cube = []; target = s; marks = [] })) (sym (tail_loop z last i s t).1) (inl refl),
                refl,
                subst (λ (y : Edge). IsAt y.target s) (sym q) (inr (tail_goes z i s t)),
              )

      back : Follows B automaton given claimed (λ s i. IsAt i s)
      back = record { accepts = accepting; edges = edges }
        where
          accepting : (s i : ℕ) → IsAt i s → IsTrue (state_at B s).accepting → IsTrue (state_at automaton i).accepting
          accepting s i (inl f) a = first_accepting i s f ∙ a
          accepting s i (inr t) a = ap (λ (y : State). y.accepting) (tail_is z refl last i s t)

          edges : (s i j : ℕ) (e : Edge) → IsAt i s → Has (state_at B s).edges e → IsTrue (allows (given j) e.cube) → Follower B automaton given claimed (λ s i. IsAt i s) i j e
          edges s i j e (inl f) h a = (
            way_edge R.names printed_program (way_to B (state_at B s) e.target) e.cube,
            subst (λ es. Has es (way_edge R.names printed_program (way_to B (state_at B s) e.target) e.cube)) (sym (first_edges i s f))
                (ways_there R.names printed_program i (ways_of B (state_at B s)) (way_to B (state_at B s) e.target) e.cube (edge_way s e h) (edge_cube s e h)),
            same_allowed i s j e f h ∙ a,
            place_is e.target (good.inside s e h),
          )
          edges s i j e (inr t) h a =
              let q = only (state_at B s).edges (record { cube = []; target = s; marks = [] }) e (tail_loop z last i s t).1 h in (
                last_edge,
                subst (λ (y : State). Has y.edges last_edge) (sym (tail_is z refl last i s t)) (inl refl),
                refl,
                subst (λ (y : Edge). IsAt (length firsts + 1) y.target) (sym q) (inr (tail_goes z i s t)),
              )

      -- the program accepts the words of the automaton
      abbrev begin : ℕ
      begin = leads printed_program printed_program.start None

      begin_is : IsAt begin 0
      begin_is =
          let starts : printed_program.start ≡ Go 0 = ap (λ ks. start_of R.names (claim_blocks (map (block_at B) ks) (option_map (label_of B) z))) firsts_begin in
          let zero_is : begin ≡ 0 = ap (λ k. leads printed_program k None) starts in
          subst (λ k. IsAt k 0) (sym zero_is) start_is

      program_accepts : 0 < length w.cycle → ClaimAccepts printed_program w ↔ Accepts R.names B w
      program_accepts cycles = (
        λ a. (accepts_by_run R.names B w cycles).1
            (followed_run automaton B claimed given IsAt (next w) begin 0 forth begin_is ((accepts_from_by_run begin (program_names printed_program) automaton w cycles).0 a) good.sets),
        λ a. (accepts_from_by_run begin (program_names printed_program) automaton w cycles).1
            (followed_run B automaton given claimed (λ s i. IsAt i s) (next w) 0 begin back begin_is ((accepts_by_run R.names B w cycles).0 a) refl),
      )

  -- the printed claim is read, as a program that accepts the words of the automaton
  pub printed_claim : (P : Program) × (claim_program (never_text B R) ≡ Some P) × ((w : Lasso) → 0 < length w.cycle → ClaimAccepts P w ↔ Accepts R.names B w)
  printed_claim =
      let (z, last) = some_last B in
      (printed_program z last, program_read z last, program_accepts z last)
