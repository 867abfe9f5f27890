-- A graph accepts some word exactly when it has an accepting walk, and then it accepts the word along that walk.
use Rattle.std.proofs.Common.{◌≡◌, ℕ, suc, ◌+◌, ◌<◌, ◌≤◌, Bool, true, false, cond, not, ltb, lt-ltb, inl, List, [], ◌∷◌, ◌++◌, map, length, refl, sym, ◌∙◌, ap, subst, arith, append_assoc, length-append}
use Rattle.std.specs.Prelude.{IsTrue, slice_index_or, filter}
use Rattle.std.proofs.lemmas.List.{append-nil}
use Rattle.std.proofs.lemmas.Bool.{le-ltb}
use Rattle.ltl_spec.specs.Collections.Sets.{Has, has}
use Rattle.ltl_spec.specs.Collections.Lists.{HasNoRepeats}
use Rattle.ltl_spec.specs.Transitions.Cubes.{Literal, Cube, literal_cmp, opposite, is_contradictory, allows}
use Rattle.ltl_spec.specs.Semantics.Word.{Name, name_cmp, Letter, Lasso, letter_at, next, is_true_at}
use Rattle.ltl_spec.specs.Automata.Automaton.{Automaton, Edge, IsWalk, AcceptedFrom, AcceptsFrom}
use Rattle.ltl_spec.specs.Checking.Search.{IsPath, HasAcceptingWalk, letter_of, lasso_along}
use Rattle.ltl_spec.specs.Checking.Bounds.{HasNamesBelow, HasNoContradictions, AcceptsEverywhere}
use Rattle.ltl_spec.proofs.Collections.SetLaws.{set_of_cases, Has-set_of, has_Decides, filter_cases, Has-filter}
use Rattle.ltl_spec.proofs.Collections.Orders.{name_linear, literal_linear}
use Rattle.ltl_spec.proofs.Collections.MemberLaws.{Has-map, map_cases, map_length, any_true}
use Rattle.ltl_spec.proofs.Transitions.CubeLaws.{Agrees, allows_Decides}
use Rattle.ltl_spec.proofs.Collections.CaseLaws.{false_is_true}
use Rattle.ltl_spec.proofs.Formulas.NameLaws.{same_place}

-- the letter of a cube

-- the names of the positive literals are in the letter
Has-letter : (names : List Name) (c : Cube) (l : Literal) → Has c l → l.positive ≡ true → Has (letter_of names c) (slice_index_or names l.proposition [])
Has-letter names c l h e =
    Has-set_of name_linear (map (λ (m : Literal). slice_index_or names m.proposition []) (filter (λ m. m.positive) c)) (slice_index_or names l.proposition [])
    (Has-map (λ (m : Literal). slice_index_or names m.proposition []) (filter (λ m. m.positive) c) l (Has-filter (λ (m : Literal). m.positive) c l h e))

-- and no others
pub letter_cases : (names : List Name) (c : Cube) (n : Name) → Has (letter_of names c) n → (l : Literal) × Has c l × (l.positive ≡ true) × (n ≡ slice_index_or names l.proposition [])
letter_cases names c n h =
    let (l, k, e) =
    map_cases (λ (m : Literal). slice_index_or names m.proposition []) (filter (λ m. m.positive) c) n
    (set_of_cases name_linear (map (λ (m : Literal). slice_index_or names m.proposition []) (filter (λ m. m.positive) c)) n h) in
    let w = filter_cases (λ (m : Literal). m.positive) c l k in
    (l, w.0, w.1, e)

-- so the cube allows its letter
pub letter_agrees : (names : List Name) → HasNoRepeats names → (c : Cube) → ((l : Literal) → Has c l → l.proposition < length names) → is_contradictory c ≡ false
    → Agrees (λ p. has name_cmp (slice_index_or names p []) (letter_of names c)) c
letter_agrees names d c below plain l h = at l.positive refl
  where
    at : (b : Bool) → l.positive ≡ b → has name_cmp (slice_index_or names l.proposition []) (letter_of names c) ≡ l.positive
    at true e = (has_Decides name_linear (slice_index_or names l.proposition []) (letter_of names c)).1 (Has-letter names c l h e) ∙ sym e
    at false e = absent (has name_cmp (slice_index_or names l.proposition []) (letter_of names c)) refl ∙ sym e
      where
        absent : (t : Bool) → has name_cmp (slice_index_or names l.proposition []) (letter_of names c) ≡ t → t ≡ false
        absent false q = refl
        absent true q =
            let (m, k, s, n) = letter_cases names c (slice_index_or names l.proposition []) ((has_Decides name_linear (slice_index_or names l.proposition []) (letter_of names c)).0 q) in
            let p = same_place names d l.proposition m.proposition (below l h) (below m k) n in
            let signs : m.positive ≡ not l.positive = s ∙ sym (ap not e) in
            let other : m ≡ opposite l = λ i. record { proposition = sym p i; positive = signs i } in
            false_is_true (sym plain ∙ any_true (λ x. has literal_cmp (opposite x) c) c l h ((has_Decides literal_linear (opposite l) c).1 (subst (Has c) other k)))

-- from walks on a word to paths

module _ (P : Automaton) (holds : ℕ → ℕ → Bool) (step : ℕ → ℕ) where
  path_of_walk : (es : List Edge) (s i t j : ℕ) → IsWalk P holds step s i es t j → IsPath P s es t
  path_of_walk [] s i t j h = h.0
  path_of_walk (e ∷ es) s i t j h = (h.0, path_of_walk es e.target (step i) t j h.2)

  -- an accepted word leaves an accepting walk
  pub walk_of_accepted : (start : ℕ) → AcceptedFrom start P holds step → HasAcceptingWalk P start
  walk_of_accepted start a = record {
    state = a.state;
    stem = a.stem;
    cycle = a.cycle;
    arrives = path_of_walk a.stem start 0 a.state a.position a.arrives;
    cycles = record {
      closes = path_of_walk a.cycle a.state a.position a.state a.position a.cycles.closes;
      moves = a.cycles.moves;
      marks = a.cycles.marks;
    };
  }

-- and back

-- what stands behind a list
index_behind : {K : Type 0} (xs : List K) (y : K) (ys : List K) (d : K) → slice_index_or (xs ++ y ∷ ys) (length xs) d ≡ y
index_behind [] y ys d = refl
index_behind (x ∷ xs) y ys d = index_behind xs y ys d

module _ (P : Automaton) (names : List Name) (differ : HasNoRepeats names) (below : HasNamesBelow (length names) P) (plain : HasNoContradictions P) (w : Lasso) where
  abbrev letter : Edge → Letter
  letter e = letter_of names e.cube

  abbrev size : ℕ
  size = length (w.stem ++ w.cycle)

  -- the position behind the last one is the first of the cycle
  abbrev wrapped : ℕ → ℕ
  wrapped i = cond (ltb i size) i (length w.stem)

  wrapped_inside : (i : ℕ) → i < size → wrapped i ≡ i
  wrapped_inside i l = ap (λ t. cond t i (length w.stem)) (lt-ltb i size l)

  -- a path walks along the word where its letters stand there
  walks : (es : List Edge) (before after : List Letter) (s t : ℕ) → (w.stem ++ w.cycle) ≡ (before ++ (map letter es ++ after)) → IsPath P s es t
      → IsWalk P (is_true_at names w) (next w) s (wrapped (length before)) es t (wrapped (length before + length es))
  walks [] before after s t e h = let z : length before ≡ length before + 0 = omega arith in (h, ap wrapped z)
  walks (x ∷ es) before after s t e h =
      let n = length before in
      let long : size ≡ n + length (letter x ∷ (map letter es ++ after)) = ap length e ∙ length-append before (letter x ∷ (map letter es ++ after)) in
      let inside : wrapped n ≡ n = wrapped_inside n (omega (arith, long)) in
      let here : letter_at w (wrapped n) ≡ letter x = ap (letter_at w) inside ∙ ap (λ l. slice_index_or l n []) e ∙ index_behind before (letter x) (map letter es ++ after) [] in
      let agrees = letter_agrees names differ x.cube (below s x h.0) (plain s x h.0) in
      let allowed = (allows_Decides (λ p. has name_cmp (slice_index_or names p []) (letter x)) x.cube).1 agrees in
      let rest = walks es (before ++ letter x ∷ []) after x.target t (e ∙ sym (append_assoc before (letter x ∷ []) (map letter es ++ after))) h.1 in
      let one : length (before ++ letter x ∷ []) ≡ n + 1 = length-append before (letter x ∷ []) in
      let from : wrapped (length (before ++ letter x ∷ [])) ≡ next w (wrapped n) = ap wrapped one ∙ sym (ap (next w) inside) in
      let all : length (before ++ letter x ∷ []) + length es ≡ n + suc (length es) = omega (arith, one) in (
        h.0,
        subst (λ a. IsTrue (allows (λ p. has name_cmp (slice_index_or names p []) a) x.cube)) (sym here) allowed,
        subst (λ j. IsWalk P (is_true_at names w) (next w) x.target (next w (wrapped n)) es t (wrapped j)) all
            (subst (λ i. IsWalk P (is_true_at names w) (next w) x.target i es t (wrapped (length (before ++ letter x ∷ []) + length es))) from rest),
      )

-- a list that isn't empty has an element
some_edge : (es : List Edge) → (es ≡ [] → ⊥) → (e : Edge) × Has es e
some_edge [] n = absurd (n refl)
some_edge (e ∷ es) n = (e, inl refl)

not_short : (es : List Edge) → (es ≡ [] → ⊥) → 0 < length es
not_short [] n = absurd (n refl)
not_short (e ∷ es) n = omega arith

module _ (P : Automaton) (names : List Name) (differ : HasNoRepeats names) (below : HasNamesBelow (length names) P) (plain : HasNoContradictions P) (all : AcceptsEverywhere P) (start : ℕ) (h : HasAcceptingWalk P start) where
  -- the word along the walk
  abbrev pub word : Lasso
  word = lasso_along names h.stem h.cycle

  pub word_cycles : 0 < length word.cycle
  word_cycles = let e = map_length (λ (x : Edge). letter_of names x.cube) h.cycle in let l = not_short h.cycle h.cycles.moves in omega (arith, e, l)

  -- is accepted
  pub word_accepted : AcceptsFrom start names P word
  word_accepted = record {
    state = h.state;
    position = length word.stem;
    stem = h.stem;
    cycle = h.cycle;
    arrives =
        subst (λ j. IsWalk P (is_true_at names word) (next word) start 0 h.stem h.state j) stem_arrives
        (subst (λ i. IsWalk P (is_true_at names word) (next word) start i h.stem h.state (wrap (0 + length h.stem))) begins
        (walks P names differ below plain word h.stem [] word.cycle start h.state refl h.arrives));
    cycles = record {
      closes =
          subst (λ j. IsWalk P (is_true_at names word) (next word) h.state (length word.stem) h.cycle h.state j) cycle_ends
          (subst (λ i. IsWalk P (is_true_at names word) (next word) h.state i h.cycle h.state (wrap (length word.stem + length h.cycle))) stem_ends
          (walks P names differ below plain word h.cycle word.stem [] h.state h.state (ap (λ l. word.stem ++ l) (sym (append-nil word.cycle))) h.cycles.closes));
      moves = h.cycles.moves;
      accepts = let w = some_edge h.cycle h.cycles.moves in (w.0, w.1, all w.0.target);
      marks = h.cycles.marks;
    };
  }
    where
      total : ℕ
      total = length (word.stem ++ word.cycle)

      wrap : ℕ → ℕ
      wrap i = cond (ltb i total) i (length word.stem)

      long : total ≡ length word.stem + length word.cycle
      long = length-append word.stem word.cycle

      within : (i : ℕ) → i < total → wrap i ≡ i
      within i l = ap (λ t. cond t i (length word.stem)) (lt-ltb i total l)

      begins : wrap 0 ≡ 0
      begins = let c = word_cycles in within 0 (omega (arith, long, c))

      stem_ends : wrap (length word.stem) ≡ length word.stem
      stem_ends = let c = word_cycles in within (length word.stem) (omega (arith, long, c))

      stem_arrives : wrap (0 + length h.stem) ≡ length word.stem
      stem_arrives =
          let e = map_length (λ (x : Edge). letter_of names x.cube) h.stem in
          let same : 0 + length h.stem ≡ length word.stem = omega (arith, e) in
          ap wrap same ∙ stem_ends

      cycle_ends : wrap (length word.stem + length h.cycle) ≡ length word.stem
      cycle_ends =
          let e = map_length (λ (x : Edge). letter_of names x.cube) h.cycle in
          let over : total ≤ length word.stem + length h.cycle = omega (arith, long, e) in
          ap (λ t. cond t (length word.stem + length h.cycle) (length word.stem)) (le-ltb (length word.stem + length h.cycle) total over)
