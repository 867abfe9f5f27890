-- The edges of the program that a printed claim reads as.
use Rattle.std.proofs.Common.{◌≡◌, ℕ, zero, suc, ◌+◌, ◌<◌, Bool, true, false, cond, ◌&&◌, ◌||◌, inl, inr, List, [], ◌∷◌, ◌++◌, length, map, Some, nat_eq, refl, sym, ◌∙◌, ap, subst, arith, append_assoc}
use Rattle.std.specs.Prelude.{if◌then◌else◌, flat_map, find, slice_index_or}
use Rattle.std.specs.Bool.{beq}
use Rattle.std.specs.List.{list_any}
use Rattle.std.proofs.lemmas.List.{append-nil}
use Rattle.ltl_spec.specs.Collections.Sets.{Has, has}
use Rattle.ltl_spec.specs.Collections.Lists.{HasNoRepeats, place_of}
use Rattle.ltl_spec.specs.Semantics.Word.{Name, Lasso, letter_at, name_cmp, is_true_at}
use Rattle.ltl_spec.specs.Formulas.Tokens.{same_name}
use Rattle.ltl_spec.specs.Transitions.Cubes.{Literal, Cube, allows}
use Rattle.ltl_spec.specs.Automata.Automaton.{Edge}
use Rattle.ltl_spec.specs.Claims.ClaimProgram.{Guard, Named, Not, And, Or, Program}
use Rattle.ltl_spec.specs.Claims.ClaimMeaning.{program_names, cubes_of_two, guard_cubes, labelled, move_edges, option_edges}
use Rattle.ltl_spec.proofs.Collections.CaseLaws.{nat_eq_same, nat_eq_other}
use Rattle.ltl_spec.proofs.Collections.ListLaws.{Has-at, at_place}
use Rattle.ltl_spec.proofs.Collections.MemberLaws.{Has-map, map_cases, Has-flat_map, flat_map_cases}
use Rattle.ltl_spec.proofs.Formulas.NameLaws.{same_name_Decides, same_self, same_exact}
use Rattle.ltl_spec.proofs.Claims.ClaimPrinted.{name_at, literal_guard, product_guard, cube_guard, sum_guard, cubes_guard, cube_names, cubes_names, Way, way_option, Ways, Block, body_options, body_names, labels_from}

-- ---- cubes of guards

module _ (names others : List Name) where
  -- the literal, its name numbered among others
  abbrev pub renumbered : Literal → Literal
  renumbered l = record { proposition = place_of same_name (name_at names l.proposition) others; positive = l.positive }

  literal_cubes : (l : Literal) → guard_cubes others true (literal_guard names l) ≡ (renumbered l ∷ []) ∷ []
  literal_cubes l = go l.positive
    where
      go : (b : Bool) → guard_cubes others true (if b then Named (name_at names l.proposition) else Not (Named (name_at names l.proposition)))
          ≡ (record { proposition = place_of same_name (name_at names l.proposition) others; positive = b } ∷ []) ∷ []
      go true = refl
      go false = refl

  product_cubes : (ls : Cube) (g : Guard) (c : Cube) → guard_cubes others true g ≡ c ∷ [] → guard_cubes others true (product_guard names g ls) ≡ (c ++ map renumbered ls) ∷ []
  product_cubes [] g c e = e ∙ ap (λ d. d ∷ []) (sym (append-nil c))
  product_cubes (m ∷ ls) g c e =
      product_cubes ls (And g (literal_guard names m)) (c ++ renumbered m ∷ [])
      (ap (λ cs. cubes_of_two true cs (guard_cubes others true (literal_guard names m))) e ∙ ap (cubes_of_two true (c ∷ [])) (literal_cubes m))
      ∙ ap (λ d. d ∷ []) (append_assoc c (renumbered m ∷ []) (map renumbered ls))

  cube_cubes : (c : Cube) → guard_cubes others true (cube_guard names c) ≡ map renumbered c ∷ []
  cube_cubes [] = refl
  cube_cubes (l ∷ ls) = product_cubes ls (literal_guard names l) (renumbered l ∷ []) (literal_cubes l)

  sum_cubes : (cs : List Cube) (g : Guard) → guard_cubes others true (sum_guard names g cs) ≡ guard_cubes others true g ++ map (map renumbered) cs
  sum_cubes [] g = sym (append-nil (guard_cubes others true g))
  sum_cubes (c ∷ cs) g =
      sum_cubes cs (Or g (cube_guard names c))
      ∙ ap (λ ds. (guard_cubes others true g ++ ds) ++ map (map renumbered) cs) (cube_cubes c)
      ∙ append_assoc (guard_cubes others true g) (map renumbered c ∷ []) (map (map renumbered) cs)

  -- those of a guard that was printed are the cubes
  pub cubes_back : (cs : List Cube) → guard_cubes others true (cubes_guard names cs) ≡ map (map renumbered) cs
  cubes_back [] = refl
  cubes_back (c ∷ cs) = sum_cubes cs (cube_guard names c) ∙ ap (λ ds. ds ++ map (map renumbered) cs) (cube_cubes c)

-- ---- edges of ways

module _ (names : List Name) (P : Program) where
  abbrev others : List Name
  others = program_names P

  -- the edge of a cube of a way
  abbrev pub way_edge : Way → Cube → Edge
  way_edge w c = record { cube = map (renumbered names others) c; target = labelled P w.1; marks = [] }

  way_moves : Way → List Edge
  way_moves w = move_edges P (cubes_guard names w.0, labelled P w.1)

  moves_cases : (w : Way) (e : Edge) → Has (way_moves w) e → (c : Cube) × Has w.0 c × (e ≡ way_edge w c)
  unfolding way_moves
  moves_cases w e h =
      let (d, m, q) = map_cases (λ c. record { cube = c; target = labelled P w.1; marks = [] }) (guard_cubes others true (cubes_guard names w.0)) e h in
      let (c, n, i) = map_cases (map (renumbered names others)) w.0 d (subst (λ ds. Has ds d) (cubes_back names others w.0) m) in
      (c, n, q ∙ ap (λ x. record { cube = x; target = labelled P w.1; marks = [] }) i)

  moves_there : (w : Way) (c : Cube) → Has w.0 c → Has (way_moves w) (way_edge w c)
  unfolding way_moves
  moves_there w c h =
      Has-map (λ d. record { cube = d; target = labelled P w.1; marks = [] }) (guard_cubes others true (cubes_guard names w.0)) (map (renumbered names others) c)
      (subst (λ ds. Has ds (map (renumbered names others) c)) (sym (cubes_back names others w.0)) (Has-map (map (renumbered names others)) w.0 c h))

  -- an option has the edges of its way
  option_is : (i : ℕ) (w : Way) → option_edges P i (way_option names w) ≡ way_moves w
  unfolding way_moves
  option_is i w = append-nil (move_edges P (cubes_guard names w.0, labelled P w.1))

  pub ways_cases : (i : ℕ) (ws : List Way) (e : Edge) → Has (flat_map (option_edges P i) (body_options names (Ways ws))) e → (w : Way) × Has ws w × ((c : Cube) × Has w.0 c × (e ≡ way_edge w c))
  ways_cases i [] e h = absurd h
  ways_cases i (v ∷ vs) e h =
      let (o, m, n) = flat_map_cases (option_edges P i) (map (way_option names) (v ∷ vs)) e h in
      let (w, k, q) = map_cases (way_option names) (v ∷ vs) o m in
      (w, k, moves_cases w e (subst (λ es. Has es e) (ap (option_edges P i) q ∙ option_is i w) n))

  pub ways_there : (i : ℕ) (ws : List Way) (w : Way) (c : Cube) → Has ws w → Has w.0 c → Has (flat_map (option_edges P i) (body_options names (Ways ws))) (way_edge w c)
  ways_there i [] w c h m = absurd h
  ways_there i (v ∷ vs) w c h m =
      Has-flat_map (option_edges P i) (map (way_option names) (v ∷ vs)) (way_option names w) (way_edge w c) (Has-map (way_option names) (v ∷ vs) w h)
      (subst (λ es. Has es (way_edge w c)) (sym (option_is i w)) (moves_there w c m))

-- the names of a way's cubes
pub way_names : (names : List Name) (ws : List Way) (w : Way) (c : Cube) (m : Literal) → Has ws w → Has w.0 c → Has c m → Has (body_names names (Ways ws)) (name_at names m.proposition)
way_names names ws w c m h k n =
    Has-flat_map (λ (v : Way). cubes_names names v.0) ws w (name_at names m.proposition) h
    (Has-flat_map (cube_names names) w.0 c (name_at names m.proposition) k (Has-map (λ l. name_at names l.proposition) c m n))

-- ---- literals under a letter

module _ (names others : List Name) (w : Lasso) (i : ℕ) where
  literal_same : (l : Literal) → Has others (name_at names l.proposition) → is_true_at others w i (renumbered names others l).proposition ≡ is_true_at names w i l.proposition
  literal_same l h = ap (λ n. has name_cmp n (letter_at w i)) (at_place same_name same_name_Decides (name_at names l.proposition) others [] h)

  pub allows_same : (c : Cube) → ((l : Literal) → Has c l → Has others (name_at names l.proposition)) → allows (is_true_at others w i) (map (renumbered names others) c) ≡ allows (is_true_at names w i) c
  allows_same [] h = refl
  allows_same (l ∷ ls) h =
      ap (λ b. beq b l.positive && allows (is_true_at others w i) (map (renumbered names others) ls)) (literal_same l (h l (inl refl)))
      ∙ ap (λ b. beq (is_true_at names w i l.proposition) l.positive && b) (allows_same ls (λ m k. h m (inr k)))

-- ---- labels of a row of blocks

pub none_labelled : (p : Name → Bool) (a j : ℕ) (bs : List Block) → j < a → list_any (λ l. nat_eq l.statement j && p l.name) (labels_from a bs) ≡ false
none_labelled p a j [] m = refl
none_labelled p a j (b ∷ bs) m =
    ap (λ c. (c && p b.0) || list_any (λ l. nat_eq l.statement j && p l.name) (labels_from (a + 1) bs)) (nat_eq_other a j (λ e. omega arith))
    ∙ none_labelled p (a + 1) j bs (omega arith)

-- the one label of a block
pub one_labelled : (p : Name → Bool) (a i : ℕ) (bs : List Block) (d : Block) → i < length bs → list_any (λ l. nat_eq l.statement (a + i) && p l.name) (labels_from a bs) ≡ p (slice_index_or bs i d).0
one_labelled p a i [] d m = absurd (omega arith)
one_labelled p a zero (b ∷ bs) d m =
    ap (λ c. (c && p b.0) || list_any (λ l. nat_eq l.statement (a + 0) && p l.name) (labels_from (a + 1) bs)) (nat_eq_same a (a + 0) (omega arith))
    ∙ ap (λ c. p b.0 || c) (none_labelled p (a + 1) (a + 0) bs (omega arith)) ∙ nothing (p b.0)
  where
    nothing : (c : Bool) → (c || false) ≡ c
    nothing true = refl
    nothing false = refl
one_labelled p a (suc i) (b ∷ bs) d m =
    let on : a + suc i ≡ a + 1 + i = omega arith in
    ap (λ c. (c && p b.0) || list_any (λ l. nat_eq l.statement (a + suc i) && p l.name) (labels_from (a + 1) bs)) (nat_eq_other a (a + suc i) (λ e. omega arith))
    ∙ ap (λ n. list_any (λ l. nat_eq l.statement n && p l.name) (labels_from (a + 1) bs)) on ∙ one_labelled p (a + 1) i bs d (omega arith)

-- the block with a label, where all labels differ
pub label_found_at : (a i : ℕ) (bs : List Block) (d : Block) → HasNoRepeats (map (λ b. b.0) bs) → i < length bs
    → find (λ x. same_name (slice_index_or bs i d).0 x.name) (labels_from a bs) ≡ Some (record { name = (slice_index_or bs i d).0; statement = a + i })
label_found_at a i [] d n m = absurd (omega arith)
label_found_at a zero (b ∷ bs) d n m =
    ap (λ c. cond c (Some (record { name = b.0; statement = a })) (find (λ x. same_name b.0 x.name) (labels_from (a + 1) bs))) (same_self b.0)
    ∙ (let e : a ≡ a + 0 = omega arith in ap (λ k. Some (record { name = b.0; statement = k })) e)
label_found_at a (suc i) (b ∷ bs) d n m =
    let c : Block = slice_index_or bs i d in
    let on : a + 1 + i ≡ a + suc i = omega arith in
    ap (λ t. cond t (Some (record { name = b.0; statement = a })) (find (λ x. same_name c.0 x.name) (labels_from (a + 1) bs))) (differs (same_name c.0 b.0) refl)
    ∙ label_found_at (a + 1) i bs d n.1 (omega arith) ∙ ap (λ k. Some (record { name = c.0; statement = k })) on
  where
    differs : (t : Bool) → same_name (slice_index_or bs i d).0 b.0 ≡ t → same_name (slice_index_or bs i d).0 b.0 ≡ false
    differs false e = e
    differs true e = absurd (n.0 (subst (Has (map (λ x. x.0) bs)) (same_exact (slice_index_or bs i d).0 b.0 e) (Has-map (λ x. x.0) bs (slice_index_or bs i d) (Has-at bs i d (omega arith)))))
