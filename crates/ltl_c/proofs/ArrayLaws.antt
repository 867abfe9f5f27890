-- Arrays of the caller that grow row by row.
use Rattle.std.proofs.Common.{◌≡◌, ◌∙◌, ap, sym, refl, ℕ, zero, suc, ◌+◌, ◌<◌, ◌≤◌, arith, List, [], ◌∷◌, ◌++◌, length, map, take, drop, get_or, set, append_assoc, length-append, length-take-le, sum_by}
use Rattle.std.proofs.lemmas.List.{drop_all, flat_map_more, length-map, map_more, take_more}
use Rattle.std.proofs.lemmas.List.Concat.{length-flat_map}
use Rattle.std.proofs.lemmas.List.Folds.{length-flat_map-take}
use Rattle.ltl_spec.specs.Automata.Automaton.{Edge, State}
use Rattle.ltl_automaton.specs.CodedEdges.{edges_in, labelled_edge_of}
use Rattle.ltl_automaton.specs.declared.labels.Edges as lent
use Rattle.ltl_c.specs.declared.rows.EdgeRow.{EdgeRow}
use Rattle.ltl_c.specs.declared.rows.StateRow.{StateRow}
use Rattle.ltl_c.specs.Arrays.{edge_row, edge_rows, put_at, put_over, state_row, state_rows_from}

-- ---- rows over what an array held

module _ {A : Type 0} where
  -- one row more
  pub one_over : (w old : List A) (v : A) → length w < length old → set (put_over w old) (length w) v ≡ put_over (w ++ v ∷ []) old
  one_over [] [] v h = absurd (omega arith)
  one_over [] (o ∷ os) v h = refl
  one_over (x ∷ w) [] v h = absurd (omega arith)
  one_over (x ∷ w) (o ∷ os) v h = ap (λ l. x ∷ l) (one_over w os v (omega arith))

  -- rows that go over rows and what stood behind them
  more_over : (w r old : List A) → put_over (w ++ r) (put_over w old) ≡ put_over (w ++ r) old
  more_over [] r old = refl
  more_over (x ∷ w) r [] = ap (λ l. x ∷ (w ++ r) ++ l) (drop_all (length (w ++ r)) (w ++ []) (omega (arith, length-append w [], length-append w r)))
  more_over (x ∷ w) r (o ∷ os) = ap (λ l. x ∷ l) (more_over w r os)

  take_rows : (w l : List A) → take (length w) (w ++ l) ≡ w
  take_rows [] l = refl
  take_rows (x ∷ w) l = ap (λ k. x ∷ k) (take_rows w l)

  -- rows that are put behind those that stand there
  pub behind_over : (w r old array more : List A) (at : ℕ) → array ≡ put_over w old → at ≡ length w → more ≡ put_at at r array → more ≡ put_over (w ++ r) old
  behind_over w r old array more at ea ep em =
      em
      ∙ ap (λ l. put_at at r l) ea
      ∙ ap (λ n. put_at n r (put_over w old)) ep
      ∙ ap (λ l. put_over (l ++ r) (put_over w old)) (take_rows w (drop (length w) old))
      ∙ more_over w r old

  -- no row yet
  pub none_over : (at : ℕ) (old : List A) → at ≤ length old → old ≡ put_at at [] old
  none_over zero old h = refl
  none_over (suc at) [] h = absurd (omega arith)
  none_over (suc at) (o ∷ os) h = ap (λ l. o ∷ l) (none_over at os (omega arith))

  -- the rows of a list, one by one
  pub next_row : {E : Type 0} (f : E → A) (at i : ℕ) (list : List E) (e : E) (old array more : List A) → at + length list ≤ length old → i < length list
      → get_or list i e ≡ e → array ≡ put_at at (map f (take i list)) old → more ≡ set array (at + i) (f e) → more ≡ put_at at (map f (take (i + 1) list)) old
  next_row f at i list e old array more fit h is ea em =
      let w = take at old ++ map f (take i list) in
      let front : length (take at old) ≡ at = length-take-le at old (omega arith) in
      let middle : length (map f (take i list)) ≡ i = length-map (take i list) f ∙ length-take-le i list (omega arith) in
      let long : at + i ≡ length w = omega (arith, length-append (take at old) (map f (take i list)), front, middle) in
      em
      ∙ ap (λ l. set l (at + i) (f e)) ea
      ∙ ap (λ n. set (put_over w old) n (f e)) long
      ∙ one_over w old (f e) (omega (arith, long))
      ∙ ap (λ l. put_over l old) (append_assoc (take at old) (map f (take i list)) (f e ∷ []))
      ∙ ap (λ l. put_at at l old) (ap (λ x. map f (take i list) ++ f x ∷ []) (sym is) ∙ sym (map_more f list i e h))

-- ---- states and their edges

-- the edges of one state more
pub edges_next : (ss : List State) (k : ℕ) (d : State) → k < length ss → edge_rows (take (k + 1) ss) ≡ edge_rows (take k ss) ++ map edge_row (get_or ss k d).edges
edges_next ss k d h = ap edge_rows (take_more ss k d h) ∙ sym (flat_map_more (λ (s : State). map edge_row s.edges) [] (take k ss) (get_or ss k d))

-- there is room for them
pub edges_within : (ss : List State) (k : ℕ) (d : State) → k < length ss → length (edge_rows (take k ss)) + length (get_or ss k d).edges ≤ length (edge_rows ss)
edges_within ss k d h = omega (arith, length-flat_map-take (λ (s : State). map edge_row s.edges) ss k d h, length-map (get_or ss k d).edges edge_row)

-- how many there are
pub edges_counted : (ss : List State) → length (edge_rows ss) ≡ sum_by (λ s. length s.edges) ss
edges_counted ss = length-flat_map (λ (s : State). map edge_row s.edges) ss ∙ same_sums ss
  where
    same_sums : (ss : List State) → sum_by (λ (s : State). length (map edge_row s.edges)) ss ≡ sum_by (λ (s : State). length s.edges) ss
    same_sums ss = ap (λ (f : State → ℕ). sum_by f ss) (λ i s. length-map s.edges edge_row i)

pub states_counted : (at : ℕ) (ss : List State) → length (state_rows_from at ss) ≡ length ss
states_counted at [] = refl
states_counted at (s ∷ ss) = ap suc (states_counted (at + length s.edges) ss)

-- one state more
states_on : (at k : ℕ) (ss : List State) (d : State) → k < length ss
    → state_rows_from at (take (suc k) ss) ≡ state_rows_from at (take k ss) ++ state_row (at + length (edge_rows (take k ss))) (get_or ss k d) ∷ []
states_on at k [] d h = absurd (omega arith)
states_on at zero (s ∷ ss) d h = let e : at ≡ at + 0 = omega arith in ap (λ n. state_row n s ∷ []) e
states_on at (suc k) (s ∷ ss) d h =
    ap (λ l. state_row at s ∷ l)
    (states_on (at + length s.edges) k ss d (omega arith)
    ∙ ap (λ n. state_rows_from (at + length s.edges) (take k ss) ++ state_row n (get_or ss k d) ∷ [])
    (omega (arith, length-append (map edge_row s.edges) (edge_rows (take k ss)), length-map s.edges edge_row)))

pub states_next : (ss : List State) (k : ℕ) (d : State) → k < length ss
    → state_rows_from 0 (take (k + 1) ss) ≡ state_rows_from 0 (take k ss) ++ state_row (length (edge_rows (take k ss))) (get_or ss k d) ∷ []
states_next ss k d h =
    let on : k + 1 ≡ suc k = omega arith in
    let first : 0 + length (edge_rows (take k ss)) ≡ length (edge_rows (take k ss)) = omega arith in
    ap (λ n. state_rows_from 0 (take n ss)) on
    ∙ states_on 0 k ss d h
    ∙ ap (λ n. state_rows_from 0 (take k ss) ++ state_row n (get_or ss k d) ∷ []) first

-- the array of states takes its row
pub state_put : (ss : List State) (k : ℕ) (d : State) → k < length ss → (old array : List StateRow) → length ss ≤ length old → array ≡ put_over (state_rows_from 0 (take k ss)) old
    → (row : StateRow) → row ≡ state_row (length (edge_rows (take k ss))) (get_or ss k d) → set array k row ≡ put_over (state_rows_from 0 (take (k + 1) ss)) old
state_put ss k d h old array fit e row r =
    let w = state_rows_from 0 (take k ss) in
    let long : k ≡ length w = omega (arith, states_counted 0 (take k ss), length-take-le k ss (omega (arith, h))) in
    ap (λ l. set l k row) e
    ∙ ap (λ n. set (put_over w old) n row) long
    ∙ one_over w old row (omega (arith, long, h, fit))
    ∙ ap (λ x. put_over (w ++ x ∷ []) old) r
    ∙ ap (λ l. put_over l old) (sym (states_next ss k d h))

-- and that of edges the rows of its edges
pub edges_put : (ss : List State) (k : ℕ) (d : State) → k < length ss → (old array more : List EdgeRow) (at : ℕ) (list : lent.Edges) → array ≡ put_over (edge_rows (take k ss)) old
    → at ≡ length (edge_rows (take k ss)) → more ≡ put_at at (map edge_row (edges_in list)) array → edges_in list ≡ (get_or ss k d).edges → more ≡ put_over (edge_rows (take (k + 1) ss)) old
edges_put ss k d h old array more at list ea ep em el =
    behind_over (edge_rows (take k ss)) (map edge_row (edges_in list)) old array more at ea ep em
    ∙ ap (λ l. put_over (edge_rows (take k ss) ++ map edge_row l) old) el
    ∙ ap (λ l. put_over l old) (sym (edges_next ss k d h))

-- how many edges a state has
pub edges_listed : (list : lent.Edges) (es : List Edge) → edges_in list ≡ es → length list.coded.now ≡ length es
edges_listed list es e = sym (length-map list.coded.now (labelled_edge_of list.labels)) ∙ ap length e

pub end_next : (ss : List State) (k : ℕ) (d : State) → k < length ss → (at end : ℕ) (list : lent.Edges) → at ≡ length (edge_rows (take k ss)) → end ≡ at + length list.coded.now
    → edges_in list ≡ (get_or ss k d).edges → end ≡ length (edge_rows (take (k + 1) ss))
end_next ss k d h at end list ea ee el =
    omega (arith, ea, ee, edges_listed list (get_or ss k d).edges el, ap length (edges_next ss k d h), length-append (edge_rows (take k ss)) (map edge_row (get_or ss k d).edges), length-map (get_or ss k d).edges edge_row)

pub room_next : (ss : List State) (k : ℕ) (d : State) → k < length ss → (at : ℕ) (list : lent.Edges) → at ≡ length (edge_rows (take k ss)) → edges_in list ≡ (get_or ss k d).edges
    → at + length list.coded.now ≤ length (edge_rows ss)
room_next ss k d h at list ea el = omega (arith, ea, edges_listed list (get_or ss k d).edges el, edges_within ss k d h)
