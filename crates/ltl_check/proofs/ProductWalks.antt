-- Walks of the product as it is looked at, and paths of the product of the definitions.
use Rattle.std.proofs.Common.{◌≡◌, ℕ, zero, suc, ◌+◌, ◌-◌, ◌*◌, ◌/◌, ◌%◌, ◌<◌, ◌≤◌, Bool, true, false, cond, List, [], ◌∷◌, ◌++◌, map, length, Some, None, inl, inr, refl, sym, ◌∙◌, ap, subst, arith}
use Rattle.std.specs.Prelude.{slice_index_or, option_map, filter}
use Rattle.std.specs.Ordering.{nat_cmp}
use Rattle.std.proofs.lemmas.Nat.{div-mul-add, mod-mul-add}
use Rattle.ltl_spec.specs.Collections.Sets.{Has, has, put, set_of, union}
use Rattle.ltl_spec.specs.Transitions.Cubes.{Literal, Cube, literal_cmp, is_contradictory, join_cubes}
use Rattle.ltl_spec.specs.Semantics.Word.{Name, name_cmp}
use Rattle.ltl_spec.specs.Formulas.Names.{unified}
use Rattle.ltl_spec.specs.Automata.Automaton.{Automaton, State, Edge, state_at}
use Rattle.ltl_spec.specs.Hoa.HoaReading.{MarkedAutomaton}
use Rattle.ltl_spec.specs.Checking.Product.{renamed_literal, renamed_cube, renamed_edge, renamed_state, renamed_automaton, joined_edge, pair_number, unified_number}
use Rattle.ltl_spec.specs.Checking.Search.{IsPath, letter_of, lasso_along}
use Rattle.ltl_spec.specs.Checking.Searched.{searched_graph, searched_start, HasCommonWalk}
use Rattle.ltl_spec.specs.Checking.Check.{graph_of}
use Rattle.ltl_spec.specs.Checking.Bounds.{HasNamesBelow}
use Rattle.ltl_spec.proofs.Collections.SetLaws.{append_cases, append_left, append_right, has_Decides, put_cases, Has-put}
use Rattle.ltl_spec.proofs.Collections.MemberLaws.{Has-map, map_length}
use Rattle.ltl_spec.proofs.Collections.ListLaws.{Has-at}
use Rattle.ltl_spec.proofs.Collections.Orders.{nat_linear}
use Rattle.ltl_spec.proofs.Automata.ListedStates.{no_state}
use Rattle.ltl_spec.proofs.Checking.ProductRuns.{renamed_at, renamed_cases, product_cases, both_edges, Has-product}
use Rattle.ltl_sets.specs.Words as words
use Rattle.ltl_check.specs.declared.graph.Step.{Step}
use Rattle.ltl_check.specs.declared.walk.Taken.{Taken}
use Rattle.ltl_check.specs.Marks.{in_set}
use Rattle.ltl_check.specs.Nets.{Net, IsSuccessor, IsStepPath}
use Rattle.ltl_spec.specs.Construction.Levels.{climb, next_level, LevelState}
use Rattle.ltl_spec.specs.Checking.Search.{IsLevelPath}
use Rattle.ltl_spec.proofs.Construction.ClimbLaws.{first_level, next_level_most}
use Rattle.ltl_check.specs.Explored.{Reached}
use Rattle.ltl_check.specs.Levels.{numbered, on_level, levels_net, Takes, IsFullWalk}
use Rattle.ltl_check.specs.VerdictView.{IsReachedLevelState}
use Rattle.ltl_word.specs.LassoView.{letter_with}
use Rattle.ltl_check.specs.LevelLaws.{mapped}
use Rattle.ltl_check.specs.ProductView.{no_edge, number_in, pair_marks, step_with, joined_step, first_edges, second_edges, edge_pairs, pair_at, pair_place, pair_step, product_net}
use Rattle.ltl_check.specs.PairLaws.{place_in_rows, first_place, second_place, first_at, second_at, step_is}
use Rattle.ltl_spec.proofs.Collections.FoundLaws.{map_equal, map_same}

-- a member stands at some place
place_in : {K : Type 0} (xs : List K) (x d : K) → Has xs x → (i : ℕ) × (i < length xs) × (slice_index_or xs i d ≡ x)
place_in [] x d h = absurd h
place_in (y ∷ ys) x d (inl e) = (0, omega arith, sym e)
place_in (y ∷ ys) x d (inr h) = let w = place_in ys x d h in let l = w.1 in (suc w.0, omega arith, w.2)

same_letter : (names : List Name) (c : Cube) → letter_with names (words.letter_of c) ≡ letter_of names c
same_letter names c = ap (set_of name_cmp) (map_same (λ (l : Literal). l.proposition) (λ i. slice_index_or names i []) (filter (λ (l : Literal). l.positive) c))

-- the edges of a state of the automaton that was read
at_state : (ess : List (List Edge)) (s : ℕ) → (slice_index_or (map (λ (es : List Edge). record { accepting = true; edges = es }) ess) s no_state).edges ≡ slice_index_or ess s []
at_state [] zero = refl
at_state [] (suc s) = refl
at_state (es ∷ ess) zero = refl
at_state (es ∷ ess) (suc s) = at_state ess s

module _ (A : MarkedAutomaton) (names : List Name) (B : Automaton) (numbers : List ℕ)
    (some : 0 < length B.states) (counted : length A.edges ≡ A.states) (below : HasNamesBelow (length names) B) (maps : (p : ℕ) → p < length names → number_in numbers p ≡ unified_number A.names names p) where
  abbrev all_names : List Name
  all_names = unified A.names names

  abbrev number : ℕ → ℕ
  number = unified_number A.names names

  abbrev given : Automaton
  given = graph_of A

  abbrev renamed : Automaton
  renamed = renamed_automaton number B

  abbrev graph : Automaton
  graph = searched_graph A names B

  abbrev net : Net
  net = product_net A B numbers

  renamed_count : length renamed.states ≡ length B.states
  renamed_count = map_length (renamed_state number) B.states

  given_edges : (s : ℕ) → (state_at given s).edges ≡ first_edges A B s
  given_edges s = at_state A.edges s

  -- the number of a pair, and back
  abbrev rows : ℕ
  rows = length B.states

  again : (n : ℕ) → (n / rows) * rows + n % rows ≡ n
  again n = omega arith

  same_number : (s t : ℕ) → pair_number given renamed s t ≡ s * rows + t
  same_number s t = ap (λ k. s * k + t) renamed_count

  -- the second edge under the numbers of both
  same_cube : (t : ℕ) (f : Edge) → Has (second_edges A B t) f → renamed_cube (number_in numbers) f.cube ≡ renamed_cube number f.cube
  same_cube t f h = ap (set_of literal_cmp) (map_equal (renamed_literal (number_in numbers)) (renamed_literal number) f.cube (λ l k. ap (λ p. record { proposition = p; positive = l.positive }) (maps l.proposition (below t f h l k))))

  Has-renamed : (t : ℕ) (f : Edge) → Has (second_edges A B t) f → Has (state_at renamed t).edges (renamed_edge number f)
  Has-renamed t f h = subst (λ (x : State). Has x.edges (renamed_edge number f)) (sym (renamed_at number B t)) (Has-map (renamed_edge number) (second_edges A B t) f h)

  renamed_accepting : (t : ℕ) → (state_at renamed t).accepting ≡ (state_at B t).accepting
  renamed_accepting t = ap (λ (x : State). x.accepting) (renamed_at number B t)

  -- the marks of an edge say the same
  marks_there : (b : Bool) (marks : List ℕ) (j : ℕ) → in_set (pair_marks A.sets b marks) j ≡ true → Has (marks ++ cond b (A.sets ∷ []) []) j
  marks_there true marks j e = elim (put_cases nat_cmp A.sets marks j ((has_Decides nat_linear j (put nat_cmp A.sets marks)).0 e)) [
    | inl q ↦ append_right marks (A.sets ∷ []) j (inl q)
    | inr h ↦ append_left marks (A.sets ∷ []) j h
  ]
  marks_there false marks j e = append_left marks [] j ((has_Decides nat_linear j marks).0 e)

  marks_here : (b : Bool) (marks : List ℕ) (j : ℕ) → Has (marks ++ cond b (A.sets ∷ []) []) j → in_set (pair_marks A.sets b marks) j ≡ true
  marks_here true marks j h = (has_Decides nat_linear j (put nat_cmp A.sets marks)).1 (Has-put nat_linear A.sets marks j (elim (append_cases marks (A.sets ∷ []) j h) [
    | inl k ↦ inr k
    | inr k ↦ elim k [ inl e ↦ inl e | inr z ↦ absurd z ]
  ]))
  marks_here false marks j h = (has_Decides nat_linear j marks).1 (elim (append_cases marks [] j h) [ inl k ↦ k | inr k ↦ absurd k ])

  -- from a look to an edge
  record Told (n : ℕ) (a : Step ℕ) : Type 0 where
    edge : Edge
    stands : Has (state_at graph n).edges edge
    leads : edge.target ≡ a.target
    letter : words.letter_of edge.cube ≡ a.letter
    marks : (j : ℕ) → in_set a.marks j ≡ true → Has edge.marks j

  abbrev edge_with : Bool → Edge → Edge → Cube → Edge
  edge_with b e f c = record { cube = c; target = pair_number given renamed e.target f.target; marks = e.marks ++ cond b (A.sets ∷ []) [] }

  -- the two edges of a look
  abbrev one : ℕ → ℕ → Edge
  one n k = first_at A B (pair_at A B n) k

  abbrev two : ℕ → ℕ → Edge
  two n k = second_at A B (pair_at A B n) k

  has_one : (n k : ℕ) → k < edge_pairs A B (pair_at A B n) → Has (state_at given (n / rows)).edges (one n k)
  has_one n k l =
      subst (λ es. Has es (one n k)) (sym (given_edges (n / rows)))
      (Has-at (first_edges A B (n / rows)) (k / length (second_edges A B (n % rows))) no_edge (first_place A B (pair_at A B n) k l))

  has_two : (n k : ℕ) → k < edge_pairs A B (pair_at A B n) → Has (second_edges A B (n % rows)) (two n k)
  has_two n k l = Has-at (second_edges A B (n % rows)) (k % length (second_edges A B (n % rows))) no_edge (second_place A B (pair_at A B n) k l)

  told_cube : (n k : ℕ) (a : Step ℕ) → k < edge_pairs A B (pair_at A B n) → (c : Cube) → join_cubes (one n k).cube (renamed_cube (number_in numbers) (two n k).cube) ≡ Some c
      → numbered (pair_place A B) (step_with A.sets (state_at B (n % rows)).accepting (one n k) (two n k) c) ≡ a → Told n a
  told_cube n k a l c joins is =
      let b = (state_at renamed (n % rows)).accepting in
      let hf = has_two n k l in
      let joins' : join_cubes (one n k).cube (renamed_edge number (two n k)).cube ≡ Some c = ap (join_cubes (one n k).cube) (sym (same_cube (n % rows) (two n k) hf)) ∙ joins in
      let edge : joined_edge given.sets (pair_number given renamed) b (one n k) (renamed_edge number (two n k)) ≡ Some (edge_with b (one n k) (two n k) c) = ap (option_map (edge_with b (one n k) (two n k))) joins' in
      let there = Has-product given renamed (n / rows) (n % rows) (one n k) (renamed_edge number (two n k)) (edge_with b (one n k) (two n k) c) (has_one n k l) (Has-renamed (n % rows) (two n k) hf) edge in
      record {
        edge = edge_with b (one n k) (two n k) c;
        stands = subst (λ m. Has (state_at graph m).edges (edge_with b (one n k) (two n k) c)) (same_number (n / rows) (n % rows) ∙ again n) there;
        leads = same_number (one n k).target (two n k).target ∙ ap (λ (x : Step ℕ). x.target) is;
        letter = ap (λ (x : Step ℕ). x.letter) is;
        marks = λ j m.
            subst (λ t. Has ((one n k).marks ++ cond t (A.sets ∷ []) []) j) (sym (renamed_accepting (n % rows)))
            (marks_there (state_at B (n % rows)).accepting (one n k).marks j (subst (λ (x : Step ℕ). in_set x.marks j ≡ true) (sym is) m));
      }

  told : (n k : ℕ) (a : Step ℕ) → IsSuccessor net n k a → Told n a
  told n k a i =
      let v = mapped (numbered (pair_place A B)) (pair_step A B numbers (pair_at A B n) k) a i.found in
      let w = step_is A B numbers (pair_at A B n) k v.0 v.1 in
      told_cube n k a i.within w.0 w.1 (ap (numbered (pair_place A B)) w.2 ∙ v.2)

  -- from an edge to a look
  record Looked (n : ℕ) (g : Edge) : Type 0 where
    pick : ℕ
    step : Step ℕ
    successor : IsSuccessor net n pick step
    leads : step.target ≡ g.target
    marks : (j : ℕ) → Has g.marks j → in_set step.marks j ≡ true
    back : (j : ℕ) → in_set step.marks j ≡ true → Has g.marks j

  looked_at : (n : ℕ) (g e f : Edge) → is_contradictory (union literal_cmp e.cube (renamed_edge number f).cube) ≡ false → g ≡ edge_with (state_at B (n % rows)).accepting e f (union literal_cmp e.cube (renamed_edge number f).cube) → Has (second_edges A B (n % rows)) f
      → (i j : ℕ) → i < length (first_edges A B (n / rows)) → slice_index_or (first_edges A B (n / rows)) i no_edge ≡ e → j < length (second_edges A B (n % rows)) → slice_index_or (second_edges A B (n % rows)) j no_edge ≡ f → Looked n g
  looked_at n g e f plain is hf i j li ei lj ej =
      let width = length (second_edges A B (n % rows)) in
      let d : (i * length (second_edges A B (n % rows)) + j) / length (second_edges A B (n % rows)) ≡ i = div-mul-add i (length (second_edges A B (n % rows))) j lj in
      let m : (i * length (second_edges A B (n % rows)) + j) % length (second_edges A B (n % rows)) ≡ j = mod-mul-add i (length (second_edges A B (n % rows))) j lj in
      let first : one n (i * length (second_edges A B (n % rows)) + j) ≡ e = ap (λ x. slice_index_or (first_edges A B (n / rows)) x no_edge) d ∙ ei in
      let second : two n (i * length (second_edges A B (n % rows)) + j) ≡ f = ap (λ x. slice_index_or (second_edges A B (n % rows)) x no_edge) m ∙ ej in
      let b = (state_at B (n % rows)).accepting in
      let c = union literal_cmp e.cube (renamed_edge number f).cube in
      let joins : join_cubes e.cube (renamed_cube (number_in numbers) f.cube) ≡ Some c = ap (join_cubes e.cube) (same_cube (n % rows) f hf) ∙ ap (λ x. cond x None (Some (union literal_cmp e.cube (renamed_edge number f).cube))) plain in
      let step : joined_step A.sets b (number_in numbers) e f ≡ Some (step_with A.sets b e f c) = ap (option_map (step_with A.sets b e f)) joins in
      let found : pair_step A B numbers (pair_at A B n) (i * length (second_edges A B (n % rows)) + j) ≡ Some (step_with A.sets b e f c) =
      ap (λ x. joined_step A.sets b (number_in numbers) x (two n (i * length (second_edges A B (n % rows)) + j))) first ∙ ap (joined_step A.sets b (number_in numbers) e) second ∙ step in
      record {
        pick = i * length (second_edges A B (n % rows)) + j;
        step = numbered (pair_place A B) (step_with A.sets b e f c);
        successor = record { within = place_in_rows (length (first_edges A B (n / rows))) (length (second_edges A B (n % rows))) i j li lj; found = ap (option_map (numbered (pair_place A B))) found };
        leads = sym (same_number e.target f.target) ∙ ap (λ (x : Edge). x.target) (sym is);
        marks = λ q o. marks_here b e.marks q (subst (λ (x : Edge). Has x.marks q) is o);
        back = λ q o. subst (λ (x : Edge). Has x.marks q) (sym is) (marks_there b e.marks q o);
      }

  looked : (n : ℕ) (g : Edge) → Has (state_at graph n).edges g → Looked n g
  looked n g h =
      let (e, f', he, hf, is, plain) = product_cases given renamed n g h in
      let (f, hf0, same) = renamed_cases number B (n % length renamed.states) f' hf in
      let same_first : n / length renamed.states ≡ n / rows = ap (λ k. n / k) renamed_count in
      let same_second : n % length renamed.states ≡ n % rows = ap (λ k. n % k) renamed_count in
      let he1 : Has (first_edges A B (n / rows)) e = subst (λ m. Has (first_edges A B m) e) same_first (subst (λ es. Has es e) (given_edges (n / length renamed.states)) he) in
      let hf1 : Has (second_edges A B (n % rows)) f = subst (λ m. Has (second_edges A B m) f) same_second hf0 in
      let accepting : (state_at renamed (n % length renamed.states)).accepting ≡ (state_at B (n % rows)).accepting = renamed_accepting (n % length renamed.states) ∙ ap (λ x. (state_at B x).accepting) same_second in
      let is' : g ≡ edge_with (state_at B (n % rows)).accepting e f (union literal_cmp e.cube (renamed_edge number f).cube) =
      is ∙ ap (λ (x : Edge). both_edges given.sets (pair_number given renamed) (state_at renamed (n % length renamed.states)).accepting e x) same ∙ ap (λ b. both_edges given.sets (pair_number given renamed) b e (renamed_edge number f)) accepting in
      let (i, li, ei) = place_in (first_edges A B (n / rows)) e no_edge he1 in
      let (j, lj, ej) = place_in (second_edges A B (n % rows)) f no_edge hf1 in
      looked_at n g e f (subst (λ (x : Edge). is_contradictory (union literal_cmp e.cube x.cube) ≡ false) same plain) is' hf1 i j li ei lj ej

  same_successor : (n k : ℕ) (a b : Step ℕ) → IsSuccessor net n k a → IsSuccessor net n k b → a ≡ b
  same_successor n k a b i j = let p = i.found in let q = j.found in cc

  -- from a walk to a path
  record ToldPath (s : ℕ) (ts : List Taken) (e : ℕ) : Type 0 where
    edges : List Edge
    path : IsPath graph s edges e
    letters : map (λ (x : Edge). letter_of all_names x.cube) edges ≡ map (λ (t : Taken). letter_with all_names t.letter) ts
    cubes : (t : Taken) → Has ts t → (k : ℕ) × (x : Edge) × Has (state_at graph k).edges x × (words.letter_of x.cube ≡ t.letter)
    takes : (j : ℕ) → Takes net ts j → (x : Edge) × Has edges x × Has x.marks j
    moves : edges ≡ [] → ts ≡ []

  told_path : (s : ℕ) (ts : List Taken) (e : ℕ) → IsStepPath net s ts e → ToldPath s ts e
  told_path s [] e w = record { edges = []; path = w; letters = refl; cubes = λ t h. absurd h; takes = λ j h. absurd h; moves = λ z. refl }
  told_path s (t ∷ ts) e w = more (told t.state t.pick w.1.0 w.1.1) (told_path w.1.0.target ts e w.1.3)
    where
      more : Told t.state w.1.0 → ToldPath w.1.0.target ts e → ToldPath s (t ∷ ts) e
      more o r = record {
        edges = o.edge ∷ r.edges;
        path = (subst (λ m. Has (state_at graph m).edges o.edge) w.0 o.stands, subst (λ m. IsPath graph m r.edges e) (sym o.leads) r.path);
        letters = ap (λ a. a ∷ map (λ (x : Edge). letter_of all_names x.cube) r.edges) (sym (same_letter all_names o.edge.cube) ∙ ap (letter_with all_names) (o.letter ∙ w.1.2)) ∙ ap (λ ys. letter_with all_names t.letter ∷ ys) r.letters;
        cubes = λ u h. elim h [
          | inl q ↦ (t.state, o.edge, o.stands, o.letter ∙ w.1.2 ∙ ap (λ (x : Taken). x.letter) (sym q))
          | inr k ↦ r.cubes u k
        ];
        takes = λ j h. elim h [
          | inl k ↦ (o.edge, inl refl, o.marks j (subst (λ (x : Step ℕ). in_set x.marks j ≡ true) (same_successor t.state t.pick k.0 w.1.0 k.1 w.1.1) k.2))
          | inr k ↦ let x = r.takes j k in (x.0, inr x.1, x.2)
        ];
        moves = λ z. absurd (cc);
      }

  -- from a path to a walk
  record Walked (s : ℕ) (es : List Edge) (e : ℕ) : Type 0 where
    steps : List Taken
    stem : IsStepPath net s steps e
    takes : (j : ℕ) (x : Edge) → Has es x → Has x.marks j → Takes net steps j
    moves : steps ≡ [] → es ≡ []
    long : length steps ≡ length es

  walked : (s : ℕ) (es : List Edge) (e : ℕ) → IsPath graph s es e → Walked s es e
  walked s [] e p = record { steps = []; stem = p; takes = λ j x h. absurd h; moves = λ z. refl; long = refl }
  walked s (x ∷ es) e p = more (looked s x p.0) (walked x.target es e p.1)
    where
      more : Looked s x → Walked x.target es e → Walked s (x ∷ es) e
      more o r = record {
        steps = record { state = s; pick = o.pick; letter = o.step.letter } ∷ r.steps;
        stem = (refl, (o.step, o.successor, refl, subst (λ m. IsStepPath net m r.steps e) (sym o.leads) r.stem));
        takes = λ j y h m. elim h [
          | inl q ↦ inl (o.step, o.successor, o.marks j (subst (λ (z : Edge). Has z.marks j) q m))
          | inr k ↦ inr (r.takes j y k m)
        ];
        moves = λ z. absurd (cc);
        long = let l = r.long in omega arith;
      }

  starts : net.start ≡ searched_start A names B
  starts = sym (same_number A.start 0)

  -- the letter of a step is that of an edge
  pub found_cubes : (stem cycle : List Taken) → IsFullWalk net (A.sets + 1) stem cycle → (t : Taken) → Has (stem ++ cycle) t → (k : ℕ) × (x : Edge) × Has (state_at graph k).edges x × (words.letter_of x.cube ≡ t.letter)
  found_cubes stem cycle w t h = elim (append_cases stem cycle t h) [
    | inl k ↦ (told_path net.start stem w.end w.arrives).cubes t k
    | inr k ↦ (told_path w.end cycle w.end w.cycles).cubes t k
  ]

  -- what was found is a common walk, with these letters
  pub found_walk : (stem cycle : List Taken) → IsFullWalk net (A.sets + 1) stem cycle
      → (h : HasCommonWalk A names B) × (lasso_along all_names h.stem h.cycle ≡ record { stem = map (λ (t : Taken). letter_with all_names t.letter) stem; cycle = map (λ (t : Taken). letter_with all_names t.letter) cycle })
  found_walk stem cycle w = both (told_path net.start stem w.end w.arrives) (told_path w.end cycle w.end w.cycles)
    where
      both : ToldPath net.start stem w.end → ToldPath w.end cycle w.end
          → (h : HasCommonWalk A names B) × (lasso_along all_names h.stem h.cycle ≡ record { stem = map (λ (t : Taken). letter_with all_names t.letter) stem; cycle = map (λ (t : Taken). letter_with all_names t.letter) cycle })
      both f t = (
        record {
          state = w.end;
          stem = f.edges;
          cycle = t.edges;
          arrives = subst (λ s. IsPath graph s f.edges w.end) starts f.path;
          cycles = record { closes = t.path; moves = λ z. w.moves (t.moves z); marks = λ k l. t.takes k (w.takes k l) };
        },
        λ i. record { stem = f.letters i; cycle = t.letters i },
      )

  -- and where there is a common walk, one of as many edges is found
  pub walk_found : (h : HasCommonWalk A names B) → (stem : List Taken) × (cycle : List Taken) × IsFullWalk net (A.sets + 1) stem cycle × (length stem + length cycle ≡ length h.stem + length h.cycle)
  walk_found h = both (walked (searched_start A names B) h.stem h.state h.arrives) (walked h.state h.cycle h.state h.cycles.closes)
    where
      both : Walked (searched_start A names B) h.stem h.state → Walked h.state h.cycle h.state → (stem : List Taken) × (cycle : List Taken) × IsFullWalk net (A.sets + 1) stem cycle × (length stem + length cycle ≡ length h.stem + length h.cycle)
      both f t = (
        f.steps,
        t.steps,
        record {
          end = h.state;
          arrives = subst (λ s. IsStepPath net s f.steps h.state) (sym starts) f.stem;
          cycles = t.stem;
          moves = λ z. h.cycles.moves (t.moves z);
          takes = λ k l. let x = h.cycles.marks k l in t.takes k x.0 x.1 x.2;
        },
        let l = f.long in let m = t.long in omega arith,
      )

  -- paths on levels

  same_has : (ms ns : List ℕ) (j : ℕ) → (Has ns j → in_set ms j ≡ true) → (in_set ms j ≡ true → Has ns j) → in_set ms j ≡ has nat_cmp j ns
  same_has ms ns j f g = by (has nat_cmp j ns) refl
    where
      no : in_set ms j ≡ true → has nat_cmp j ns ≡ false → ⊥
      no e z = let t = (has_Decides nat_linear j ns).1 (g e) in cc

      by : (b : Bool) → has nat_cmp j ns ≡ b → in_set ms j ≡ b
      by true e = f ((has_Decides nat_linear j ns).0 e)
      by false e = lacks (in_set ms j) refl
        where
          lacks : (b : Bool) → in_set ms j ≡ b → b ≡ false
          lacks false z = refl
          lacks true z = absurd (no z e)

  climb_alike : (ms ns : List ℕ) → ((j : ℕ) → in_set ms j ≡ has nat_cmp j ns) → (n at : ℕ) → climb n ms at ≡ climb n ns at
  climb_alike ms ns h zero at = refl
  climb_alike ms ns h (suc n) at = ap (λ b. cond b (climb n ms (at + 1)) at) (h at) ∙ ap (λ m. cond (has nat_cmp at ns) m at) (climb_alike ms ns h n (at + 1))

  abbrev height : ℕ
  height = A.sets + 1

  level_alike : (ms ns : List ℕ) (level : ℕ) → ((j : ℕ) → in_set ms j ≡ has nat_cmp j ns) → next_level height ms level ≡ next_level height ns level
  level_alike ms ns level h = climb_alike ms ns h (height - first_level height level) (first_level height level)

  -- from a path on levels to a walk
  level_walked : (es : List Edge) (s level e last : ℕ) → level ≤ height → IsLevelPath graph (record { state = s; level = level }) es (record { state = e; level = last })
      → (ts : List Taken) × IsStepPath (levels_net height net) (s * (height + 1) + level) ts (e * (height + 1) + last)
  level_walked [] s level e last l p =
      let a : s ≡ e = ap (λ (c : LevelState). c.state) p in
      let b : level ≡ last = ap (λ (c : LevelState). c.level) p in
      ([], ap (λ n. n * (height + 1) + level) a ∙ ap (λ n. e * (height + 1) + n) b)
  level_walked (x ∷ es) s level e last l p =
      let o = looked s x p.0 in
      let d : (s * (height + 1) + level) / (height + 1) ≡ s = div-mul-add s (height + 1) level (omega arith) in
      let m : (s * (height + 1) + level) % (height + 1) ≡ level = mod-mul-add s (height + 1) level (omega arith) in
      let up : next_level height o.step.marks level ≡ next_level height x.marks level = level_alike o.step.marks x.marks level (λ j. same_has o.step.marks x.marks j (o.marks j) (o.back j)) in
      let leads : o.step.target * (height + 1) + next_level height o.step.marks level ≡ x.target * (height + 1) + next_level height x.marks level =
      ap (λ n. n * (height + 1) + next_level height o.step.marks level) o.leads ∙ ap (λ n. x.target * (height + 1) + n) up in
      let (ts, stem) = level_walked es x.target (next_level height x.marks level) e last (next_level_most height level x.marks l) p.1 in (
        record { state = s * (height + 1) + level; pick = o.pick; letter = o.step.letter } ∷ ts,
        (
          refl,
          (
            on_level height level o.step,
            record {
              within = subst (λ n. o.pick < net.pairs n) (sym d) o.successor.within;
              found =
                  ap (λ n. option_map (on_level height n) (net.successor ((s * (height + 1) + level) / (height + 1)) o.pick)) m
                  ∙ ap (λ n. option_map (on_level height level) (net.successor n o.pick)) d
                  ∙ ap (option_map (on_level height level)) o.successor.found;
            },
            refl,
            subst (λ n. IsStepPath (levels_net height net) n ts (e * (height + 1) + last)) (sym leads) stem,
          ),
        ),
      )

  -- what is reached on levels is reached by looks
  pub reached_by_looks : (n : ℕ) → IsReachedLevelState A names B n → Reached (levels_net height net) n
  reached_by_looks n (es, p) =
      let (ts, stem) = level_walked es (searched_start A names B) 0 (n / (A.sets + 2)) (n % (A.sets + 2)) (omega arith) p in
      let two : A.sets + 2 ≡ height + 1 = omega arith in
      let end : (n / (A.sets + 2)) * (height + 1) + n % (A.sets + 2) ≡ n = ap (λ k. (n / k) * (height + 1) + n % k) two ∙ again_of n in
      let begin : searched_start A names B * (height + 1) + 0 ≡ net.start * (height + 1) = plain (searched_start A names B * (height + 1)) ∙ ap (λ k. k * (height + 1)) (sym starts) in
      (ts, subst (λ k. IsStepPath (levels_net height net) k ts n) begin (subst (IsStepPath (levels_net height net) (searched_start A names B * (height + 1) + 0) ts) end stem))
    where
      again_of : (n : ℕ) → (n / (height + 1)) * (height + 1) + n % (height + 1) ≡ n
      again_of n = omega arith

      plain : (k : ℕ) → k + 0 ≡ k
      plain k = omega arith
