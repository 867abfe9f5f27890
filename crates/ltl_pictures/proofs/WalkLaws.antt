-- Walks of an automaton at the positions of a word are its runs on the word, and the word is accepted where there is one.
use Rattle.std.proofs.Common.{◌≡◌, ◌≢◌, ◌∙◌, ap, ap₂, sym, refl, subst, ℕ, suc, ◌+◌, ◌*◌, ◌/◌, ◌%◌, ◌<◌, ◌≤◌, true, inl, inr, List, [], ◌∷◌, length, map, Some, None, arith}
use Rattle.std.specs.Prelude.{cond, option_map, slice_index_or, Option, Result, Ok, Err, IfOk, IfSome}
use Rattle.std.specs.Ordering.{nat_cmp}
use Rattle.std.proofs.Math.Nat.{mul_comm}
use Rattle.std.proofs.lemmas.Nat.{div-mul-add, mod-mul-add}
use Rattle.ltl_spec.specs.Collections.Sets.{Has, has}
use Rattle.ltl_spec.specs.Semantics.Word.{Lasso, is_true_at, next}
use Rattle.ltl_spec.specs.Transitions.Cubes.{allows}
use Rattle.ltl_spec.specs.Automata.Automaton.{Edge, IsWalk}
use Rattle.ltl_spec.specs.Hoa.HoaReading.{MarkedAutomaton}
use Rattle.ltl_spec.specs.Checking.Check.{MarkedAccepts, graph_of}
use Rattle.ltl_spec.proofs.Collections.SetLaws.{has_Decides}
use Rattle.ltl_spec.proofs.Collections.Orders.{nat_linear}
use Rattle.ltl_check.specs.declared.graph.Step.{Step}
use Rattle.ltl_check.specs.declared.walk.Taken.{Taken}
use Rattle.ltl_check.specs.declared.word_product.WordState.{WordState}
use Rattle.ltl_check.specs.declared.walk.Walk.{Walk}
use Rattle.ltl_check.specs.Levels.{IsFullWalk, Takes, numbered}
use Rattle.ltl_check.specs.Nets.{IsSuccessor, IsStepPath, Net}
use Rattle.ltl_check.specs.ProductView.{edge_from, edges_from, no_edge}
use Rattle.ltl_check.specs.WordLetters.{AreLetters, letter_in}
use Rattle.ltl_check.specs.WordProductLaws.{after_below, edge_within, some_position, state_back}
use Rattle.ltl_check.specs.WordView.{IsInside, step_along, word_net, word_number, word_step}
use Rattle.ltl_check.proofs.WordLaws.{Along, along, at_state, meets, next_same, path_below, start_below}
use Rattle.ltl_pictures.specs.declared.pick.Pick.{Pick}
use Rattle.ltl_pictures.specs.Picks.{IsFoundRun, IsFullRun, pick_of, picks_of}
use Rattle.ltl_pictures.specs.Runs.{IsAcceptingRun, IsRun, IsRunOf, edge_of_pick}

-- the states on all levels, in another order
pub swapped : (states rows positions levels most : ℕ) → rows ≡ positions → states * positions * levels ≤ most → rows * states * levels ≤ most
swapped states rows positions levels most e l = subst (λ n. n * levels ≤ most) (mul_comm states positions ∙ ap (λ n. n * states) (sym e)) l

-- a member stands at some place
place_in : {K : Type 0} (xs : List K) (x d : K) → Has xs x → (i : ℕ) × (i < length xs) × (slice_index_or xs i d ≡ x)
place_in [] x d h = absurd h
place_in (y ∷ ys) x d (inl e) = (0, omega arith, sym e)
place_in (y ∷ ys) x d (inr h) = let w = place_in ys x d h in let l = w.1 in (suc w.0, omega arith, w.2)

module _ (A : MarkedAutomaton) (w : Lasso) (letters : List (List ℕ)) (marked : IsInside A) (are : AreLetters A.names w letters) (turning : length w.stem < length letters) where
  abbrev stem : ℕ
  stem = length w.stem

  abbrev states : ℕ
  states = A.states

  abbrev count : ℕ
  count = length letters * A.states

  abbrev net : Net
  net = word_net A letters stem

  abbrev edge : ℕ → ℕ → Edge
  edge s k = edge_from A s k

  -- the edge of a step, and where it leads
  taken : (t : Taken) (s : ℕ) (a : Step ℕ) → s < count → t.state ≡ s → IsSuccessor net t.state t.pick a → Along A w letters marked are turning t.state t.pick a
  taken t s a l same successor = along A w letters marked are turning t.state t.pick a (subst (λ n. n < count) (sym same) l) successor

  -- ---- from walks to runs
  runs : (s : ℕ) (ts : List Taken) (e : ℕ) → s < count → IsStepPath net s ts e → IsRun A w (s % states) (s / states) (map (pick_of states) ts) (e % states) (e / states)
  runs s [] e l h = (ap (λ n. n % states) h, ap (λ n. n / states) h)
  runs s (t ∷ ts) e l (same, (a, successor, letter, rest)) =
      let step = taken t s a l same successor in
      let here : t.state / states ≡ s / states = ap (λ n. n / states) same in
      let later = runs a.target ts e step.below rest in (
        ap (λ n. n % states) same,
        step.place,
        subst (λ i. allows (is_true_at A.names w i) (edge (t.state % states) t.pick).cube ≡ true) here step.met,
        subst (λ n. IsRun A w n (next w (s / states)) (map (pick_of states) ts) (e % states) (e / states)) step.state
            (subst (λ i. IsRun A w (a.target % states) i (map (pick_of states) ts) (e % states) (e / states)) (step.position ∙ ap (next w) here) later),
      )

  marks_met : (s : ℕ) (ts : List Taken) (e j : ℕ) → s < count → IsStepPath net s ts e → Takes net ts j → (q : Pick) × Has (map (pick_of states) ts) q × Has (edge_of_pick A w q).marks j
  marks_met s [] e j l h m = absurd m
  marks_met s (t ∷ ts) e j l (same, (a, own, letter, rest)) (inl (b, successor, m)) =
      let step = taken t s b l same successor in
      (pick_of states t, inl refl, subst (λ ks. Has ks j) step.marks ((has_Decides nat_linear j b.marks).0 m))
  marks_met s (t ∷ ts) e j l (same, (a, successor, letter, rest)) (inr m) =
      let step = taken t s a l same successor in
      let (q, h, k) = marks_met a.target ts e j step.below rest m in
      (q, inr h, k)

  moved : (ts : List Taken) → ts ≢ [] → map (pick_of states) ts ≢ []
  moved [] f e = f refl
  moved (t ∷ ts) f e = cc

  pub found_run : (prefix cycle : List Taken) → IsFullRun A letters stem prefix cycle → IsAcceptingRun A w (picks_of states prefix cycle)
  found_run prefix cycle h =
      let starts = start_below A w letters marked are turning in
      let first = runs (0 * A.states + A.start) prefix h.end starts h.arrives in
      let below = path_below A w letters marked are turning (0 * A.states + A.start) prefix h.end starts h.arrives in
      record {
        prefix = map (pick_of states) prefix;
        cycle = map (pick_of states) cycle;
        state = h.end % states;
        position = h.end / states;
        whole = refl;
        arrives = subst (λ n. IsRun A w n 0 (map (pick_of states) prefix) (h.end % states) (h.end / states)) (mod-mul-add 0 A.states A.start marked.begins)
            (subst (λ i. IsRun A w ((0 * A.states + A.start) % states) i (map (pick_of states) prefix) (h.end % states) (h.end / states)) (div-mul-add 0 A.states A.start marked.begins) first);
        cycles = runs h.end cycle h.end below h.cycles;
        moves = moved cycle h.moves;
        marks = λ k l. marks_met h.end cycle h.end k below h.cycles (h.takes k l);
      }

  pub found_run_is : (run : List Pick) → IsFoundRun A letters stem run → IsAcceptingRun A w run
  found_run_is run (prefix, cycle, h, e) = subst (IsAcceptingRun A w) (sym e) (found_run prefix cycle h)

  -- ---- from runs to walks
  record Walked (s i : ℕ) (es : List Edge) (t j : ℕ) : Type 0 where
    steps : List Taken
    path : IsStepPath net (i * states + s) steps (j * states + t)
    moves : es ≢ [] → steps ≢ []
    takes : (k : ℕ) (e : Edge) → Has es e → Has e.marks k → Takes net steps k
    inside : (t < A.states) × (j < length letters)

  successor_there : (s i k : ℕ) (e : Edge) → s < A.states → i < length letters → k < length (edges_from A s) → edge s k ≡ e → allows (is_true_at A.names w i) e.cube ≡ true
      → IsSuccessor net (i * states + s) k (numbered (word_number A letters stem) (step_along A letters stem (record { state = s; position = i }) e))
  successor_there s i k e ls li lk is met =
      let back = state_back A letters stem (record { state = s; position = i }) (ls, li) in
      let met' : allows (λ p. has nat_cmp p (letter_in letters i)) (edge s k).cube ≡ true = meets A w letters marked are turning s k i ls lk li ∙ ap (λ (x : Edge). allows (is_true_at A.names w i) x.cube) is ∙ met in
      let step : word_step A letters stem (record { state = s; position = i }) k ≡ Some (step_along A letters stem (record { state = s; position = i }) e) =
      ap (λ b. cond b (Some (step_along A letters stem (record { state = s; position = i }) (edge s k))) None) met' ∙ ap (λ x. Some (step_along A letters stem (record { state = s; position = i }) x)) is in
      record {
        within = subst (λ (p : WordState). k < length (edges_from A p.state)) (sym back) lk;
        found = ap (λ (p : WordState). option_map (numbered (word_number A letters stem)) (word_step A letters stem p k)) back ∙ ap (option_map (numbered (word_number A letters stem))) step;
      }

  walks : (s i : ℕ) (es : List Edge) (t j : ℕ) → s < A.states → i < length letters → IsWalk (graph_of A) (is_true_at A.names w) (next w) s i es t j → Walked s i es t j
  walks s i [] t j ls li (a, b) = record {
    steps = [];
    path = ap₂ (λ x y. y * states + x) a b;
    moves = λ f. absurd (f refl);
    takes = λ k e h. absurd h;
    inside = (subst (λ n. n < A.states) a ls, subst (λ n. n < length letters) b li);
  }
  walks s i (e ∷ es) t j ls li (h, met, rest) =
      let (k, lk, is) = place_in (edges_from A s) e no_edge (subst (λ xs. Has xs e) (at_state A.edges s) h) in
      let there = successor_there s i k e ls li lk is met in
      let target : e.target < A.states = subst (λ (x : Edge). x.target < A.states) is (edge_within A marked s k ls lk).target in
      let same = next_same A w letters marked are turning i in
      let after : next w i < length letters = subst (λ n. n < length letters) same (after_below A letters stem turning i) in
      let later = walks e.target (next w i) es t j target after rest in
      let step : Step ℕ = numbered (word_number A letters stem) (step_along A letters stem (record { state = s; position = i }) e) in
      record {
        steps = record { state = i * states + s; pick = k; letter = letter_in letters i } ∷ later.steps;
        path = (refl, (step, there, refl, subst (λ n. IsStepPath net (n * states + e.target) later.steps (j * states + t)) (sym same) later.path));
        moves = λ f q. absurd (cc);
        takes = λ m d. elim [
          | inl q ↦ λ o. inl (step, there, (has_Decides nat_linear m e.marks).1 (subst (λ (x : Edge). Has x.marks m) q o))
          | inr z ↦ λ o. inr (later.takes m d z o)
        ];
        inside = later.inside;
      }

  pub no_run : ((prefix cycle : List Taken) → IsFullRun A letters stem prefix cycle → ⊥) → MarkedAccepts A w → ⊥
  no_run none h =
      let first = walks A.start 0 h.stem h.state h.position marked.begins (some_position stem letters turning) h.arrives in
      let round = walks h.state h.position h.cycle h.state h.position first.inside.0 first.inside.1 h.cycles.closes in
      none first.steps round.steps (record {
        end = h.position * states + h.state;
        arrives = first.path;
        cycles = round.path;
        moves = round.moves h.cycles.moves;
        takes = λ k l. let (e, m, o) = h.cycles.marks k l in round.takes k e m o;
      })

  pub run_is : {V E : Type 0} (items : V → List Pick) (r : Result (Option V) E) → IfOk r (λ o. IfSome o (λ v. IsFoundRun A letters stem (items v))) → (r ≡ Ok None → (prefix cycle : List Taken) → IsFullRun A letters stem prefix cycle → ⊥)
      → IfOk r (λ o. IsRunOf A w (option_map items o))
  run_is items (Err e) found none = found
  run_is items (Ok None) found none = no_run (none refl)
  run_is items (Ok (Some v)) found none = found_run_is (items v) found

-- what the search of the product says, of the walks along the word
module _ {E T : Type 0} (A : MarkedAutomaton) (letters : List (List ℕ)) (stem sets : ℕ) (N : Net) (n : N ≡ word_net A letters stem) (s : sets ≡ A.sets) (r : Result (Option (Walk T)) E) where
  pub found_picks : (walk : Walk T) (picks : List Pick) → r ≡ Ok (Some walk) → IfOk r (λ o. IfSome o (λ v. IsFullWalk N sets v.stem.items v.cycle.items)) → picks ≡ picks_of A.states walk.stem.items walk.cycle.items → IsFoundRun A letters stem picks
  found_picks walk picks e h p =
      let f : IsFullWalk N sets walk.stem.items walk.cycle.items = subst (λ q. IfOk q (λ o. IfSome o (λ (v : Walk T). IsFullWalk N sets v.stem.items v.cycle.items))) e h in
      (walk.stem.items, walk.cycle.items, subst (λ M. IsFullWalk M A.sets walk.stem.items walk.cycle.items) n (subst (λ k. IsFullWalk N k walk.stem.items walk.cycle.items) s f), p)

  pub found_none : (r ≡ Ok None → (prefix cycle : List Taken) → IsFullWalk N sets prefix cycle → ⊥) → r ≡ Ok None → (prefix cycle : List Taken) → IsFullRun A letters stem prefix cycle → ⊥
  found_none none e prefix cycle h = none e prefix cycle (subst (λ M. IsFullWalk M sets prefix cycle) (sym n) (subst (λ k. IsFullWalk (word_net A letters stem) k prefix cycle) (sym s) h))
