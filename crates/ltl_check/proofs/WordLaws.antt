-- A walk of the product of an automaton and a word makes the automaton accept the word.
use Rattle.std.proofs.Common.{◌≡◌, ◌≢◌, ◌∙◌, ◌↔◌, ap, ap₂, sym, refl, subst, ℕ, zero, suc, ◌+◌, ◌-◌, ◌*◌, ◌/◌, ◌%◌, ◌<◌, Bool, true, false, inl, inr, List, [], ◌∷◌, length, map, Some, None, arith}
use Rattle.std.specs.Prelude.{◌&&◌, cond, nat_lt, slice_index_or, IsTrue}
use Rattle.std.specs.Bool.{beq}
use Rattle.std.specs.Ordering.{nat_cmp}
use Rattle.std.proofs.lemmas.Nat.{div-mul-add, mod-mul-add}
use Rattle.ltl_spec.specs.Collections.Sets.{Has, has}
use Rattle.ltl_spec.specs.Semantics.Word.{Name, Lasso, is_true_at, next}
use Rattle.ltl_spec.specs.Transitions.Cubes.{Cube, Literal, allows}
use Rattle.ltl_spec.specs.Automata.Automaton.{Automaton, State, Edge, IsWalk, Accepts, AcceptedFrom, state_at}
use Rattle.ltl_spec.specs.Hoa.HoaReading.{MarkedAutomaton}
use Rattle.ltl_spec.specs.Checking.Check.{MarkedAccepts, graph_of}
use Rattle.ltl_spec.proofs.Automata.ListedStates.{no_state}
use Rattle.ltl_spec.proofs.Collections.SetLaws.{has_Decides}
use Rattle.ltl_spec.proofs.Collections.ListLaws.{All-at_has, Has-at}
use Rattle.ltl_spec.proofs.Collections.Orders.{nat_linear}
use Rattle.ltl_spec.proofs.Semantics.LeavingEdges.{leaving, leaving_state, leaving_accepts}
use Rattle.ltl_hoa.specs.Printed.{marked_edge, marked_of}
use Rattle.ltl_check.specs.declared.graph.Step.{Step}
use Rattle.ltl_check.specs.declared.walk.Taken.{Taken}
use Rattle.ltl_check.specs.declared.walk.Walk.{Walk}
use Rattle.ltl_check.specs.declared.breadth.Task.{Task}
use Rattle.ltl_check.specs.declared.shortest.Shorter.{Shorter}
use Rattle.ltl_check.specs.declared.shortest.Shorter.TheVariants.{Found}
use Rattle.ltl_check.specs.declared.word_product.WordState.{WordState}
use Rattle.ltl_check.specs.Shortened.{IsShorter}
use Rattle.ltl_check.specs.LevelLaws.{mapped}
use Rattle.ltl_check.specs.Levels.{IsFullWalk, Takes, numbered}
use Rattle.ltl_check.specs.Nets.{IsSuccessor, IsStepPath, Net}
use Rattle.ltl_check.specs.ProductView.{edge_from, edges_from, no_edge}
use Rattle.ltl_check.specs.WordLetters.{AreLetters, letter_in}
use Rattle.ltl_check.specs.WordProductLaws.{after_below, edge_within, number_below, some_position, state_of_number, step_is}
use Rattle.ltl_check.specs.WordView.{IsInside, position_after, step_along, word_net, word_number, word_start, word_state, word_step}

-- letters that agree on the literals' propositions
allows_alike : (f g : ℕ → Bool) (c : Cube) → ((l : Literal) → Has c l → f l.proposition ≡ g l.proposition) → allows f c ≡ allows g c
allows_alike f g [] h = refl
allows_alike f g (l ∷ ls) h = ap₂ (λ (a b : Bool). beq a l.positive && b) (h l (inl refl)) (allows_alike f g ls (λ m k. h m (inr k)))

-- the edges of a state of the graph, whose states are all accepting
abbrev state_with : List Edge → State
state_with es = record { accepting = true; edges = es }

pub at_state : (ess : List (List Edge)) (s : ℕ) → (slice_index_or (map state_with ess) s no_state).edges ≡ slice_index_or ess s []
at_state [] zero = refl
at_state [] (suc s) = refl
at_state (es ∷ ess) zero = refl
at_state (es ∷ ess) (suc s) = at_state ess s

pub all_accept : (ess : List (List Edge)) (s : ℕ) → (slice_index_or (map state_with ess) s no_state).accepting ≡ true
all_accept [] zero = refl
all_accept [] (suc s) = refl
all_accept (es ∷ ess) zero = refl
all_accept (es ∷ ess) (suc s) = all_accept ess s

module _ (A : MarkedAutomaton) (w : Lasso) (letters : List (List ℕ)) (marked : IsInside A) (are : AreLetters A.names w letters) (turning : length w.stem < length letters) where
  abbrev stem : ℕ
  stem = length w.stem

  abbrev states : ℕ
  states = A.states

  abbrev count : ℕ
  count = length letters * A.states

  abbrev net : Net
  net = word_net A letters stem

  -- the letters say the same
  pub meets : (s k i : ℕ) → s < A.states → k < length (edges_from A s) → i < length letters → allows (λ p. has nat_cmp p (letter_in letters i)) (edge_from A s k).cube ≡ allows (is_true_at A.names w i) (edge_from A s k).cube
  meets s k i ls lk li =
      allows_alike (λ p. has nat_cmp p (letter_in letters i)) (is_true_at A.names w i) (edge_from A s k).cube
      (λ l h. are.truth i l.proposition (subst (λ n. i < n) are.long li) (All-at_has (λ (x : Literal). x.proposition < length A.names) (edge_from A s k).cube (edge_within A marked s k ls lk).cube l h))

  pub next_same : (i : ℕ) → position_after A letters stem i ≡ next w i
  next_same i = ap (λ n. cond (nat_lt (i + 1) n) (i + 1) stem) are.long

  pub record Along (n k : ℕ) (a : Step ℕ) : Type 0 where
    pub place : k < length (edges_from A (n % states))
    pub met : allows (is_true_at A.names w (n / states)) (edge_from A (n % states) k).cube ≡ true
    pub state : a.target % states ≡ (edge_from A (n % states) k).target
    pub position : a.target / states ≡ next w (n / states)
    pub below : a.target < count
    pub marks : a.marks ≡ (edge_from A (n % states) k).marks

  pub along : (n k : ℕ) (a : Step ℕ) → n < count → IsSuccessor net n k a → Along n k a
  along n k a l successor =
      let at = state_of_number A letters stem n l in
      let v = mapped (numbered (word_number A letters stem)) (word_step A letters stem (word_state A letters stem n) k) a successor.found in
      let q = step_is A letters stem (word_state A letters stem n) k v.0 v.1 in
      let is : numbered (word_number A letters stem) (step_along A letters stem (word_state A letters stem n) (edge_from A (n % states) k)) ≡ a = ap (numbered (word_number A letters stem)) q.1 ∙ v.2 in
      let to : a.target ≡ position_after A letters stem (n / states) * states + (edge_from A (n % states) k).target = ap (λ (x : Step ℕ). x.target) (sym is) in
      let after = after_below A letters stem turning (n / states) in
      let within = edge_within A marked (n % states) k at.0 successor.within in
      record {
        place = successor.within;
        met = sym (meets (n % states) k (n / states) at.0 successor.within at.1) ∙ q.0;
        state = ap (λ m. m % states) to ∙ mod-mul-add (position_after A letters stem (n / states)) states (edge_from A (n % states) k).target within.target;
        position = ap (λ m. m / states) to ∙ div-mul-add (position_after A letters stem (n / states)) states (edge_from A (n % states) k).target within.target ∙ next_same (n / states);
        below = subst (λ m. m < count) (sym to) (number_below A letters stem (record { state = (edge_from A (n % states) k).target; position = position_after A letters stem (n / states) }) (within.target, after));
        marks = ap (λ (x : Step ℕ). x.marks) (sym is);
      }

  pub path_below : (s : ℕ) (ts : List Taken) (e : ℕ) → s < count → IsStepPath net s ts e → e < count
  path_below s [] e l h = subst (λ n. n < count) h l
  path_below s (t ∷ ts) e l (same, (a, successor, letter, rest)) = path_below a.target ts e (along t.state t.pick a (subst (λ n. n < count) (sym same) l) successor).below rest

  -- the edge of a step
  abbrev edge_of : Taken → Edge
  edge_of t = edge_from A (t.state % states) t.pick

  abbrev truth : ℕ → ℕ → Bool
  truth = is_true_at A.names w

  walks : (s : ℕ) (ts : List Taken) (e : ℕ) → s < count → IsStepPath net s ts e → IsWalk (graph_of A) truth (next w) (s % states) (s / states) (map edge_of ts) (e % states) (e / states)
  walks s [] e l h = (ap (λ n. n % states) h, ap (λ n. n / states) h)
  walks s (t ∷ ts) e l (same, (a, successor, letter, rest)) =
      let step = along t.state t.pick a (subst (λ n. n < count) (sym same) l) successor in
      let here : t.state / states ≡ s / states = ap (λ n. n / states) same in
      let state : t.state % states ≡ s % states = ap (λ n. n % states) same in
      let later = walks a.target ts e step.below rest in (
        subst (λ n. Has (state_at (graph_of A) n).edges (edge_of t)) state
            (subst (λ xs. Has xs (edge_of t)) (sym (at_state A.edges (t.state % states))) (Has-at (edges_from A (t.state % states)) t.pick no_edge step.place)),
        subst (λ i. allows (truth i) (edge_of t).cube ≡ true) here step.met,
        subst (λ n. IsWalk (graph_of A) truth (next w) n (next w (s / states)) (map edge_of ts) (e % states) (e / states)) step.state
            (subst (λ i. IsWalk (graph_of A) truth (next w) (a.target % states) i (map edge_of ts) (e % states) (e / states)) (step.position ∙ ap (next w) here) later),
      )

  marks_met : (s : ℕ) (ts : List Taken) (e j : ℕ) → s < count → IsStepPath net s ts e → Takes net ts j → (x : Edge) × Has (map edge_of ts) x × Has x.marks j
  marks_met s [] e j l h m = absurd m
  marks_met s (t ∷ ts) e j l (same, (a, own, letter, rest)) (inl (b, successor, m)) =
      let step = along t.state t.pick b (subst (λ n. n < count) (sym same) l) successor in
      (edge_of t, inl refl, subst (λ ks. Has ks j) step.marks ((has_Decides nat_linear j b.marks).0 m))
  marks_met s (t ∷ ts) e j l (same, (a, successor, letter, rest)) (inr m) =
      let step = along t.state t.pick a (subst (λ n. n < count) (sym same) l) successor in
      let (x, h, k) = marks_met a.target ts e j step.below rest m in
      (x, inr h, k)

  pub start_below : 0 * A.states + A.start < count
  start_below = number_below A letters stem (word_start A letters stem) (marked.begins, some_position stem letters turning)

  moved : (ts : List Taken) → ts ≢ [] → map edge_of ts ≢ []
  moved [] f e = f refl
  moved (t ∷ ts) f e = cc

  some_accepts : (ts : List Taken) → ts ≢ [] → (x : Edge) × Has (map edge_of ts) x × IsTrue (state_at (graph_of A) x.target).accepting
  some_accepts [] f = absurd (f refl)
  some_accepts (t ∷ ts) f = (edge_of t, inl refl, all_accept A.edges (edge_of t).target)

  pub walk_accepts : (prefix cycle : List Taken) → IsFullWalk net A.sets prefix cycle → MarkedAccepts A w
  walk_accepts prefix cycle h =
      let first = walks (0 * A.states + A.start) prefix h.end start_below h.arrives in
      let below = path_below (0 * A.states + A.start) prefix h.end start_below h.arrives in
      record {
        state = h.end % states;
        position = h.end / states;
        stem = map edge_of prefix;
        cycle = map edge_of cycle;
        arrives = subst (λ n. IsWalk (graph_of A) truth (next w) n 0 (map edge_of prefix) (h.end % states) (h.end / states)) (mod-mul-add 0 A.states A.start marked.begins)
            (subst (λ i. IsWalk (graph_of A) truth (next w) ((0 * A.states + A.start) % states) i (map edge_of prefix) (h.end % states) (h.end / states)) (div-mul-add 0 A.states A.start marked.begins) first);
        cycles = record {
          closes = walks h.end cycle h.end below h.cycles;
          moves = moved cycle h.moves;
          accepts = some_accepts cycle h.moves;
          marks = λ k l. marks_met h.end cycle h.end k below h.cycles (h.takes k l);
        };
      }

-- a search that finds one
pub shorter_accepts : {T : Type 0} (A : MarkedAutomaton) (w : Lasso) (letters : List (List ℕ)) → IsInside A → AreLetters A.names w letters → length w.stem < length letters
    → (N : Net) (task : Task) (limit : ℕ) (r : Shorter T) (walk : Walk T) → N ≡ word_net A letters (length w.stem) → task.sets ≡ A.sets → r ≡ Found walk → IsShorter N task limit r → MarkedAccepts A w
shorter_accepts A w letters inside are turning N task limit r walk n t e h =
    let f : IsShorter N task limit (Found walk) = subst (IsShorter N task limit) e h in
    walk_accepts A w letters inside are turning walk.stem.items walk.cycle.items
    (subst (λ M. IsFullWalk M A.sets walk.stem.items walk.cycle.items) n (subst (λ s. IsFullWalk N s walk.stem.items walk.cycle.items) t f.0))

-- what is read at a place is there, whatever stands for nothing
pub any_default : {X : Type 0} (xs : List X) (i : ℕ) (d e : X) → i < length xs → slice_index_or xs i d ≡ slice_index_or xs i e
any_default [] i d e l = absurd (omega (arith, l))
any_default (x ∷ xs) zero d e l = refl
any_default (x ∷ xs) (suc i) d e l = any_default xs i d e (omega (arith, l))

-- an edge whose label the letter contradicts
pub no_step : (A : MarkedAutomaton) (letters : List (List ℕ)) (stem : ℕ) (s : WordState) (k : ℕ) (cube : Cube) (letter : List ℕ) → cube ≡ (edge_from A s.state k).cube → letter ≡ letter_in letters s.position
    → allows (λ p. has nat_cmp p letter) cube ≡ false → None ≡ word_step A letters stem s k
no_step A letters stem s k cube letter e f h =
    let t : allows (λ p. has nat_cmp p (letter_in letters s.position)) (edge_from A s.state k).cube ≡ false = (λ i. allows (λ p. has nat_cmp p (sym f i)) (sym e i)) ∙ h in
    sym (ap (λ b. cond b (Some (step_along A letters stem s (edge_from A s.state k))) None) t)

-- the sets of a Büchi automaton with names are those of the edges that leave accepting states
marked_graph : (B : Automaton) (names : List Name) → graph_of (marked_of B names) ≡ leaving B
marked_graph B names = ap (λ ss. let A : Automaton = record { sets = 1; states = ss } in A) (over B.states)
  where
    over : (ss : List State) → map (λ es. let t : State = record { accepting = true; edges = es } in t) (map (λ (s : State). map (marked_edge s.accepting) s.edges) ss) ≡ map leaving_state ss
    over [] = refl
    over (s ∷ ss) = ap (λ ts. leaving_state s ∷ ts) (over ss)

-- a Büchi automaton accepts what it accepts with names
pub named_alike : (B : Automaton) (names : List Name) → B.sets ≡ 0 → (w : Lasso) → MarkedAccepts (marked_of B names) w ↔ Accepts names B w
named_alike B names none w =
    subst (λ G. AcceptedFrom 0 G (is_true_at names w) (next w) ↔ Accepts names B w) (sym (marked_graph B names)) (leaving_accepts B (is_true_at names w) (next w) none 0)
