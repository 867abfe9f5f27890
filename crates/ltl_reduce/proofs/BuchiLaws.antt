-- The Büchi automaton of a reduction: its words, its states and its propositions.
use Rattle.std.proofs.Common.{◌≡◌, ◌∙◌, ◌<◌, ◌≤◌, ◌+◌, ◌*◌, ◌/◌, ◌%◌, ◌↔◌, ℕ, suc, true, false, cond, List, length, map, refl, sym, ap, subst, arith, suc-mul, mul-le-mul_right}
use Rattle.std.specs.Prelude.{◌==◌, slice_index, All}
use Rattle.std.specs.Ordering.{nat_cmp}
use Rattle.std.proofs.Math.Nat.{mul-le-mul}
use Rattle.std.proofs.lemmas.Nat.{div-mul-add, mod-mul-add}
use Rattle.ltl_spec.specs.Collections.Sets.{Has, set_of}
use Rattle.ltl_spec.specs.Collections.Lists.{place_of}
use Rattle.ltl_spec.specs.Semantics.Word.{Name, Lasso, next, is_true_at}
use Rattle.ltl_spec.specs.Transitions.Cubes.{Cube, Literal}
use Rattle.ltl_spec.specs.Automata.Automaton.{Automaton, State, Edge, Accepts, state_at}
use Rattle.ltl_spec.specs.Automata.Net.{targets_of}
use Rattle.ltl_spec.specs.Checking.Bounds.{HasNamesBelow}
use Rattle.ltl_spec.specs.Construction.Levels.{LevelEdge, LevelState, level_automaton, level_edge, level_edges, level_net, same_level_state, start_copy}
use Rattle.ltl_spec.specs.Construction.Merging.{class_names, merged_automaton, retargeted_state, without_implied}
use Rattle.ltl_spec.specs.Construction.Renumbered.{renumbered_automaton}
use Rattle.ltl_spec.specs.Construction.Translation.{Options, buchi_automaton}
use Rattle.ltl_spec.specs.Hoa.HoaPrinted.{marked_of}
use Rattle.ltl_spec.specs.Hoa.HoaReading.{MarkedAutomaton}
use Rattle.ltl_spec.proofs.Automata.ListedStates.{has_edge_below, no_state}
use Rattle.ltl_spec.proofs.Automata.ListingReach.{listed_short}
use Rattle.ltl_spec.proofs.Checking.GeneralizedRead.{marked_accepts}
use Rattle.ltl_spec.proofs.Collections.ListLaws.{All-at_has, Has-at}
use Rattle.ltl_spec.proofs.Collections.MemberLaws.{map_cases, map_length}
use Rattle.ltl_spec.proofs.Collections.Orders.{level_edge_linear}
use Rattle.ltl_spec.proofs.Collections.SetLaws.{set_of_cases}
use Rattle.ltl_spec.proofs.Collections.SumLaws.{set_of_length}
use Rattle.ltl_spec.proofs.Construction.ClimbLaws.{next_level_most}
use Rattle.ltl_spec.proofs.Construction.EdgeBounds.{merged_all, moves_all, renumbered_all, renumbered_few}
use Rattle.ltl_spec.proofs.Construction.LevelRuns.{copies, copy_number, levels_closed, same_level_state_Decides}
use Rattle.ltl_spec.proofs.Construction.MergingRuns.{merged_closed}
use Rattle.ltl_spec.proofs.Construction.QuotientRuns.{HasAllAccepting, HasSetEdges}
use Rattle.ltl_spec.proofs.Construction.RoundLaws.{names_length}
use Rattle.ltl_spec.proofs.Semantics.LanguageLaws.{buchi_run, run_of_buchi}
use Rattle.ltl_spec.proofs.Semantics.RunLaws.{accepts_by_run}
use Rattle.ltl_spec.proofs.Semantics.Runs.{IsClosed}
use Rattle.ltl_automaton.proofs.TableLaws.{states_at}
use Rattle.ltl_models.specs.GbaView as gba
use Rattle.ltl_reduce.specs.Buchi.{HasFewStates, HasWordsOf}
use Rattle.ltl_reduce.specs.Reduced.{IsReduced}
use Rattle.ltl_reduce.specs.StateBased.{IsBasedBy}
use Rattle.ltl_reduce.proofs.StateBasedLaws.{accepted_state_based, accepts_merged, state_based_below, state_based_closed, state_based_sets}

-- ---- words

module _ (A : Automaton) (good : gba.IsAcceptingGba A) where
  within : (s : ℕ) (e : Edge) → Has (state_at A s).edges e → gba.IsEdgeWithin (length A.states) A.sets e
  within s e h =
      let P : Edge → Type 0 = gba.IsEdgeWithin (length A.states) A.sets in
      All-at_has P (state_at A s).edges (All-at_has (λ (t : State). All P t.edges) A.states good.inside.within (state_at A s) (Has-at A.states s no_state (has_edge_below A s e h))) e h

  closed : IsClosed A
  closed = record { begins = good.inside.some; inside = λ s e h. (within s e h).target }

  sets : HasSetEdges A
  sets s e h = (within s e h).rising

  accepting : HasAllAccepting A
  accepting s l = All-at_has (λ (t : State). t.accepting ≡ true) A.states good.accepting (state_at A s) (Has-at A.states s no_state l)

  accepts_buchi : (o : Options) (names : List Name) (w : Lasso) → 0 < length w.cycle → Accepts names A w ↔ Accepts names (buchi_automaton o A) w
  accepts_buchi o names w l =
      let (to, from) = accepts_by_run names A w l in
      let (on, back) = accepts_by_run names (buchi_automaton o A) w l in
      ((λ h. back (buchi_run o A closed sets accepting (is_true_at names w) (next w) (to h))), λ h. from (run_of_buchi o A closed sets accepting (is_true_at names w) (next w) (on h)))

-- ---- propositions

-- the propositions of the cube are below n
abbrev IsBelow : ℕ → Cube → Type 0
IsBelow n c = (l : Literal) → Has c l → l.proposition < n

levels_below : (n : ℕ) (A : Automaton) → HasNamesBelow n A → HasNamesBelow n (level_automaton A)
levels_below n A low = moves_all (λ v. IsBelow n v.cube) same_level_state true (level_net A) each start_copy 0 (length A.states * (A.sets + 1))
  where
    each : (c : LevelState) (e : LevelEdge) → Has (level_edges A c) e → (k : ℕ) → IsBelow n e.cube
    each c e h k =
        let (z, m, q) = map_cases (level_edge A c.level) (state_at A c.state).edges e (set_of_cases level_edge_linear (map (level_edge A c.level) (state_at A c.state).edges) e h) in
        subst (λ (v : LevelEdge). IsBelow n v.cube) (sym q) (low c.state z m)

merged_below : (n : ℕ) (o : Options) (A : Automaton) → HasNamesBelow n A → HasNamesBelow n (merged_automaton o.keep_implied o.keep_equal A)
merged_below n o A low = merged_all (λ v. IsBelow n v.cube) (λ f x m. m) A low o.keep_implied o.keep_equal

buchi_below : (n : ℕ) (o : Options) (A : Automaton) → HasNamesBelow n A → HasNamesBelow n (buchi_automaton o A)
buchi_below n o A low =
    let small = merged_automaton o.keep_implied o.keep_equal A in
    let leveled = level_automaton small in
    renumbered_all (λ v. IsBelow n v.cube) (λ f x m. m) (merged_automaton o.keep_implied o.keep_equal leveled) (merged_below n o leveled (levels_below n small (merged_below n o A low)))

-- ---- states

-- merging makes no more states
merged_few : (o : Options) (A : Automaton) → length (merged_automaton o.keep_implied o.keep_equal A).states ≤ length A.states
merged_few o A =
    let names = class_names A (cond o.keep_equal 0 (length A.states)) in
    let classes = set_of nat_cmp names in
    let a = map_length (λ c. without_implied o.keep_implied (retargeted_state (λ (s : ℕ). place_of ◌==◌ (slice_index names s) classes) (state_at A c))) classes in
    let b = set_of_length nat_cmp names in
    let c = names_length A (cond o.keep_equal 0 (length A.states)) in
    omega arith

-- the copies of the states, by state and level
module _ (A : Automaton) (is_closed : IsClosed A) where
  abbrev IsCopy : LevelState → Type 0
  IsCopy p = (p.state < length A.states) × (p.level ≤ A.sets)

  first_copy : IsCopy start_copy
  first_copy = (is_closed.begins, omega arith)

  next_copy : (p q : LevelState) → IsCopy p → Has (targets_of (level_net A) p) q → IsCopy q
  next_copy p q c h =
      let (f, m, e) = map_cases (λ (x : LevelEdge). x.copy) (level_edges A p) q h in
      let (z, n, d) = map_cases (level_edge A p.level) (state_at A p.state).edges f (set_of_cases level_edge_linear (map (level_edge A p.level) (state_at A p.state).edges) f m) in
      subst IsCopy (sym (e ∙ ap (λ (x : LevelEdge). x.copy) d)) (is_closed.inside p.state z n, next_level_most A.sets p.level z.marks c.1)

  copy_below : (p : LevelState) → IsCopy p → copy_number A.sets p < length A.states * (A.sets + 1)
  copy_below p (l, m) =
      let k : suc p.state * (A.sets + 1) ≤ length A.states * (A.sets + 1) = mul-le-mul_right (A.sets + 1) l in
      let e : suc p.state * (A.sets + 1) ≡ p.state * (A.sets + 1) + (A.sets + 1) = suc-mul p.state (A.sets + 1) in
      omega arith

  copies_differ : (p q : LevelState) → IsCopy p → IsCopy q → copy_number A.sets p ≡ copy_number A.sets q → p ≡ q
  copies_differ p q (k, l) (m, n) e =
      let w = A.sets + 1 in
      let a : p.level < w = omega arith in
      let b : q.level < w = omega arith in
      let s = sym (div-mul-add p.state w p.level a) ∙ ap (λ x. x / w) e ∙ div-mul-add q.state w q.level b in
      let t = sym (mod-mul-add p.state w p.level a) ∙ ap (λ x. x % w) e ∙ mod-mul-add q.state w q.level b in
      λ i. record { state = s i; level = t i }

  levels_few : length (level_automaton A).states ≤ length A.states * (A.sets + 1)
  levels_few =
      let count = length A.states * (A.sets + 1) in
      let a : length (level_automaton A).states ≡ length (copies A) = map_length _ (copies A) in
      let b : length (copies A) ≤ count = listed_short same_level_state same_level_state_Decides (targets_of (level_net A)) start_copy IsCopy first_copy next_copy (copy_number A.sets) count copy_below copies_differ count in
      omega arith

buchi_few : (o : Options) (A : Automaton) → IsClosed A → length (buchi_automaton o A).states ≤ length A.states * (A.sets + 1)
buchi_few o A c =
    let small = merged_automaton o.keep_implied o.keep_equal A in
    let leveled = level_automaton small in
    let smaller = merged_automaton o.keep_implied o.keep_equal leveled in
    let small_closed = merged_closed A o.keep_implied o.keep_equal c in
    let d : length small.states * (A.sets + 1) ≤ length A.states * (A.sets + 1) = mul-le-mul_right (A.sets + 1) (merged_few o A) in
    let e : length leveled.states ≤ length small.states * (A.sets + 1) = levels_few small small_closed in
    let f : length smaller.states ≤ length leveled.states = merged_few o leveled in
    let g : length (buchi_automaton o A).states ≤ length smaller.states = renumbered_few smaller (merged_closed leveled o.keep_implied o.keep_equal (levels_closed small small_closed)) in
    omega arith

-- ---- the Büchi automaton of a reduction

module _ (o : Options) (A : MarkedAutomaton) (given B : Automaton) (good : gba.IsAcceptingGba given) (is : B ≡ buchi_automaton o given) where
  pub words_on : IsReduced A (marked_of given A.names) → HasWordsOf A B
  words_on r = subst (HasWordsOf A) (sym is) (λ w l.
      let (to, from) = r.same w l in
      let (out, back) = marked_accepts given A.names (λ s h. All-at_has (λ (t : State). t.accepting ≡ true) given.states good.accepting s h) w in
      let (on, again) = accepts_buchi given good o A.names w l in
      ((λ h. on (out (to h))), λ h. from (back (again h))))

  pub few_on : IsReduced A (marked_of given A.names) → HasFewStates A B
  few_on r =
      let a : length (buchi_automaton o given).states ≤ length given.states * (given.sets + 1) = buchi_few o given (closed given good) in
      let b : length given.states * (given.sets + 1) ≤ A.states * (A.sets + 1) = let s : given.sets ≤ A.sets = r.sets in mul-le-mul r.states (omega arith) in
      subst (HasFewStates A) (sym is) (omega arith)

  pub below_on : (n : ℕ) → HasNamesBelow n given → HasNamesBelow n B
  below_on n low = subst (HasNamesBelow n) (sym is) (buchi_below n o given low)

-- ---- that of a reduction whose states accept

module _ (A : MarkedAutomaton) (given B C : Automaton) (good : gba.IsAcceptingGba given) (level : ℕ → ℕ) (based : IsBasedBy given level B) (is : C ≡ renumbered_automaton (merged_automaton false false B)) where
  based_closed : IsClosed B
  based_closed = state_based_closed given level B based (closed given good)

  pub words_based : IsReduced A (marked_of given A.names) → HasWordsOf A C
  words_based r = subst (HasWordsOf A) (sym is) (λ w l.
      let every : (s : ℕ) → (state_at given s).accepting ≡ true = λ s. states_at given (λ (t : State). t.accepting ≡ true) s refl good.accepting in
      let (to, from) = r.same w l in
      let (out, back) = marked_accepts given A.names (λ s h. All-at_has (λ (t : State). t.accepting ≡ true) given.states good.accepting s h) w in
      let (down, up) = accepted_state_based given level B based (is_true_at A.names w) (next w) every in
      let (on, again) = accepts_merged B based_closed (state_based_sets given level B based (sets given good)) A.names w l in
      ((λ h. on (down (out (to h)))), λ h. from (back (up (again h)))))

  pub few_based : IsReduced A (marked_of given A.names) → HasFewStates A C
  few_based r =
      let a : length (merged_automaton false false B).states ≤ length B.states = merged_few (record { keep_implied = false; keep_equal = false }) B in
      let b : length (renumbered_automaton (merged_automaton false false B)).states ≤ length (merged_automaton false false B).states = renumbered_few (merged_automaton false false B) (merged_closed B false false based_closed) in
      let c : length B.states ≡ length given.states = based.long in
      let d : length given.states ≤ A.states = r.states in
      let e : A.states * 1 ≤ A.states * (A.sets + 1) = mul-le-mul (omega arith) (omega arith) in
      subst (HasFewStates A) (sym is) (omega arith)

  pub below_based : (n : ℕ) → HasNamesBelow n given → HasNamesBelow n C
  below_based n low = subst (HasNamesBelow n) (sym is) (
      let small = merged_below n (record { keep_implied = false; keep_equal = false }) B (state_based_below given level B based n low) in
      renumbered_all (λ v. IsBelow n v.cube) (λ f x m. m) (merged_automaton false false B) small)
