-- Closed walks and infinite runs: a word is accepted exactly when there is an accepting run.
use Rattle.std.proofs.Common.{◌≡◌, ℕ, zero, suc, ◌+◌, ◌*◌, ◌-◌, ◌<◌, ◌≤◌, Bool, inl, inr, List, [], ◌∷◌, ◌++◌, length, refl, sym, ◌∙◌, ap, subst, arith, ◌↔◌}
use Rattle.std.specs.Prelude.{IsTrue}
use Rattle.std.proofs.lemmas.Bool.{cases_eq}
use Rattle.std.proofs.lemmas.Nat.{mul-add-lt, same_from_place}
use Rattle.ltl_spec.specs.Collections.Sets.{Has}
use Rattle.ltl_spec.specs.Semantics.Word.{Name, Lasso, after_steps, next, is_true_at}
use Rattle.ltl_spec.specs.Automata.Automaton.{Automaton, Edge, state_at, IsWalk, IsAcceptingCycle, AcceptedFrom, AcceptsFrom, Accepts}
use Rattle.ltl_spec.specs.Transitions.Cubes.{allows}
use Rattle.ltl_spec.proofs.Semantics.Runs.{Run, RunFrom, IsBounded}
use Rattle.ltl_spec.proofs.Semantics.Pigeonhole.{pigeonhole}
use Rattle.ltl_spec.proofs.Semantics.StepLaws.{after_last, lasso_bounded}
use Rattle.ltl_spec.proofs.Collections.CaseLaws.{last_or_below}
use Rattle.ltl_spec.proofs.Automata.ListedStates.{has_edge_below}

-- a way, and then a turn again and again: the turn is t and then ts
module _ (stem : List Edge) (t : Edge) (ts : List Edge) where
  -- the edge to take now and those to take after it, where the turn begins anew when nothing is left
  abbrev begun : List Edge → Edge × List Edge
  begun [] = (t, ts)
  begun (e ∷ es) = (e, es)

  -- the edge taken at time k, and those to take after it
  abbrev taken : ℕ → Edge × List Edge
  taken zero = begun stem
  taken (suc k) = begun (taken k).1

  -- the state at time k, from this one on
  abbrev passed : ℕ → ℕ → ℕ
  passed start zero = start
  passed start (suc k) = (taken k).0.target

  -- the turn begins anew when what is left is over
  anew : (es : List Edge) (k : ℕ) → (taken k).1 ≡ es → (j : ℕ) × (k ≤ j) × (taken j ≡ (t, ts))
  anew [] k e = (suc k, omega arith, ap begun e)
  anew (x ∷ es) k e =
      let w = anew es (suc k) (ap (λ l. (begun l).1) e) in
      let l = w.1 in
      (w.0, omega arith, w.2)

  -- each edge of what is left is taken
  met : (es : List Edge) (x e : Edge) (k : ℕ) → taken k ≡ (x, es) → Has (x ∷ es) e → (j : ℕ) × (k ≤ j) × ((taken j).0 ≡ e)
  met es x e k s (inl i) = (k, omega arith, ap (λ p. p.0) s ∙ sym i)
  met [] x e k s (inr h) = absurd h
  met (y ∷ es) x e k s (inr h) =
      let w = met es y e (suc k) (ap (λ p. begun p.1) s) h in
      let l = w.1 in
      (w.0, omega arith, w.2)

  -- each edge of the turn comes again and again
  again : (e : Edge) → Has (t ∷ ts) e → (k : ℕ) → (j : ℕ) × (k ≤ j) × ((taken j).0 ≡ e)
  again e h k =
      let v = anew (taken k).1 k refl in
      let w = met ts t e v.0 v.2 h in
      let l = v.1 in
      let m = w.1 in
      (w.0, omega arith, w.2)

module _ (start : ℕ) (A : Automaton) (holds : ℕ → ℕ → Bool) (step : ℕ → ℕ) where
  module _ (s i : ℕ) (stem : List Edge) (t : Edge) (ts : List Edge) (arrives : IsWalk A holds step start 0 stem s i) (cycles : IsAcceptingCycle A holds step s i (t ∷ ts)) where
    -- the edge to take now and those after it, begun or begun anew, lead to the turn's state
    begun_walks : (q p : ℕ) (es : List Edge) → IsWalk A holds step q p es s i → IsWalk A holds step q p ((begun stem t ts es).0 ∷ (begun stem t ts es).1) s i
    begun_walks q p [] h =
        let at_state = subst (λ x. IsWalk A holds step x i (t ∷ ts) s i) (sym h.0) cycles.closes in
        subst (λ x. IsWalk A holds step q x (t ∷ ts) s i) (sym h.1) at_state
    begun_walks q p (e ∷ es) h = h

    -- what is left at time k walks on from there
    taken_walks : (k : ℕ) → IsWalk A holds step (passed stem t ts start k) (after_steps step k 0) ((taken stem t ts k).0 ∷ (taken stem t ts k).1) s i
    taken_walks zero = begun_walks start 0 stem arrives
    taken_walks (suc k) =
        let here = taken_walks k in
        let on = subst (λ x. IsWalk A holds step (taken stem t ts k).0.target x (taken stem t ts k).1 s i) (sym (after_last step k 0)) here.2 in
        begun_walks (taken stem t ts k).0.target (after_steps step (suc k) 0) (taken stem t ts k).1 on

    -- an accepting state comes again and again
    accepts_again : (k : ℕ) → (j : ℕ) × (k ≤ j) × IsTrue (state_at A (passed stem t ts start j)).accepting
    accepts_again k =
        let a = cycles.accepts in
        let w = again stem t ts a.0 a.1 k in
        let l = w.1 in
        (suc w.0, omega arith, subst (λ e. IsTrue (state_at A e.target).accepting) (sym w.2) a.2)

    -- so does an edge of each set
    marks_again : (f k : ℕ) → f < A.sets → (j : ℕ) × (k ≤ j) × Has (taken stem t ts j).0.marks f
    marks_again f k l =
        let a = cycles.marks f l in
        let w = again stem t ts a.0 a.1 k in
        (w.0, w.1, subst (λ e. Has e.marks f) (sym w.2) a.2)

    -- the way, and then the turn again and again, are an accepting run
    run_of_cycles : RunFrom start A holds step
    run_of_cycles = record {
      state = passed stem t ts start;
      edge = λ k. (taken stem t ts k).0;
      starts = refl;
      edges = λ k. (taken_walks k).0;
      leads = λ k. refl;
      allowed = λ k. (taken_walks k).1;
      accepts = accepts_again;
      marks = marks_again;
    }

  -- the turn isn't empty, so it has a first edge
  run_of_walks : (s i : ℕ) (stem cycle : List Edge) → IsWalk A holds step start 0 stem s i → IsAcceptingCycle A holds step s i cycle → RunFrom start A holds step
  run_of_walks s i stem [] arrives cycles = absurd (cycles.moves refl)
  run_of_walks s i stem (t ∷ ts) arrives cycles = run_of_cycles s i stem t ts arrives cycles

-- a closed walk gives a run
pub run_of_accepted : {start : ℕ} {A : Automaton} {holds : ℕ → ℕ → Bool} {step : ℕ → ℕ} → AcceptedFrom start A holds step → RunFrom start A holds step
run_of_accepted {start} {A} {holds} {step} a = run_of_walks start A holds step a.state a.position a.stem a.cycle a.arrives a.cycles

module _ (start : ℕ) (A : Automaton) (holds : ℕ → ℕ → Bool) (step : ℕ → ℕ) (r : RunFrom start A holds step) where
  -- the edges of so many times, from time a on
  abbrev stretch : ℕ → ℕ → List Edge
  stretch a zero = []
  stretch a (suc n) = r.edge a ∷ stretch (suc a) n

  -- the stretch from a to b walks from the one state to the other
  stretch_walks : (n a b : ℕ) → n + a ≡ b → IsWalk A holds step (r.state a) (after_steps step a 0) (stretch a n) (r.state b) (after_steps step b 0)
  stretch_walks zero a b e =
      let same : a ≡ b = omega arith in
      (ap r.state same, ap (λ k. after_steps step k 0) same)
  stretch_walks (suc n) a b e =
      let rest = stretch_walks n (suc a) b (omega arith) in
      let from_target = subst (λ s. IsWalk A holds step s (after_steps step (suc a) 0) (stretch (suc a) n) (r.state b) (after_steps step b 0)) (r.leads a) rest in (
        r.edges a,
        r.allowed a,
        subst (λ p. IsWalk A holds step (r.edge a).target p (stretch (suc a) n) (r.state b) (after_steps step b 0)) (after_last step a 0) from_target,
      )

  -- the edges of the times from a on are in the stretch
  Has-stretch : (n a j : ℕ) → a ≤ j → j < n + a → Has (stretch a n) (r.edge j)
  Has-stretch zero a j l k = absurd (omega arith)
  Has-stretch (suc n) a j l k =
      elim (cases_eq j a) [
        | inl e ↦ inl (ap r.edge e)
        | inr d ↦ inr (Has-stretch n (suc a) j (omega arith) (omega arith))
      ]

  -- at some time from a on and before b an edge leads to an accepting state
  abbrev SeesAccepting : ℕ → ℕ → Type 0
  SeesAccepting a b = (j : ℕ) × (a ≤ j) × (j < b) × IsTrue (state_at A (r.edge j).target).accepting

  -- at some time from a on and before b there is an edge of the set f
  abbrev SeesMark : ℕ → ℕ → ℕ → Type 0
  SeesMark f a b = (j : ℕ) × (a ≤ j) × (j < b) × Has (r.edge j).marks f

  -- all that is to come again comes from time a on and before time b
  record IsRound (a b : ℕ) : Type 0 where
    rises : a < b
    accepts : SeesAccepting a b
    marks : (f : ℕ) → f < A.sets → SeesMark f a b

  -- an accepting state that is seen early is seen when one looks longer
  longer_accepting : (a b c : ℕ) → b ≤ c → SeesAccepting a b → SeesAccepting a c
  longer_accepting a b c l w = let m = w.2 in (w.0, w.1, omega arith, w.3)

  -- so is a mark
  longer_mark : (f a b c : ℕ) → b ≤ c → SeesMark f a b → SeesMark f a c
  longer_mark f a b c l w = let m = w.2 in (w.0, w.1, omega arith, w.3)

  -- a round stays one when it ends later
  longer_round : (a b c : ℕ) → b ≤ c → IsRound a b → IsRound a c
  longer_round a b c l h = record {
    rises = let k = h.rises in omega arith;
    accepts = longer_accepting a b c l h.accepts;
    marks = λ f m. longer_mark f a b c l (h.marks f m);
  }

  -- an accepting state is the target of the edge before
  accepting_before : (a j : ℕ) → a < j → IsTrue (state_at A (r.state j)).accepting → SeesAccepting a j
  accepting_before a zero l h = absurd (omega arith)
  accepting_before a (suc j) l h = (j, omega arith, omega arith, subst (λ s. IsTrue (state_at A s).accepting) (r.leads j) h)

  -- from each time on an accepting state comes
  accepting_from : (a : ℕ) → (b : ℕ) × (a < b) × SeesAccepting a b
  accepting_from a =
      let w = r.accepts (suc a) in
      let l = w.1 in
      (w.0, omega arith, accepting_before a w.0 (omega arith) w.2)

  -- from each time on the first n sets come
  marks_from : (a n : ℕ) → n ≤ A.sets → (b : ℕ) × ((f : ℕ) → f < n → SeesMark f a b)
  marks_from a zero l = (a, λ f k. absurd (omega arith))
  marks_from a (suc n) l =
      let before = marks_from a n (omega arith) in
      let here = r.marks n a (omega arith) in
      let this : SeesMark n a (before.0 + suc here.0) = (here.0, here.1, omega arith, here.2) in (
        before.0 + suc here.0,
        λ f k. elim (last_or_below f n k) [
          | inl m ↦ longer_mark f a before.0 (before.0 + suc here.0) (omega arith) (before.1 f m)
          | inr e ↦ subst (λ g. SeesMark g a (before.0 + suc here.0)) (sym e) this
        ],
      )

  -- a round begins at each time
  round_from : (a : ℕ) → (b : ℕ) × IsRound a b
  round_from a =
      let one = accepting_from a in
      let all = marks_from a A.sets (omega arith) in
      let l = one.1 in (
        one.0 + all.0,
        record {
          rises = omega arith;
          accepts = longer_accepting a one.0 (one.0 + all.0) (omega arith) one.2;
          marks = λ f m. longer_mark f a all.0 (one.0 + all.0) (omega arith) (all.1 f m);
        },
      )

  -- the times at which one round after the other ends
  abbrev times : ℕ → ℕ
  times zero = 0
  times (suc m) = (round_from (times m)).0

  -- between two of these times there is a round
  round_between : (i j : ℕ) → i < j → IsRound (times i) (times j)
  round_between i zero l = absurd (omega arith)
  round_between i (suc j) l =
      let last = (round_from (times j)).1 in
      elim (last_or_below i j l) [
        | inl m ↦ let k = last.rises in longer_round (times i) (times j) (times (suc j)) (omega arith) (round_between i j m)
        | inr e ↦ subst (λ k. IsRound (times k) (times (suc j))) (sym e) last
      ]

  -- a round that ends where it begins is an accepting turn
  cycle_of_round : (a b : ℕ) → IsRound a b → r.state a ≡ r.state b → after_steps step a 0 ≡ after_steps step b 0 → IsAcceptingCycle A holds step (r.state a) (after_steps step a 0) (stretch a (b - a))
  cycle_of_round a b h same_state same_place =
      let l = h.rises in
      let k : (b - a) + a ≡ b = omega arith in
      let ends_in_place = subst (λ p. IsWalk A holds step (r.state a) (after_steps step a 0) (stretch a (b - a)) (r.state b) p) (sym same_place) (stretch_walks (b - a) a b k) in
      record {
        closes = subst (λ s. IsWalk A holds step (r.state a) (after_steps step a 0) (stretch a (b - a)) s (after_steps step a 0)) (sym same_state) ends_in_place;
        moves = moves_from (b - a) (omega arith);
        accepts = let w = h.accepts in let m = w.2 in (r.edge w.0, Has-stretch (b - a) a w.0 w.1 (omega arith), w.3);
        marks = λ f n. let w = h.marks f n in let m = w.2 in (r.edge w.0, Has-stretch (b - a) a w.0 w.1 (omega arith), w.3);
      }
    where
      moves_from : (n : ℕ) → 0 < n → stretch a n ≡ [] → ⊥
      moves_from zero p e = omega arith
      moves_from (suc n) p e = cc

  -- a round that ends where it begins, and the way there
  accepted_by_round : (a b : ℕ) → IsRound a b → r.state a ≡ r.state b → after_steps step a 0 ≡ after_steps step b 0 → AcceptedFrom start A holds step
  accepted_by_round a b h same_state same_place = record {
    state = r.state a;
    position = after_steps step a 0;
    stem = stretch 0 a;
    cycle = stretch a (b - a);
    arrives = subst (λ s. IsWalk A holds step s 0 (stretch 0 a) (r.state a) (after_steps step a 0)) r.starts (stretch_walks a 0 a (omega arith));
    cycles = cycle_of_round a b h same_state same_place;
  }

  -- the state and the position at a time, as one number
  abbrev place : ℕ → ℕ → ℕ
  place n k = r.state k * n + after_steps step k 0

  -- these numbers are finitely many
  place_below : (n k : ℕ) → IsBounded step n → place n k < n * length A.states
  place_below n k inside = mul-add-lt (r.state k) n (after_steps step k 0) (length A.states) (has_edge_below A (r.state k) (r.edge k) (r.edges k)) (inside k)

  -- so at the ends of two rounds the state and the position are the same
  accepted_within : (n : ℕ) → IsBounded step n → AcceptedFrom start A holds step
  accepted_within n inside =
      let m = n * length A.states in
      let w = pigeonhole m (λ i. place n (times i)) (λ i l. place_below n (times i) inside) in
      let a = times w.0 in
      let b = times w.1 in
      let same = same_from_place (r.state a) (after_steps step a 0) (r.state b) (after_steps step b 0) n (inside a) (inside b) w.4 in
      accepted_by_round a b (round_between w.0 w.1 w.2) same.0 same.1

-- where finitely many positions are reached a run gives a closed walk
pub accepted_of_run : (start : ℕ) (A : Automaton) (holds : ℕ → ℕ → Bool) (step : ℕ → ℕ) (n : ℕ) → IsBounded step n → RunFrom start A holds step → AcceptedFrom start A holds step
accepted_of_run start A holds step n inside r = accepted_within start A holds step r n inside

-- the same run where other propositions are true, or the positions go on otherwise, as long as each edge is allowed
pub retold : (start : ℕ) (A : Automaton) (old new : ℕ → ℕ → Bool) (step other : ℕ → ℕ) (r : RunFrom start A old step)
    → ((k : ℕ) → IsTrue (allows (new (after_steps other k 0)) (r.edge k).cube)) → RunFrom start A new other
retold start A old new step other r allowed = record {
  state = r.state;
  edge = r.edge;
  starts = r.starts;
  edges = r.edges;
  leads = r.leads;
  allowed = allowed;
  accepts = r.accepts;
  marks = r.marks;
}

-- an automaton accepts a lasso exactly when it has an accepting run on it, from any start
pub accepts_from_by_run : (start : ℕ) (names : List Name) (A : Automaton) (w : Lasso) → 0 < length w.cycle → AcceptsFrom start names A w ↔ RunFrom start A (is_true_at names w) (next w)
accepts_from_by_run start names A w cycles =
    (run_of_accepted, accepted_of_run start A (is_true_at names w) (next w) (length (w.stem ++ w.cycle)) (lasso_bounded w cycles))

pub accepts_by_run : (names : List Name) (A : Automaton) (w : Lasso) → 0 < length w.cycle → Accepts names A w ↔ Run A (is_true_at names w) (next w)
accepts_by_run names A w cycles = accepts_from_by_run 0 names A w cycles
