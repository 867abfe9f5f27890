-- A simulation keeps accepting runs.
use Rattle.std.proofs.Common.{◌≡◌, ℕ, zero, suc, ◌+◌, ◌-◌, ◌<◌, ◌≤◌, Bool, ◌⊎◌, inl, inr, List, length, refl, sym, ◌∙◌, ap, subst, arith}
use Rattle.std.proofs.lemmas.Bool.{cases_lt}
use Rattle.ltl_spec.specs.Collections.Sets.{Has}
use Rattle.ltl_spec.specs.Semantics.Word.{Name, Lasso, after_steps, next, is_true_at}
use Rattle.ltl_spec.specs.Automata.Automaton.{Automaton, Edge, AcceptsFrom}
use Rattle.ltl_spec.specs.Checking.Bounds.{AcceptsEverywhere}
use Rattle.ltl_spec.proofs.Collections.CaseLaws.{below_equal_above}
use Rattle.ltl_spec.proofs.Construction.ImpliedEdges.{allows_fewer}
use Rattle.ltl_spec.proofs.Semantics.Runs.{RunFrom}
use Rattle.ltl_spec.proofs.Semantics.RunLaws.{accepts_from_by_run}
use Rattle.ltl_reduce.specs.Simulation.{AreLevels, IsFree, AreDead, Match, IsSimulation}

-- what is kept by one more step is kept by any number of steps
carried : (P : ℕ → Type 0) → ((k : ℕ) → P k → P (suc k)) → (n a b : ℕ) → n + a ≡ b → P a → P b
carried P on zero a b e h = let same : a ≡ b = omega arith in subst P same h
carried P on (suc n) a b e h = carried P on n (suc a) b (omega arith) (on a h)

module _ (A : Automaton) (level lacking : ℕ → ℕ) (levels : AreLevels A level lacking) where
  abbrev Free : ℕ → Edge → Type 0
  Free s e = IsFree A level lacking s e

  module _ (start : ℕ) (holds : ℕ → ℕ → Bool) (step : ℕ → ℕ) (r : RunFrom start A holds step) where
    -- a run never goes up
    goes_down : (k : ℕ) → level (r.state (suc k)) ≤ level (r.state k)
    goes_down k = subst (λ t. level t ≤ level (r.state k)) (sym (r.leads k)) (levels.falls (r.state k) (r.edge k) (r.edges k))

    later : (a b : ℕ) → a ≤ b → level (r.state b) ≤ level (r.state a)
    later a b l =
        let d : (b - a) + a ≡ b = omega arith in
        carried (λ k. level (r.state k) ≤ level (r.state a)) (λ k h. let g = goes_down k in omega arith) (b - a) a b d (omega arith)

    -- from time k on an edge of the set f is taken that isn't free
    abbrev Lasts : ℕ → ℕ → Type 0
    Lasts f k = (j : ℕ) × (k ≤ j) × Has (r.edge j).marks f × (Free (r.state j) (r.edge j) → ⊥)

    -- the level at time j falls, so the search goes on below
    falls_at : (j : ℕ) → level (r.edge j).target < level (r.state j) → level (r.state (suc j)) < level (r.state j)
    falls_at j l = subst (λ t. level t < level (r.state j)) (sym (r.leads j)) l

    -- within a level that lacks the set g no edge of the set is taken
    none_within : (k j g : ℕ) → g ≡ lacking (level (r.state k)) → g < A.sets → level (r.state j) ≡ level (r.state k) → (level (r.edge j).target < level (r.state j) → ⊥) → Has (r.edge j).marks g → ⊥
    none_within k j g e l same stays h =
        let down = levels.falls (r.state j) (r.edge j) (r.edges j) in
        let level_target : level (r.edge j).target ≡ level (r.state j) = elim (cases_lt (level (r.edge j).target) (level (r.state j))) [ inl m ↦ absurd (stays m) | inr m ↦ omega arith ] in
        let here : g ≡ lacking (level (r.state j)) = e ∙ ap lacking (sym same) in
        levels.lacks (r.state j) (r.edge j) (r.edges j) level_target (subst (λ x. x < A.sets) here l) (subst (λ x. Has (r.edge j).marks x) here h)

    -- the level of time j lacks a set, so the run goes down from it
    left_behind : (n k f j : ℕ) → ((i : ℕ) → level (r.state i) < n → Lasts f i) → k ≤ j → level (r.state j) ≤ level (r.state k) → level (r.state k) < suc n → lacking (level (r.state j)) < A.sets → Lasts f k
    left_behind n k f j on m below b lacks =
        let (i, o, h) = r.marks (lacking (level (r.state j))) j lacks in
        let lower = later j i o in
        elim (cases_lt (level (r.edge i).target) (level (r.state i))) [
          | inl drop ↦
              let d = falls_at i drop in
              let (q, x, p, y) = on (suc i) (omega arith) in
              (q, omega arith, p, y)
          | inr stays ↦ elim (below_equal_above (level (r.state i)) (level (r.state j))) [
            | inl less ↦ let (q, x, p, y) = on i (omega arith) in (q, omega arith, p, y)
            | inr rest ↦ elim rest [
              | inl same ↦ absurd (none_within j i (lacking (level (r.state j))) refl lacks same (λ t. omega arith) h)
              | inr more ↦ absurd (omega arith)
            ]
          ]
        ]

    lasting : (n k f : ℕ) → level (r.state k) < n → f < A.sets → Lasts f k
    lasting zero k f b l = absurd (omega arith)
    lasting (suc n) k f b l =
        let (j, m, h) = r.marks f k l in
        let below = later k j m in
        elim (cases_lt (level (r.edge j).target) (level (r.state j))) [
          | inl drop ↦
              let d = falls_at j drop in
              let (i, o, p, y) = lasting n (suc j) f (omega arith) l in
              (i, omega arith, p, y)
          | inr stays ↦ elim (cases_lt (lacking (level (r.state j))) A.sets) [
            | inr full ↦ (j, m, h, elim [ inl x ↦ omega arith | inr y ↦ omega arith ])
            | inl lacks ↦ left_behind n k f j (λ i b. lasting n i f b l) m below b lacks
          ]
        ]

    module _ (IsDead : ℕ → Type 0) (dead : AreDead A level lacking IsDead) where
      dead_next : (k : ℕ) → IsDead (r.state k) → IsDead (r.state (suc k))
      dead_next k h = subst IsDead (sym (r.leads k)) (dead.stays (r.state k) (r.edge k) h (r.edges k))

      -- no accepting run passes a dead state
      never_dead : (n k : ℕ) → level (r.state k) < n → IsDead (r.state k) → ⊥
      never_dead zero k b h = omega arith
      never_dead (suc n) k b h = elim (dead.free (r.state k) (r.edge k) h (r.edges k)) [
        | inl drop ↦ let d = falls_at k drop in never_dead n (suc k) (omega arith) (dead_next k h)
        | inr lacks ↦
            let (j, m, x, stays) = lasting (suc n) k (lacking (level (r.state k))) b lacks in
            let d : (j - k) + k ≡ j = omega arith in
            stays (dead.free (r.state j) (r.edge j) (carried (λ i. IsDead (r.state i)) dead_next (j - k) k j d h) (r.edges j))
      ]

      module _ (B : Automaton) (other : ℕ) (accepting : AcceptsEverywhere B) (sets : B.sets ≡ A.sets) (Related : ℕ → ℕ → Type 0) (simulates : IsSimulation A level lacking IsDead B Related) (begins : Related start other) where
        -- the state of B at time k
        abbrev Reached : ℕ → Type 0
        Reached k = (t : ℕ) × Related (r.state k) t

        match : (k : ℕ) (p : Reached k) → Match A level lacking B Related (r.state k) p.0 (r.edge k)
        match k p = elim (simulates (r.state k) p.0 p.1 (r.edge k) (r.edges k)) [
          | inl d ↦ absurd (never_dead (suc (level (r.state (suc k)))) (suc k) (omega arith) (subst IsDead (sym (r.leads k)) d))
          | inr m ↦ m
        ]

        reached : (k : ℕ) → Reached k
        reached zero = (other, subst (λ s. Related s other) (sym r.starts) begins)
        reached (suc k) =
            let p = reached k in
            let (f, h, m) = match k p in
            (f.target, subst (λ s. Related s f.target) (sym (r.leads k)) m.target)

        matched : (k : ℕ) → Match A level lacking B Related (r.state k) (reached k).0 (r.edge k)
        matched k = match k (reached k)

        pub simulated_run : RunFrom other B holds step
        unfolding reached matched
        simulated_run = record {
          state = λ k. (reached k).0;
          edge = λ k. (matched k).0;
          starts = refl;
          edges = λ k. (matched k).1;
          leads = λ k. refl;
          allowed = λ k. allows_fewer (holds (after_steps step k 0)) (matched k).0.cube (r.edge k).cube (matched k).2.cube (r.allowed k);
          accepts = λ k. (k, omega arith, accepting (reached k).0);
          marks = λ f k l.
              let (j, m, h, lasts) = lasting (suc (level (r.state k))) k f (omega arith) (subst (λ n. f < n) sets l) in
              (j, m, elim (matched j).2.marks [ inl free ↦ absurd (lasts free) | inr has ↦ has f h ]);
        }

-- so B accepts from `other` what A accepts from `start`
pub simulated : (A : Automaton) (level lacking : ℕ → ℕ) (levels : AreLevels A level lacking) (IsDead : ℕ → Type 0) (dead : AreDead A level lacking IsDead) (B : Automaton) (accepting : AcceptsEverywhere B) (sets : B.sets ≡ A.sets) (Related : ℕ → ℕ → Type 0)
    (simulates : IsSimulation A level lacking IsDead B Related) (start other : ℕ) → Related start other ⊎ IsDead start
    → (names : List Name) (w : Lasso) → 0 < length w.cycle → AcceptsFrom start names A w → AcceptsFrom other names B w
simulated A level lacking levels IsDead dead B accepting sets Related simulates start other begins names w l a =
    let holds = is_true_at names w in
    let r = (accepts_from_by_run start names A w l).0 a in
    (accepts_from_by_run other names B w l).1 (elim begins [
      | inl h ↦ simulated_run A level lacking levels start holds (next w) r IsDead dead B other accepting sets Related simulates h
      | inr d ↦ absurd (never_dead A level lacking levels start holds (next w) r IsDead dead (suc (level (r.state 0))) 0 (omega arith) (subst IsDead (sym r.starts) d))
    ])
