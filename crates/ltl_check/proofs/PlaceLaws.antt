-- A lasso that meets all sets is a way of places to a goal, and the other way round.
use Rattle.std.proofs.Common.{◌≡◌, ◌≢◌, ℕ, zero, suc, ◌+◌, ◌<◌, true, List, [], ◌∷◌, length, ◌⊎◌, inl, inr, refl, sym, ◌∙◌, ap, subst, arith}
use Rattle.std.specs.Ordering.{nat_cmp}
use Rattle.ltl_spec.specs.Collections.Sets.{union}
use Rattle.ltl_spec.proofs.Collections.SetLaws.{has_Decides, union_cases, union_left, union_right}
use Rattle.ltl_spec.proofs.Collections.Orders.{nat_linear}
use Rattle.ltl_check.specs.declared.graph.Step.{Step}
use Rattle.ltl_check.specs.declared.walk.Taken.{Taken}
use Rattle.ltl_check.specs.declared.place.Place.{Place}
use Rattle.ltl_check.specs.declared.place.Bases.{Bases}
use Rattle.ltl_check.specs.Marks.{in_set}
use Rattle.ltl_check.specs.Nets.{Net, IsSuccessor, IsStepPath}
use Rattle.ltl_check.specs.Levels.{Takes, IsFullWalk}
use Rattle.ltl_check.specs.Places.{is_base, IsGoal, on_stem, begun, further, IsNext, LeadsAt, IsStepTo, Reaches, start_place}

pub in_union : (ms ns : List ℕ) (j : ℕ) → in_set (union nat_cmp ms ns) j ≡ true → (in_set ms j ≡ true) ⊎ (in_set ns j ≡ true)
in_union ms ns j h = elim (union_cases nat_linear ms ns j ((has_Decides nat_linear j (union nat_cmp ms ns)).0 h)) [
  | inl k ↦ inl ((has_Decides nat_linear j ms).1 k)
  | inr k ↦ inr ((has_Decides nat_linear j ns).1 k)
]

union_in : (ms ns : List ℕ) (j : ℕ) → (in_set ms j ≡ true) ⊎ (in_set ns j ≡ true) → in_set (union nat_cmp ms ns) j ≡ true
union_in ms ns j (inl h) = (has_Decides nat_linear j (union nat_cmp ms ns)).1 (union_left nat_linear ms ns j ((has_Decides nat_linear j ms).0 h))
union_in ms ns j (inr h) = (has_Decides nat_linear j (union nat_cmp ms ns)).1 (union_right nat_linear ms ns j ((has_Decides nat_linear j ns).0 h))

module _ (N : Net) (sets : ℕ) (bases : Bases) where
  -- ---- from a lasso to places
  pub reaches_start : Reaches N bases zero (start_place N)
  unfolding Reaches
  reaches_start = refl

  pub reaches_zero : (p : Place) → Reaches N bases zero p → p ≡ start_place N
  unfolding Reaches
  reaches_zero p r = r

  pub reaches_cases : (n : ℕ) (p : Place) → Reaches N bases (suc n) p → Reaches N bases n p ⊎ ((q : Place) × Reaches N bases n q × ((k : ℕ) × LeadsAt N bases q k p))
  unfolding Reaches
  reaches_cases n p r = r

  reaches_later : (n : ℕ) (p : Place) → Reaches N bases n p → Reaches N bases (suc n) p
  unfolding Reaches
  reaches_later n p r = inl r

  reaches_one : (n : ℕ) (q p : Place) (k : ℕ) → Reaches N bases n q → LeadsAt N bases q k p → Reaches N bases (suc n) p
  unfolding Reaches
  reaches_one n q p k r l = inr (q, r, (k, l))

  pub reaches_more : (d n : ℕ) (p : Place) → Reaches N bases n p → Reaches N bases (d + n) p
  reaches_more zero n p r = let e : n ≡ 0 + n = omega arith in subst (λ k. Reaches N bases k p) e r
  reaches_more (suc d) n p r = let e : suc (d + n) ≡ suc d + n = omega arith in subst (λ k. Reaches N bases k p) e (reaches_later (d + n) p (reaches_more d n p r))

  none_more : (n : ℕ) (p : Place) → Reaches N bases n p → Reaches N bases (0 + n) p
  none_more n p r = let e : n ≡ 0 + n = omega arith in subst (λ k. Reaches N bases k p) e r

  reaches_stem : (n s e : ℕ) (ts : List Taken) → Reaches N bases n (record { base = 0; state = s; marks = [] }) → IsStepPath N s ts e → Reaches N bases (length ts + n) (record { base = 0; state = e; marks = [] })
  reaches_stem n s e [] r w = none_more n (record { base = 0; state = e; marks = [] }) (subst (λ x. Reaches N bases n (record { base = 0; state = x; marks = [] })) w r)
  reaches_stem n s e (t ∷ ts) r w =
      let a = w.1.0 in
      let i : IsSuccessor N s t.pick a = subst (λ x. IsSuccessor N x t.pick a) w.0 w.1.1 in
      let o = reaches_one n (record { base = 0; state = s; marks = [] }) (on_stem a) t.pick r (a, i, inl (refl, inl refl)) in
      let h = reaches_stem (suc n) a.target e ts o w.1.3 in
      let q : length ts + suc n ≡ length (t ∷ ts) + n = omega arith in
      subst (λ k. Reaches N bases k (record { base = 0; state = e; marks = [] })) q h

  -- what the marks have, and what the steps take
  abbrev Gathers : List ℕ → List Taken → Type 0
  Gathers marks ts = (j : ℕ) → j < sets → (in_set marks j ≡ true) ⊎ Takes N ts j

  same_step : (n k : ℕ) (a b : Step ℕ) → IsSuccessor N n k a → IsSuccessor N n k b → a ≡ b
  same_step n k a b i j = let p = i.found in let q = j.found in cc

  gathers_on : (t : Taken) (ts : List Taken) (a : Step ℕ) (marks : List ℕ) → IsSuccessor N t.state t.pick a → Gathers marks (t ∷ ts) → Gathers (union nat_cmp marks a.marks) ts
  gathers_on t ts a marks i f j l = elim (f j l) [
    | inl h ↦ inl (union_in marks a.marks j (inl h))
    | inr h ↦ elim h [
      | inl k ↦ inl (union_in marks a.marks j (inr (subst (λ (b : Step ℕ). in_set b.marks j ≡ true) (same_step t.state t.pick k.0 a k.1 i) k.2)))
      | inr k ↦ inr k
    ]
  ]

  gathers_first : (t : Taken) (ts : List Taken) (a : Step ℕ) → IsSuccessor N t.state t.pick a → ((j : ℕ) → j < sets → Takes N (t ∷ ts) j) → Gathers a.marks ts
  gathers_first t ts a i f j l = elim (f j l) [
    | inl k ↦ inl (subst (λ (b : Step ℕ). in_set b.marks j ≡ true) (same_step t.state t.pick k.0 a k.1 i) k.2)
    | inr k ↦ inr k
  ]

  -- the rest of a cycle leads to a goal
  reaches_cycle : (n base s : ℕ) (marks : List ℕ) (ts : List Taken) → Reaches N bases n (record { base = base + 1; state = s; marks = marks }) → IsStepPath N s ts base → Gathers marks ts
      → (p : Place) × Reaches N bases (length ts + n) p × IsGoal sets p
  reaches_cycle n base s marks [] r w f =
      (record { base = base + 1; state = s; marks = marks }, none_more n (record { base = base + 1; state = s; marks = marks }) r, (ap (λ x. x + 1) (sym w), λ j l. elim (f j l) [ inl h ↦ h | inr h ↦ absurd h ]))
  reaches_cycle n base s marks (t ∷ ts) r w f =
      let a = w.1.0 in
      let i : IsSuccessor N s t.pick a = subst (λ x. IsSuccessor N x t.pick a) w.0 w.1.1 in
      let p : Place = record { base = base + 1; state = s; marks = marks } in
      let o = reaches_one n p (further p a) t.pick r (a, i, inr (omega arith, refl)) in
      let h = reaches_cycle (suc n) base a.target (union nat_cmp marks a.marks) ts o w.1.3 (gathers_on t ts a marks w.1.1 f) in
      let q : length ts + suc n ≡ length (t ∷ ts) + n = omega arith in
      (h.0, subst (λ k. Reaches N bases k h.0) q h.1, h.2)

  pub full_reaches : (stem cycle : List Taken) (h : IsFullWalk N sets stem cycle) → is_base bases h.end ≡ true → (p : Place) × Reaches N bases (length stem + length cycle) p × IsGoal sets p
  full_reaches stem [] h b = absurd (h.moves refl)
  full_reaches stem (t ∷ ts) h b =
      let s = reaches_stem 0 N.start h.end stem reaches_start h.arrives in
      let w = h.cycles in
      let a = w.1.0 in
      let i : IsSuccessor N h.end t.pick a = subst (λ x. IsSuccessor N x t.pick a) w.0 w.1.1 in
      let o = reaches_one (length stem + 0) (record { base = 0; state = h.end; marks = [] }) (begun h.end a) t.pick s (a, i, inl (refl, inr (b, refl))) in
      let c = reaches_cycle (suc (length stem + 0)) h.end a.target a.marks ts o w.1.3 (gathers_first t ts a w.1.1 h.takes) in
      let q : length ts + suc (length stem + 0) ≡ length stem + length (t ∷ ts) = omega arith in
      (c.0, subst (λ k. Reaches N bases k c.0) q c.1, c.2)

  -- ---- from places to a lasso
  -- these steps lead on from the place and close a lasso
  abbrev pub IsTail : Place → List Taken → List Taken → Type 0
  IsTail p stem cycle =
      ((p.base ≡ 0) × ((e : ℕ) × IsStepPath N p.state stem e × IsStepPath N e cycle e × (cycle ≢ []) × ((j : ℕ) → j < sets → Takes N cycle j)))
      ⊎ ((n : ℕ) × (p.base ≡ n + 1) × (stem ≡ []) × IsStepPath N p.state cycle n × ((j : ℕ) → j < sets → (in_set p.marks j ≡ true) ⊎ Takes N cycle j))

  pub tail_goal : (p : Place) → IsGoal sets p → IsTail p [] []
  tail_goal p g = inr (p.state, g.0, refl, refl, λ j l. inl (g.1 j l))

  pub tail_start : (stem cycle : List Taken) → IsTail (start_place N) stem cycle → IsFullWalk N sets stem cycle
  tail_start stem cycle (inl h) = record { end = h.1.0; arrives = h.1.1; cycles = h.1.2; moves = h.1.3; takes = h.1.4 }
  tail_start stem cycle (inr h) = absurd (let e = h.1 in omega arith)

  -- one step back on the stem
  pub tail_stem : (q p : Place) (t : Taken) (stem cycle : List Taken) → IsStepTo N bases q t p → p.base ≡ 0 → IsTail p stem cycle → IsTail q (t ∷ stem) cycle
  tail_stem q p t stem cycle s z (inr h) = absurd (let e = h.1 in omega arith)
  tail_stem q p t stem cycle s z (inl h) = by s.1.3
    where
      by : IsNext bases q s.1.0 p → IsTail q (t ∷ stem) cycle
      by (inl (b, inl e)) =
          let d : s.1.0.target ≡ p.state = sym (ap (λ (r : Place). r.state) e) in
          inl (b, (h.1.0, (s.0, (s.1.0, s.1.1, s.1.2, subst (λ x. IsStepPath N x stem h.1.0) (sym d) h.1.1)), h.1.2, h.1.3, h.1.4))
      by (inl (b, inr e)) = absurd (let d : p.base ≡ q.state + 1 = ap (λ (r : Place). r.base) e.1 in omega arith)
      by (inr e) = absurd (let d : p.base ≡ q.base = ap (λ (r : Place). r.base) e.1 in let l = e.0 in omega arith)

  -- one step back on the cycle
  pub tail_cycle : (q p : Place) (t : Taken) (stem cycle : List Taken) → IsStepTo N bases q t p → 0 < p.base → IsTail p stem cycle → IsTail q stem (t ∷ cycle)
  tail_cycle q p t stem cycle s z (inl h) = absurd (let e = h.0 in omega arith)
  tail_cycle q p t stem cycle s z (inr h) = by s.1.3
    where
      way : (x : ℕ) → p.state ≡ s.1.0.target → x ≡ h.0 → IsStepPath N t.state (t ∷ cycle) x
      way x d e = (refl, (s.1.0, s.1.1, s.1.2, subst (λ y. IsStepPath N y cycle x) d (subst (λ y. IsStepPath N p.state cycle y) (sym e) h.3)))

      by : IsNext bases q s.1.0 p → IsTail q stem (t ∷ cycle)
      by (inl (b, inl e)) = absurd (let d : p.base ≡ 0 = ap (λ (r : Place). r.base) e in omega arith)
      by (inl (b, inr e)) =
          let d : p.state ≡ s.1.0.target = ap (λ (r : Place). r.state) e.1 in
          let c : p.base ≡ q.state + 1 = ap (λ (r : Place). r.base) e.1 in
          let f : q.state ≡ h.0 = (let g = h.1 in omega arith) in
          inl (
            b,
            (
              q.state,
              subst (λ ts. IsStepPath N q.state ts q.state) (sym h.2) refl,
              subst (λ x. IsStepPath N x (t ∷ cycle) q.state) s.0 (way q.state d f),
              (λ g. cc),
              λ j l. elim (h.4 j l) [
                | inl g ↦ inl (s.1.0, s.1.1, subst (λ (r : Place). in_set r.marks j ≡ true) e.1 g)
                | inr g ↦ inr g
              ],
            ),
          )
      by (inr e) =
          let d : p.state ≡ s.1.0.target = ap (λ (r : Place). r.state) e.1 in
          let c : p.base ≡ q.base = ap (λ (r : Place). r.base) e.1 in
          inr (
            h.0,
            sym c ∙ h.1,
            h.2,
            subst (λ x. IsStepPath N x (t ∷ cycle) h.0) s.0 (way h.0 d refl),
            λ j l. elim (h.4 j l) [
              | inl g ↦ elim (in_union q.marks s.1.0.marks j (subst (λ (r : Place). in_set r.marks j ≡ true) e.1 g)) [ inl k ↦ inl k | inr k ↦ inr (inl (s.1.0, s.1.1, k)) ]
              | inr g ↦ inr (inr g)
            ],
          )
