-- A closed walk through all sets, and one through an accepting state on levels.
use Rattle.std.proofs.Common.{◌≡◌, ◌≢◌, ℕ, zero, suc, ◌+◌, ◌-◌, ◌*◌, ◌/◌, ◌%◌, ◌<◌, ◌≤◌, Bool, true, false, cond, eqb, List, [], ◌∷◌, ◌++◌, map, ◌⊎◌, inl, inr, refl, sym, ◌∙◌, ap, subst, arith, append_assoc}
use Rattle.std.specs.Prelude.{option_map}
use Rattle.std.proofs.lemmas.Bool.{cases_eq}
use Rattle.std.proofs.lemmas.Bool.Decides.{nat_tests}
use Rattle.std.proofs.lemmas.Nat.{div-mul-add, mod-mul-add}
use Rattle.ltl_check.specs.declared.graph.Step.{Step}
use Rattle.ltl_check.specs.declared.walk.Taken.{Taken}
use Rattle.ltl_check.specs.Marks.{in_set}
use Rattle.ltl_check.specs.Nets.{Net, IsSuccessor, IsStepPath, Passes, IsFound}
use Rattle.ltl_spec.specs.Construction.Levels.{climb, next_level}
use Rattle.ltl_spec.proofs.Construction.ClimbLaws.{first_level}
use Rattle.ltl_check.specs.Levels.{on_level, levels_net, without_level, Takes, IsFullWalk}
use Rattle.ltl_spec.proofs.Construction.LevelLaws.{climb_on}
use Rattle.ltl_check.specs.LevelLaws.{mapped, after_most, climb_up, climb_bound, place_level}
use Rattle.ltl_spec.proofs.Semantics.Pigeonhole.{pigeonhole}
use Rattle.ltl_check.proofs.StepPathLaws.{path_append, path_split}

module _ (N : Net) (sets : ℕ) where
  -- ---- from levels to the graph
  -- the edge of the graph under an edge on levels
  under : (n k : ℕ) (a : Step ℕ) → IsSuccessor (levels_net sets N) n k a → (b : Step ℕ) × IsSuccessor N (n / (sets + 1)) k b × (on_level sets (n % (sets + 1)) b ≡ a)
  under n k a i =
      let m = mapped (on_level sets (n % (sets + 1))) (N.successor (n / (sets + 1)) k) a i.found in
      (m.0, record { within = i.within; found = m.1 }, m.2)

  target_row : (level : ℕ) (b : Step ℕ) → level ≤ sets → (on_level sets level b).target / (sets + 1) ≡ b.target
  target_row level b l = let h = after_most sets b.marks level l in div-mul-add b.target (sets + 1) (next_level sets b.marks level) (omega arith)

  target_level : (level : ℕ) (b : Step ℕ) → level ≤ sets → (on_level sets level b).target % (sets + 1) ≡ next_level sets b.marks level
  target_level level b l = let h = after_most sets b.marks level l in mod-mul-add b.target (sets + 1) (next_level sets b.marks level) (omega arith)

  pub path_under : (s e : ℕ) (ts : List Taken) → IsStepPath (levels_net sets N) s ts e → IsStepPath N (s / (sets + 1)) (map (without_level sets) ts) (e / (sets + 1))
  path_under s e [] w = ap (λ n. n / (sets + 1)) w
  path_under s e (t ∷ ts) w =
      let u = under t.state t.pick w.1.0 w.1.1 in
      let q : w.1.0.target / (sets + 1) ≡ u.0.target = ap (λ a. a.target / (sets + 1)) (sym u.2) ∙ target_row (t.state % (sets + 1)) u.0 (place_level t.state sets) in
      (ap (λ n. n / (sets + 1)) w.0, (u.0, u.1, ap (λ a. a.letter) u.2 ∙ w.1.2, subst (λ n. IsStepPath N n (map (without_level sets) ts) (e / (sets + 1))) q (path_under w.1.0.target e ts w.1.3)))

  -- either an edge of the set is taken, or the level stays up to it
  after_low : (marks : List ℕ) (level j : ℕ) → j < sets → level ≤ j → in_set marks j ≡ false → next_level sets marks level ≤ j
  after_low marks level j l m h =
      let f : first_level sets level ≤ j = (grind (arith, nat_tests, l, m)) in
      climb_bound (sets - first_level sets level) marks (first_level sets level) j f h

  after_last : (marks : List ℕ) (level j : ℕ) → j < sets → eqb level sets ≡ true → in_set marks j ≡ false → next_level sets marks level ≤ j
  after_last marks level j l a h =
      let f : first_level sets level ≤ j = from_zero level j a in
      climb_bound (sets - first_level sets level) marks (first_level sets level) j f h
    where
      from_zero : (level j : ℕ) → eqb level sets ≡ true → first_level sets level ≤ j
      from_zero level j a = subst (λ b. cond b 0 level ≤ j) (sym a) (omega arith)

  takes_or : (j : ℕ) → j < sets → (s e : ℕ) (ts : List Taken) → IsStepPath (levels_net sets N) s ts e → s % (sets + 1) ≤ j → Takes N (map (without_level sets) ts) j ⊎ (e % (sets + 1) ≤ j)
  takes_or j l s e [] w m = inr (subst (λ n. n % (sets + 1) ≤ j) w m)
  takes_or j l s e (t ∷ ts) w m =
      let u = under t.state t.pick w.1.0 w.1.1 in
      by (in_set u.0.marks j) u refl (λ h. takes_or j l w.1.0.target e ts w.1.3 h)
    where
      by : (b : Bool) → (u : (b : Step ℕ) × IsSuccessor N (t.state / (sets + 1)) t.pick b × (on_level sets (t.state % (sets + 1)) b ≡ w.1.0)) → in_set u.0.marks j ≡ b → (w.1.0.target % (sets + 1) ≤ j → Takes N (map (without_level sets) ts) j ⊎ (e % (sets + 1) ≤ j)) → Takes N (map (without_level sets) (t ∷ ts)) j ⊎ (e % (sets + 1) ≤ j)
      by true u f next = inl (inl (u.0, u.1, f))
      by false u f next =
          let q : w.1.0.target % (sets + 1) ≡ next_level sets u.0.marks (t.state % (sets + 1)) = ap (λ a. a.target % (sets + 1)) (sym u.2) ∙ target_level (t.state % (sets + 1)) u.0 (place_level t.state sets) in
          let m' : t.state % (sets + 1) ≤ j = subst (λ n. n % (sets + 1) ≤ j) (sym w.0) m in
          elim (next (subst (λ n. n ≤ j) (sym q) (after_low u.0.marks (t.state % (sets + 1)) j l m' f))) [ inl h ↦ inl (inr h) | inr h ↦ inr h ]

  takes_left : (j : ℕ) (us vs : List Taken) → Takes N (map (without_level sets) us) j → Takes N (map (without_level sets) (us ++ vs)) j
  takes_left j [] vs h = absurd h
  takes_left j (u ∷ us) vs (inl h) = inl h
  takes_left j (u ∷ us) vs (inr h) = inr (takes_left j us vs h)

  takes_right : (j : ℕ) (us vs : List Taken) → Takes N (map (without_level sets) vs) j → Takes N (map (without_level sets) (us ++ vs)) j
  takes_right j [] vs h = h
  takes_right j (u ∷ us) vs h = inr (takes_right j us vs h)

  takes_either : (j : ℕ) (us vs : List Taken) → Takes N (map (without_level sets) (us ++ vs)) j → Takes N (map (without_level sets) us) j ⊎ Takes N (map (without_level sets) vs) j
  takes_either j [] vs h = inr h
  takes_either j (u ∷ us) vs (inl h) = inl (inl h)
  takes_either j (u ∷ us) vs (inr h) = elim (takes_either j us vs h) [ inl k ↦ inl (inr k) | inr k ↦ inr k ]

  too_low : (j level : ℕ) → j < sets → eqb level sets ≡ true → level ≤ j → ⊥
  too_low j level l a h = grind (arith, nat_tests)

  -- a closed walk that leaves a state of the last level takes every set
  takes_at : (j : ℕ) → j < sets → (e : ℕ) (pre : List Taken) (t : Taken) (post : List Taken) → IsStepPath (levels_net sets N) e (pre ++ t ∷ post) e → eqb (t.state % (sets + 1)) sets ≡ true → Takes N (map (without_level sets) (pre ++ t ∷ post)) j
  takes_at j l e pre t post w a =
      let s = path_split (levels_net sets N) e e pre t post w in
      let u = under t.state t.pick s.1.1.0 s.1.1.1 in
      by (in_set u.0.marks j) u refl (λ m. takes_or j l s.1.1.0.target t.state (post ++ pre) (path_append (levels_net sets N) s.1.1.0.target e t.state post pre s.1.1.3 s.0) m)
    where
      by : (b : Bool) → {c : Step ℕ} → (u : (b : Step ℕ) × IsSuccessor N (t.state / (sets + 1)) t.pick b × (on_level sets (t.state % (sets + 1)) b ≡ c)) → in_set u.0.marks j ≡ b → (c.target % (sets + 1) ≤ j → Takes N (map (without_level sets) (post ++ pre)) j ⊎ (t.state % (sets + 1) ≤ j)) → Takes N (map (without_level sets) (pre ++ t ∷ post)) j
      by true u f next = takes_right j pre (t ∷ post) (inl (u.0, u.1, f))
      by false {c} u f next =
          let q : c.target % (sets + 1) ≡ next_level sets u.0.marks (t.state % (sets + 1)) = ap (λ a. a.target % (sets + 1)) (sym u.2) ∙ target_level (t.state % (sets + 1)) u.0 (place_level t.state sets) in
          elim (next (subst (λ n. n ≤ j) (sym q) (after_last u.0.marks (t.state % (sets + 1)) j l a f))) [
            | inl h ↦ elim (takes_either j post pre h) [ inl k ↦ takes_right j pre (t ∷ post) (inr k) | inr k ↦ takes_left j pre (t ∷ post) k ]
            | inr h ↦ absurd (too_low j (t.state % (sets + 1)) l a h)
          ]

  takes_on : (j : ℕ) → j < sets → (e : ℕ) (pre us : List Taken) → IsStepPath (levels_net sets N) e (pre ++ us) e → Passes (levels_net sets N) us → Takes N (map (without_level sets) (pre ++ us)) j
  takes_on j l e pre [] w p = absurd p
  takes_on j l e pre (t ∷ us) w (inl a) = takes_at j l e pre t us w a
  takes_on j l e pre (t ∷ us) w (inr p) =
      subst (λ ts. Takes N (map (without_level sets) ts) j) (append_assoc pre (t ∷ []) us)
      (takes_on j l e (pre ++ t ∷ []) us (subst (λ ts. IsStepPath (levels_net sets N) e ts e) (sym (append_assoc pre (t ∷ []) us)) w) p)

  moves : (ts : List Taken) → Passes (levels_net sets N) ts → map (without_level sets) ts ≢ []
  moves [] p e = p
  moves (t ∷ ts) p e = cc

  pub full_from_found : (stem cycle : List Taken) → IsFound (levels_net sets N) stem cycle → IsFullWalk N sets (map (without_level sets) stem) (map (without_level sets) cycle)
  full_from_found stem cycle h =
      let q : (N.start * (sets + 1)) / (sets + 1) ≡ N.start = start_row N.start in
      record {
        end = h.end / (sets + 1);
        arrives = subst (λ n. IsStepPath N n (map (without_level sets) stem) (h.end / (sets + 1))) q (path_under (N.start * (sets + 1)) h.end stem h.arrives);
        cycles = path_under h.end h.end cycle h.cycles;
        moves = moves cycle h.passes;
        takes = λ j l. takes_on j l h.end [] cycle h.cycles h.passes;
      }
    where
      start_row : (a : ℕ) → (a * (sets + 1)) / (sets + 1) ≡ a
      start_row a = let e : a * (sets + 1) + 0 ≡ a * (sets + 1) = omega arith in ap (λ n. n / (sets + 1)) (sym e) ∙ div-mul-add a (sets + 1) 0 (omega arith)

  passes_before : (us vs : List Taken) → Passes (levels_net sets N) us → Passes (levels_net sets N) (us ++ vs)
  passes_before [] vs p = absurd p
  passes_before (u ∷ us) vs (inl p) = inl p
  passes_before (u ∷ us) vs (inr p) = inr (passes_before us vs p)

  passes_behind : (us vs : List Taken) → Passes (levels_net sets N) vs → Passes (levels_net sets N) (us ++ vs)
  passes_behind [] vs p = p
  passes_behind (u ∷ us) vs p = inr (passes_behind us vs p)

  -- ---- from the graph to levels
  -- a stem on levels over a stem of the graph
  record Lifted (s level : ℕ) (ts : List Taken) (e : ℕ) : Type 0 where
    steps : List Taken
    last : ℕ
    most : last ≤ sets
    is : IsStepPath (levels_net sets N) (s * (sets + 1) + level) steps (e * (sets + 1) + last)
    either : Passes (levels_net sets N) steps ⊎ ((level ≤ last) × (Takes N ts level → level < last) × (ts ≢ [] → level < sets))

  -- below the last level, an edge climbs from there
  climbs : (marks : List ℕ) (level : ℕ) → eqb level sets ≡ false → next_level sets marks level ≡ climb (sets - level) marks level
  climbs marks level e = ap (λ b. climb (sets - cond b 0 level) marks (cond b 0 level)) e

  not_last : (level : ℕ) → level ≤ sets → eqb level sets ≡ false → level < sets
  not_last level m e = grind (arith, nat_tests)

  climbs_up : (marks : List ℕ) (level : ℕ) → eqb level sets ≡ false → level ≤ next_level sets marks level
  climbs_up marks level e = subst (λ v. level ≤ v) (sym (climbs marks level e)) (climb_up (sets - level) marks level)

  climbs_past : (marks : List ℕ) (level : ℕ) → level ≤ sets → eqb level sets ≡ false → in_set marks level ≡ true → level < next_level sets marks level
  climbs_past marks level m e h =
      let u = climb_up (sets - (level + 1)) marks (level + 1) in
      subst (λ v. level < v) (sym (climbs marks level e ∙ climb_on sets level marks (not_last level m e) h)) (omega arith)

  same_successor : (n k : ℕ) (a b : Step ℕ) → IsSuccessor N n k a → IsSuccessor N n k b → a ≡ b
  same_successor n k a b i j = let p = i.found in let q = j.found in cc

  lift : (s level : ℕ) (ts : List Taken) (e : ℕ) → level ≤ sets → IsStepPath N s ts e → Lifted s level ts e
  lift s level [] e m w = record {
    steps = [];
    last = level;
    most = m;
    is = ap (λ n. n * (sets + 1) + level) w;
    either = inr (omega arith, λ h. absurd h, λ d. absurd (d refl));
  }
  lift s level (t ∷ ts) e m w = lifted (lift w.1.0.target (next_level sets w.1.0.marks level) ts e (after_most sets w.1.0.marks level m) w.1.3)
    where
      lifted : Lifted w.1.0.target (next_level sets w.1.0.marks level) ts e → Lifted s level (t ∷ ts) e
      lifted r =
          let d : (t.state * (sets + 1) + level) / (sets + 1) ≡ t.state = div-mul-add t.state (sets + 1) level (omega arith) in
          let o : (t.state * (sets + 1) + level) % (sets + 1) ≡ level = mod-mul-add t.state (sets + 1) level (omega arith) in
          record {
            steps = record { state = t.state * (sets + 1) + level; pick = t.pick; letter = t.letter } ∷ r.steps;
            last = r.last;
            most = r.most;
            is = (
              ap (λ n. n * (sets + 1) + level) w.0,
              (
                on_level sets level w.1.0,
                record {
                  within = subst (λ n. t.pick < N.pairs n) (sym d) w.1.1.within;
                  found = ap (λ n. option_map (on_level sets n) (N.successor ((t.state * (sets + 1) + level) / (sets + 1)) t.pick)) o ∙ ap (λ n. option_map (on_level sets level) (N.successor n t.pick)) d ∙ ap (option_map (on_level sets level)) w.1.1.found;
                },
                w.1.2,
                r.is,
              ),
            );
            either = by (eqb level sets) refl o r.either;
          }
        where
          by : (b : Bool) → eqb level sets ≡ b → (t.state * (sets + 1) + level) % (sets + 1) ≡ level → Passes (levels_net sets N) r.steps ⊎ ((next_level sets w.1.0.marks level ≤ r.last) × (Takes N ts (next_level sets w.1.0.marks level) → next_level sets w.1.0.marks level < r.last) × (ts ≢ [] → next_level sets w.1.0.marks level < sets)) → Passes (levels_net sets N) (record { state = t.state * (sets + 1) + level; pick = t.pick; letter = t.letter } ∷ r.steps) ⊎ ((level ≤ r.last) × (Takes N (t ∷ ts) level → level < r.last) × ((t ∷ ts) ≢ [] → level < sets))
          by true f o h = inl (inl (ap (λ n. eqb n sets) o ∙ f))
          by false f o (inl p) = inl (inr p)
          by false f o (inr h) =
              let u = climbs_up w.1.0.marks level f in
              let v = h.0 in
              inr (
                omega arith,
                (λ k. elim k [
                  | inl a ↦ let c = climbs_past w.1.0.marks level m f (subst (λ b. in_set b.marks level ≡ true) (same_successor t.state t.pick a.0 w.1.0 a.1 w.1.1) a.2) in omega arith
                  | inr a ↦ elim (cases_eq level (next_level sets w.1.0.marks level)) [
                    | inl q ↦ let c = h.1 (subst (Takes N ts) q a) in omega arith
                    | inr q ↦ omega arith
                  ]
                ]),
                λ d. not_last level m f,
              )

  -- ---- turn after turn
  module _ (e : ℕ) (cycle : List Taken) (w : IsStepPath N e cycle e) (moving : cycle ≢ []) (takes : (j : ℕ) → j < sets → Takes N cycle j) (l : ℕ) (m : l ≤ sets) where
    -- the level after so many turns
    level_of : ℕ → (k : ℕ) × (k ≤ sets)
    level_of zero = (l, m)
    level_of (suc k) = ((lift e (level_of k).0 cycle e (level_of k).1 w).last, (lift e (level_of k).0 cycle e (level_of k).1 w).most)

    -- the turns from the i-th on, d of them
    record Rounds (i j d : ℕ) : Type 0 where
      all : List Taken
      leads : IsStepPath (levels_net sets N) (e * (sets + 1) + (level_of i).0) all (e * (sets + 1) + (level_of j).0)
      rises : Passes (levels_net sets N) all ⊎ ((level_of i).0 + d ≤ (level_of j).0)

    -- a level below the last one rises in one more turn
    one_cycle : (k : ℕ) → Rounds k (suc k) 1
    unfolding level_of lift
    one_cycle k =
        let r = lift e (level_of k).0 cycle e (level_of k).1 w in
        record {
          all = r.steps;
          leads = r.is;
          rises = elim r.either [
            | inl p ↦ inl p
            | inr h ↦ inr (let q = h.2 moving in let v = h.1 (takes (level_of k).0 q) in omega arith)
          ];
        }

    rounds : (i d j : ℕ) → j ≡ i + d → Rounds i j d
    rounds i zero j q =
        let e' : i ≡ j = omega arith in
        record { all = []; leads = ap (λ k. e * (sets + 1) + (level_of k).0) e'; rises = inr (let f = ap (λ k. (level_of k).0) e' in omega arith) }
    rounds i (suc d) j q = joined (rounds i d (i + d) refl) (one_cycle (i + d))
      where
        joined : Rounds i (i + d) d → Rounds (i + d) (suc (i + d)) 1 → Rounds i j (suc d)
        joined r o =
            let e' : suc (i + d) ≡ j = omega arith in
            record {
              all = r.all ++ o.all;
              leads = subst (λ k. IsStepPath (levels_net sets N) (e * (sets + 1) + (level_of i).0) (r.all ++ o.all) (e * (sets + 1) + (level_of k).0)) e'
                  (path_append (levels_net sets N) (e * (sets + 1) + (level_of i).0) (e * (sets + 1) + (level_of (i + d)).0) (e * (sets + 1) + (level_of (suc (i + d))).0) r.all o.all r.leads o.leads);
              rises = elim r.rises [
                | inl p ↦ inl (passes_before r.all o.all p)
                | inr a ↦ elim o.rises [
                  | inl p ↦ inl (passes_behind r.all o.all p)
                  | inr b ↦ inr (let f = ap (λ k. (level_of k).0) e' in omega arith)
                ]
              ];
            }

    -- levels meet again, and in between the last level is passed
    meets : (stem : List Taken) → IsStepPath (levels_net sets N) (N.start * (sets + 1)) stem (e * (sets + 1) + l) → (stems : List Taken) × (cycles : List Taken) × IsFound (levels_net sets N) stems cycles
    unfolding level_of
    meets stem arrives =
        let p = pigeonhole (sets + 1) (λ k. (level_of k).0) (λ k b. let h = (level_of k).1 in omega arith) in
        let a = rounds 0 p.0 p.0 (omega arith) in
        let b = rounds p.0 (p.1 - p.0) p.1 (let h = p.2 in omega arith) in (
          stem ++ a.all,
          b.all,
          record {
            end = e * (sets + 1) + (level_of p.0).0;
            arrives = path_append (levels_net sets N) (N.start * (sets + 1)) (e * (sets + 1) + l) (e * (sets + 1) + (level_of p.0).0) stem a.all arrives a.leads;
            cycles = subst (λ k. IsStepPath (levels_net sets N) (e * (sets + 1) + (level_of p.0).0) b.all (e * (sets + 1) + k)) (sym p.4) b.leads;
            passes = elim b.rises [ inl q ↦ q | inr q ↦ absurd (let h = p.2 in let f = p.4 in omega arith) ];
          },
        )

  pub found_from_full : (stem cycle : List Taken) → IsFullWalk N sets stem cycle → (stems : List Taken) × (cycles : List Taken) × IsFound (levels_net sets N) stems cycles
  found_from_full stem cycle h =
      let r = lift N.start 0 stem h.end (omega arith) h.arrives in
      let z : N.start * (sets + 1) + 0 ≡ N.start * (sets + 1) = omega arith in
      meets h.end cycle h.cycles h.moves h.takes r.last r.most r.steps (subst (λ n. IsStepPath (levels_net sets N) n r.steps (h.end * (sets + 1) + r.last)) z r.is)

  -- as the code strips the levels off
  pub found_stripped : (stem cycle v t : List Taken) (height : ℕ) → height ≡ sets → v ≡ map (without_level height) stem → t ≡ map (without_level height) cycle → IsFound (levels_net sets N) stem cycle → IsFullWalk N sets v t
  found_stripped stem cycle v t height e f g h =
      let f' : v ≡ map (without_level sets) stem = f ∙ ap (λ n. map (without_level n) stem) e in
      let g' : t ≡ map (without_level sets) cycle = g ∙ ap (λ n. map (without_level n) cycle) e in
      subst (λ x. IsFullWalk N sets x t) (sym f') (subst (λ x. IsFullWalk N sets (map (without_level sets) stem) x) (sym g') (full_from_found stem cycle h))
