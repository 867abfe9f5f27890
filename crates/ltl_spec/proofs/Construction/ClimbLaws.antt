-- Levels: an edge goes up as long as its marks have the next set, and from the last level as from the first.
use Rattle.std.proofs.Common.{◌≡◌, ℕ, zero, suc, ◌+◌, ◌-◌, ◌<◌, ◌≤◌, true, false, cond, eqb, inl, inr, List, refl, sym, ◌∙◌, ap, subst, arith}
use Rattle.std.specs.Ordering.{nat_cmp}
use Rattle.std.specs.Bool.{Decides}
use Rattle.std.proofs.lemmas.Bool.Decides.{Decides-eqb}
use Rattle.std.proofs.lemmas.Bool.{cases_lt}
use Rattle.ltl_spec.specs.Collections.Sets.{Has, has}
use Rattle.ltl_spec.specs.Construction.Levels.{climb, next_level}
use Rattle.ltl_spec.proofs.Collections.Orders.{nat_linear}
use Rattle.ltl_spec.proofs.Collections.SetLaws.{has_Decides}
use Rattle.ltl_spec.proofs.Collections.CaseLaws.{here_or_above}

-- a climb leads no lower
climb_least : (n at : ℕ) (marks : List ℕ) → at ≤ climb n marks at
climb_least zero at marks = omega arith
climb_least (suc n) at marks =
    let l : at + 1 ≤ climb n marks (at + 1) = climb_least n (at + 1) marks in
    elim (has nat_cmp at marks) as (λ b. at ≤ cond b (climb n marks (at + 1)) at) [ true ↦ omega arith | false ↦ omega arith ]

-- nor further than its steps
climb_most : (n at : ℕ) (marks : List ℕ) → climb n marks at ≤ at + n
climb_most zero at marks = omega arith
climb_most (suc n) at marks =
    let l : climb n marks (at + 1) ≤ at + 1 + n = climb_most n (at + 1) marks in
    elim (has nat_cmp at marks) as (λ b. cond b (climb n marks (at + 1)) at ≤ at + suc n) [ true ↦ omega arith | false ↦ omega arith ]

-- it rises where the next set is marked
climb_rises : (n at : ℕ) (marks : List ℕ) → Has marks at → at < climb (suc n) marks at
climb_rises n at marks h =
    let l : at + 1 ≤ climb n marks (at + 1) = climb_least n (at + 1) marks in
    subst (λ b. at < cond b (climb n marks (at + 1)) at) (sym ((has_Decides nat_linear at marks).1 h)) (omega arith)

-- it passes only what is marked
pub climb_passes : (n at f : ℕ) (marks : List ℕ) → at ≤ f → f < climb n marks at → Has marks f
climb_passes zero at f marks l m = absurd (omega arith)
climb_passes (suc n) at f marks l m =
    elim (has nat_cmp at marks) as (λ b. has nat_cmp at marks ≡ b → f < cond b (climb n marks (at + 1)) at → Has marks f) [
      | true ↦ λ e k. elim (here_or_above at f l) [
        | inl i ↦ subst (Has marks) i ((has_Decides nat_linear at marks).0 e)
        | inr above ↦ climb_passes n (at + 1) f marks above k
      ]
      | false ↦ λ e k. absurd (omega arith)
    ] refl m

-- the level from which the climb starts
abbrev pub first_level : ℕ → ℕ → ℕ
first_level sets level = cond (eqb level sets) 0 level

-- that is 0 for the last level, and else the level itself
pub first_level_top : (sets : ℕ) → first_level sets sets ≡ 0
first_level_top sets = ap (λ b. cond b 0 sets) ((Decides-eqb sets sets).1 refl)

pub first_level_low : (sets level : ℕ) → level < sets → first_level sets level ≡ level
first_level_low sets level l =
    elim (eqb level sets) as (λ b. Decides b (level ≡ sets) → cond b 0 level ≡ level) [
      | true ↦ λ d. let e = d.0 refl in absurd (omega arith)
      | false ↦ λ d. refl
    ] (Decides-eqb level sets)

-- and it is one of the levels
first_level_most : (sets level : ℕ) → level ≤ sets → first_level sets level ≤ sets
first_level_most sets level l = elim (eqb level sets) as (λ b. cond b 0 level ≤ sets) [ true ↦ omega arith | false ↦ l ]

-- the next level is one of the levels
pub next_level_most : (sets level : ℕ) (marks : List ℕ) → level ≤ sets → next_level sets marks level ≤ sets
next_level_most sets level marks l =
    let first = first_level sets level in
    let k : first ≤ sets = first_level_most sets level l in
    let m : climb (sets - first) marks first ≤ first + (sets - first) = climb_most (sets - first) first marks in
    omega arith

-- from below the last one it is no lower, and higher where the next set is marked
next_level_least : (sets level : ℕ) (marks : List ℕ) → level < sets → level ≤ next_level sets marks level
next_level_least sets level marks l = subst (λ first. level ≤ climb (sets - first) marks first) (sym (first_level_low sets level l)) (climb_least (sets - level) level marks)

next_level_rises : (sets level : ℕ) (marks : List ℕ) → level < sets → Has marks level → level < next_level sets marks level
next_level_rises sets level marks l h =
    let e : suc (sets - level - 1) ≡ sets - level = omega arith in
    subst (λ first. level < climb (sets - first) marks first) (sym (first_level_low sets level l)) (subst (λ n. level < climb n marks level) e (climb_rises (sets - level - 1) level marks h))

-- it passes only what is marked
pub next_level_passes : (sets level f : ℕ) (marks : List ℕ) → first_level sets level ≤ f → f < next_level sets marks level → Has marks f
next_level_passes sets level f marks l m = climb_passes (sets - first_level sets level) (first_level sets level) f marks l m

-- levels that go on with the marks of each time
module _ (sets : ℕ) (level : ℕ → ℕ) (marks : ℕ → List ℕ) (goes : (k : ℕ) → level (suc k) ≡ next_level sets (marks k) (level k)) where
  -- none is above the last one
  pub levels_most : level 0 ≡ 0 → (k : ℕ) → level k ≤ sets
  levels_most e zero = omega arith
  levels_most e (suc k) = subst (λ l. l ≤ sets) (sym (goes k)) (next_level_most sets (level k) (marks k) (levels_most e k))

  -- where the set of a level is marked later the level has risen by then
  rises : (d k : ℕ) → level k < sets → Has (marks (k + d)) (level k) → (j : ℕ) × (k ≤ j) × (level k < level j)
  rises zero k l h =
      let e : k + 0 ≡ k = omega arith in
      (suc k, omega arith, subst (λ n. level k < n) (sym (goes k)) (next_level_rises sets (level k) (marks k) l (subst (λ n. Has (marks n) (level k)) e h)))
  rises (suc d) k l h =
      let least : level k ≤ level (suc k) = subst (λ n. level k ≤ n) (sym (goes k)) (next_level_least sets (level k) (marks k) l) in
      elim (cases_lt (level k) (level (suc k))) [
        | inl up ↦ (suc k, omega arith, up)
        | inr same ↦
            let e : level k ≡ level (suc k) = omega arith in
            let t : k + suc d ≡ suc k + d = omega arith in
            let w = rises d (suc k) (subst (λ n. n < sets) e l) (subst (λ n. Has (marks (suc k + d)) n) e (subst (λ n. Has (marks n) (level k)) t h)) in
            (w.0, (let a = w.1 in omega arith), subst (λ n. n < level w.0) (sym e) w.2)
      ]

  module _ (begins : level 0 ≡ 0) (again : (f k : ℕ) → f < sets → (j : ℕ) × (k ≤ j) × Has (marks j) f) where
    -- so the last one comes within as many rises as are missing
    climbs : (fuel k : ℕ) → sets ≤ level k + fuel → (j : ℕ) × (k ≤ j) × (level j ≡ sets)
    climbs zero k l = let m = levels_most begins k in (k, omega arith, omega arith)
    climbs (suc fuel) k l =
        elim (cases_lt (level k) sets) [
          | inl low ↦
              let w = again (level k) k low in
              let a = w.1 in
              let e : w.0 ≡ k + (w.0 - k) = omega arith in
              let up = rises (w.0 - k) k low (subst (λ n. Has (marks n) (level k)) e w.2) in
              let b = up.1 in
              let c = up.2 in
              let top = climbs fuel up.0 (omega arith) in
              (top.0, (let g = top.1 in omega arith), top.2)
          | inr high ↦ let m = levels_most begins k in (k, omega arith, omega arith)
        ]

    -- where each set is marked again and again the last level comes again and again
    pub top_again : (k : ℕ) → (j : ℕ) × (k ≤ j) × (level j ≡ sets)
    top_again k = climbs sets k (omega arith)

  -- on the way to the last level each set from the start on is passed
  passes : (d k f : ℕ) → f < sets → first_level sets (level k) ≤ f → level (k + suc d) ≡ sets → (j : ℕ) × (k ≤ j) × Has (marks j) f
  passes zero k f l m e =
      let t : suc k ≡ k + 1 = omega arith in
      (k, omega arith, next_level_passes sets (level k) f (marks k) m (subst (λ n. f < n) (sym e ∙ ap level (sym t) ∙ goes k) l))
  passes (suc d) k f l m e =
      elim (cases_lt f (level (suc k))) [
        | inl past ↦ (k, omega arith, next_level_passes sets (level k) f (marks k) m (subst (λ n. f < n) (goes k) past))
        | inr low ↦
            let t : suc k + suc d ≡ k + suc (suc d) = omega arith in
            let w = passes d (suc k) f l (subst (λ n. n ≤ f) (sym (first_level_low sets (level (suc k)) (omega arith))) low) (ap level t ∙ e) in
            (w.0, (let a = w.1 in omega arith), w.2)
      ]

  -- where the last level comes again and again each set is marked again and again
  pub marks_again : ((k : ℕ) → (j : ℕ) × (k ≤ j) × (level j ≡ sets)) → (f k : ℕ) → f < sets → (j : ℕ) × (k ≤ j) × Has (marks j) f
  marks_again tops f k l =
      let t = tops k in
      let u = tops (suc t.0) in
      let a = t.1 in
      let b = u.1 in
      let e : u.0 ≡ t.0 + suc (u.0 - t.0 - 1) = omega arith in
      let first : first_level sets (level t.0) ≤ f = subst (λ n. first_level sets n ≤ f) (sym t.2) (subst (λ n. n ≤ f) (sym (first_level_top sets)) (omega arith)) in
      let w = passes (u.0 - t.0 - 1) t.0 f l first (ap level (sym e) ∙ u.2) in
      (w.0, (let c = w.1 in omega arith), w.2)
