-- Laws of acceptance sets and levels.
use Rattle.std.proofs.Common.{◌≡◌, ℕ, zero, suc, ◌+◌, ◌*◌, ◌/◌, ◌%◌, ◌<◌, ◌≤◌, Bool, true, false, cond, eqb, List, [], ◌∷◌, Option, Some, None, inl, inr, refl, sym, ◌∙◌, ap, subst, arith}
use Rattle.std.proofs.Math.Nat.{suc-mul}
use Rattle.std.proofs.lemmas.Bool.{cases_eq}
use Rattle.std.proofs.lemmas.Nat.{div-mul-add, mod-mul-add, rows}
use Rattle.std.specs.Prelude.{option_map}
use Rattle.ltl_spec.specs.Construction.Levels.{climb, next_level}
use Rattle.ltl_spec.proofs.Collections.SetLaws.{has_Decides}
use Rattle.ltl_spec.proofs.Collections.Orders.{nat_linear}
use Rattle.ltl_spec.proofs.Construction.ClimbLaws.{next_level_most}
use Rattle.ltl_check.specs.declared.graph.Step.{Step}
use Rattle.ltl_check.specs.declared.levels.LevelState.{LevelState}
use Rattle.ltl_check.specs.Marks.{in_set, MarksBelow}
use Rattle.ltl_check.specs.Levels.{placed_step}

-- one more step of a climb, by whether the marks hold the set
climb_by : (P : ℕ → Type 0) (n : ℕ) (marks : List ℕ) (at : ℕ) (b : Bool) → in_set marks at ≡ b → (b ≡ true → P (climb n marks (at + 1))) → (b ≡ false → P at) → P (climb (suc n) marks at)
climb_by P n marks at true e up stay = subst P (sym (ap (λ b. cond b (climb n marks (at + 1)) at) e)) (up refl)
climb_by P n marks at false e up stay = subst P (sym (ap (λ b. cond b (climb n marks (at + 1)) at) e)) (stay refl)

pub climb_up : (n : ℕ) (marks : List ℕ) (at : ℕ) → at ≤ climb n marks at
climb_up zero marks at = omega arith
climb_up (suc n) marks at = climb_by (λ v. at ≤ v) n marks at (in_set marks at) refl (λ e. let h = climb_up n marks (at + 1) in omega arith) (λ e. omega arith)

-- a set that the marks lack is a bound
pub climb_bound : (n : ℕ) (marks : List ℕ) (at j : ℕ) → at ≤ j → in_set marks j ≡ false → climb n marks at ≤ j
climb_bound zero marks at j l h = l
climb_bound (suc n) marks at j l h = climb_by (λ v. v ≤ j) n marks at (in_set marks at) refl (λ e. climb_bound n marks (at + 1) j (other e) h) (λ e. l)
  where
    other : in_set marks at ≡ true → at + 1 ≤ j
    other e = elim (cases_eq at j) [ inl q ↦ absurd (let e' : in_set marks j ≡ true = subst (λ i. in_set marks i ≡ true) q e in cc) | inr q ↦ omega arith ]

pub after_most : (sets : ℕ) (marks : List ℕ) (level : ℕ) → level ≤ sets → next_level sets marks level ≤ sets
after_most sets marks level l = next_level_most sets level marks l

-- numbers of placed states
pub place_within : (n count r : ℕ) → n < count * (r + 1) → n / (r + 1) < count
place_within n count r l = grind (arith, rows)

pub place_level : (n r : ℕ) → n % (r + 1) ≤ r
place_level n r = omega arith

pub place_below : (a b count r : ℕ) → a < count → b ≤ r → a * (r + 1) + b < count * (r + 1)
place_below a b count r l m = grind (arith, rows)

pub none_below : (n : ℕ) → 0 ≤ n
none_below n = omega arith

pub mapped : {A B : Type 0} (f : A → B) (o : Option A) (t : B) → option_map f o ≡ Some t → (a : A) × (o ≡ Some a) × (f a ≡ t)
mapped f None t e = absurd (cc)
mapped f (Some a) t e = (a, refl, (cc))

pub placed_target : {S : Type 0} (P : S → Type 0) (sets level : ℕ) (o : Option (Step S)) (t : Step (LevelState S)) → level ≤ sets → option_map (placed_step sets level) o ≡ Some t → ((a : Step S) → o ≡ Some a → P a.target) → P t.target.state × (t.target.level ≤ sets)
placed_target P sets level o t l e f =
    let m = mapped (placed_step sets level) o t e in
    subst (λ u. P u.target.state × (u.target.level ≤ sets)) m.2 (f m.0 m.1, after_most sets m.0.marks level l)

placed_marks_by : (b : Bool) → MarksBelow (cond b (0 ∷ []) []) 1
placed_marks_by true j e = elim ((has_Decides nat_linear j (0 ∷ [])).0 e) [ inl q ↦ omega arith | inr h ↦ absurd h ]
placed_marks_by false j e = absurd ((has_Decides nat_linear j []).0 e)

pub placed_marks : {S : Type 0} (sets level : ℕ) (o : Option (Step S)) (t : Step (LevelState S)) → option_map (placed_step sets level) o ≡ Some t → MarksBelow t.marks 1
placed_marks sets level o t e =
    let m = mapped (placed_step sets level) o t e in
    subst (λ u. MarksBelow u.marks 1) m.2 (placed_marks_by (eqb level sets))

pub placed_back : {S : Type 0} (state : ℕ → S) (n r : ℕ) (s : LevelState S) → s.level ≤ r → state n ≡ s.state → record { state = state ((n * (r + 1) + s.level) / (r + 1)); level = (n * (r + 1) + s.level) % (r + 1) } ≡ s
placed_back state n r s l e =
    let d : (n * (r + 1) + s.level) / (r + 1) ≡ n = div-mul-add n (r + 1) s.level (omega arith) in
    let m : (n * (r + 1) + s.level) % (r + 1) ≡ s.level = mod-mul-add n (r + 1) s.level (omega arith) in
    let f : state ((n * (r + 1) + s.level) / (r + 1)) ≡ s.state = ap state d ∙ e in
    ap (λ u. record { state = u; level = (n * (r + 1) + s.level) % (r + 1) }) f ∙ ap (λ v. record { state = s.state; level = v }) m

pub fits_one : (a b m : ℕ) → 0 < a → a * b ≤ m → b ≤ m
fits_one zero b m p l = absurd (omega arith)
fits_one (suc a) b m p l = let e : suc a * b ≡ a * b + b = suc-mul a b in omega arith
