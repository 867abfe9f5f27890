-- The steps of a climb.
use Rattle.std.proofs.Common.{◌≡◌, ℕ, zero, suc, ◌+◌, ◌-◌, ◌<◌, true, false, cond, List, refl, ◌∙◌, ap, arith}
use Rattle.std.specs.Ordering.{nat_cmp}
use Rattle.ltl_spec.specs.Collections.Sets.{has}
use Rattle.ltl_spec.specs.Construction.Levels.{climb}

-- the marks hold the next set: one level up
pub climb_on : (sets at : ℕ) (marks : List ℕ) → at < sets → has nat_cmp at marks ≡ true → climb (sets - at) marks at ≡ climb (sets - (at + 1)) marks (at + 1)
climb_on sets at marks l h =
    let e : sets - at ≡ suc (sets - (at + 1)) = omega arith in
    ap (λ n. climb n marks at) e ∙ ap (λ b. cond b (climb (sets - (at + 1)) marks (at + 1)) at) h

-- they don't: the climb ends
pub climb_stop : (n at : ℕ) (marks : List ℕ) → has nat_cmp at marks ≡ false → climb n marks at ≡ at
climb_stop zero at marks h = refl
climb_stop (suc n) at marks h = ap (λ b. cond b (climb n marks (at + 1)) at) h
