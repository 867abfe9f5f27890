-- Worked examples at the limits: 256 propositions and 256 elementary rows.
use Rattle.std.proofs.Common.{◌≡◌, ℕ, zero, suc, ◌<◌, ◌≤◌, true, false, length, refl, subst, sym, arith}
use Rattle.ltl_spec.specs.Formulas.Formula.{Formula, Proposition, Unary, Binary, Next, Or}
use Rattle.ltl_spec.specs.NormalForms.NormalForm.{core, rows, elementary_rows}
use Rattle.ltl_spec.specs.Tools.Limits.{stated_limits}
use Rattle.ltl_spec.specs.Tools.Refusal.{TooManyElementaryRows}
use Rattle.ltl_spec.specs.Tools.Programs.{RefusesRows}

-- a disjunction of the propositions up to n
any_up_to : ℕ → Formula
any_up_to zero = Proposition 0
any_up_to (suc n) = Binary Or (any_up_to n) (Proposition (suc n))

-- `X`, n times, and p
nexts : ℕ → Formula
nexts zero = Proposition 0
nexts (suc n) = Unary Next (nexts n)

-- the 255 literals and the root
any_255 : length (elementary_rows (core (any_up_to 254) false true)) ≡ 256
unfolding any_up_to
any_255 = refl

any_256 : length (elementary_rows (core (any_up_to 255) false true)) ≡ 257
unfolding any_up_to
any_256 = refl

any_256_rows : length (rows (core (any_up_to 255) false true)) ≡ 511
unfolding any_up_to
any_256_rows = refl

any_256_refused : RefusesRows stated_limits (core (any_up_to 255) false true) TooManyElementaryRows
any_256_refused = (subst (λ n. n ≤ 4_096) (sym any_256_rows) (omega arith), subst (λ n. 256 < n) (sym any_256) (omega arith))

nexts_64 : length (elementary_rows (core (nexts 64) false true)) ≡ 65
unfolding nexts
nexts_64 = refl
