-- Formulas in negation normal form.
use Rattle.std.specs.Prelude.{Bool, true, false, ◌&&◌, ◌==◌}
use Rattle.std.specs.Bool.{beq}
use Rattle.ltl_spec.specs.Transitions.Cubes.{Literal}

-- negation stands at propositions alone
pub data Normal : Type 0 where
  Top Bottom : Normal
  Leaf : Literal → Normal
  Next : Normal → Normal
  And Or Until Release : Normal → Normal → Normal

abbrev pub same_literal : Literal → Literal → Bool
same_literal l m = l.proposition == m.proposition && beq l.positive m.positive

-- whether two normal forms are equal
abbrev pub same : Normal → Normal → Bool
same Top Top = true
same Bottom Bottom = true
same (Leaf l) (Leaf m) = same_literal l m
same (Next a) (Next b) = same a b
same (And a b) (And c d) = same a c && same b d
same (Or a b) (Or c d) = same a c && same b d
same (Until a b) (Until c d) = same a c && same b d
same (Release a b) (Release c d) = same a c && same b d
same _ _ = false
