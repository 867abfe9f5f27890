use Rattle.std.proofs.Common.{drop, map}
use Rattle.ltl_spec.specs.Words.LassoText.{lasso_text}
use Rattle.ltl_streams.proofs.PrintLaws.{Lacks}
use Rattle.ltl_word.proofs.TextLaws.{letters_from}
use Rattle.ltl_word.proofs.lasso.Lasso.put.Given as goal

abbrev pub invariant-loop-i : goal.invariant-loop-i
invariant-loop-i g l =
    Lacks g.S.ByteSink.state l.fn.out l.out (letters_from (map (λ n. n.items) l.self-inside.names.items) l.self-inside.stem l.i (drop l.i l.self-inside.letters.items)) (lasso_text l.self)
