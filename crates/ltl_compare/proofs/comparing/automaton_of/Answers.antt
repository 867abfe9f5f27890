use Rattle.std.proofs.lemmas.Result.{err_from_is_err_and}
use Rattle.ltl_syntax.specs.FormulaView.{reading_of}
use Rattle.ltl_compare.proofs.AutomatonLaws.{made_named, translation_made, translation_refused}
use Rattle.ltl_compare.proofs.comparing.automaton_of.Goals as goal

pub returns-in_err-automaton-clause-step : goal.returns-in_err-automaton-clause-step
returns-in_err-automaton-clause-step g c =
    let p = err_from_is_err_and c.from_residual-in_err-automaton.result c.from_residual-in_err-automaton.ensures.1 in
    rw (p.1, p.2) (translation_refused c.in_ok-table.table (reading_of c.args.formula.now) c.args.negate c.in_ok-table.ensures.table c.in_ok-table.ensures.core _ c.in_err-automaton.ensures.large)

pub returns-clause-step : goal.returns-clause-step
returns-clause-step g c =
    translation_made c.in_ok-table.table (reading_of c.args.formula.now) c.args.negate c.in_ok-table.ensures.table c.in_ok-table.ensures.core c.in_ok-automaton.automaton c.in_ok-automaton.ensures.definition
    c.in_ok-automaton.ensures.fits

pub returns-clause-named : goal.returns-clause-named
returns-clause-named g c =
    made_named c.args.formula.now c.invariant.ensures c.in_ok-table.table c.args.negate c.in_ok-automaton.automaton c.in_ok-table.ensures.core c.in_ok-automaton.ensures.named
