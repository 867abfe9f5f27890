use Rattle.std.proofs.Common.{ap, refl}
use Rattle.ltl_spec.specs.Construction.Levels.{level_automaton}
use Rattle.ltl_spec.specs.Tools.Limits.{stated_limits}
use Rattle.ltl_formula.specs.TableView.{core_of}
use Rattle.ltl_passes.specs.Passes.{merged_of}
use Rattle.ltl_buchi.proofs.TranslationLaws.{translated, fitting, copies_too_large, language, models, violations, named}
use Rattle.ltl_buchi.proofs.translation.translate.Goals as goal

pub returns-clause-large : goal.returns-clause-large
returns-clause-large g c = λ e.
    let o = c.args.options.now in
    let A = c.in_ok-reached.reached in
    copies_too_large (core_of c.args.table.now) o c.options.inside.keep_implied (ap (λ p. p.keep_implied) c.options.view_is) A (merged_of o A) c.in_ok-reached.ensures.generalized refl stated_limits.states stated_limits.edges (c.buchi.ensures.many e)

pub returns-clause-definition : goal.returns-clause-definition
returns-clause-definition g c =
    let o = c.args.options.now in
    let A = c.in_ok-reached.reached in
    let L = level_automaton (merged_of o A) in
    translated (core_of c.args.table.now) o c.options.inside.keep_implied (ap (λ p. p.keep_implied) c.options.view_is) A (merged_of o A) c.in_ok-reached.ensures.generalized refl L (merged_of o L) c.buchi.result refl refl c.buchi.ensures.states

pub returns-clause-fits : goal.returns-clause-fits
returns-clause-fits g c =
    let o = c.args.options.now in
    let A = c.in_ok-reached.reached in
    fitting (core_of c.args.table.now) o c.options.inside.keep_implied (ap (λ p. p.keep_implied) c.options.view_is) A (merged_of o A) c.in_ok-reached.ensures.generalized refl stated_limits.states stated_limits.edges c.buchi.result
    c.in_ok-reached.ensures.fits c.buchi.ensures.few

pub returns-clause-language : goal.returns-clause-language
returns-clause-language g c = language (core_of c.args.table.now) c.args.options.now c.buchi.result (returns-clause-definition g c)

pub returns-clause-models : goal.returns-clause-models
returns-clause-models g c = models (core_of c.args.table.now) c.args.options.now c.buchi.result (returns-clause-definition g c)

pub returns-clause-violations : goal.returns-clause-violations
returns-clause-violations g c = violations (core_of c.args.table.now) c.args.options.now c.buchi.result (returns-clause-definition g c)

pub returns-clause-named : goal.returns-clause-named
returns-clause-named g c = named (core_of c.args.table.now) c.args.options.now c.buchi.result (returns-clause-definition g c)
