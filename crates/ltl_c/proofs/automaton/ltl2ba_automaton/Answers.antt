use Rattle.std.proofs.Common.{◌∙◌}
use Rattle.ltl_syntax.specs.FormulaView.{reading_of}
use Rattle.ltl_cli.specs.Translations.{automaton_in}
use Rattle.ltl_c.specs.Arrays.{arrays}
use Rattle.ltl_c.proofs.HandLaws.{edges_room, names_room, refused_handed, short_handed, states_room, whole_handed}
use Rattle.ltl_c.proofs.automaton.ltl2ba_automaton.Goals as goal

pub put_states-requires-clause-states_fit : goal.put_states-requires-clause-states_fit
put_states-requires-clause-states_fit c =
    states_room c.args.formula.now c.args.options.now c.counts_of.result (arrays c.args.states.now c.args.edges.now c.args.names.now) (reading_of c.in-Ok.made.formula) (automaton_in c.in-Ok.made.printable)
    (c.counts_of.ensures c.args.formula.now) c.fits.result c.fits.ensures c.if-not-fits.false

pub put_states-requires-clause-edges_fit : goal.put_states-requires-clause-edges_fit
put_states-requires-clause-edges_fit c =
    edges_room c.args.formula.now c.args.options.now c.counts_of.result (arrays c.args.states.now c.args.edges.now c.args.names.now) (reading_of c.in-Ok.made.formula) (automaton_in c.in-Ok.made.printable)
    (c.counts_of.ensures c.args.formula.now) c.fits.result c.fits.ensures c.if-not-fits.false

pub put_names-requires-clause-fit : goal.put_names-requires-clause-fit
put_names-requires-clause-fit c =
    names_room c.args.formula.now c.args.options.now c.counts_of.result (arrays c.args.states.now c.args.edges.now c.args.names.now) (reading_of c.in-Ok.made.formula) (automaton_in c.in-Ok.made.printable)
    (c.counts_of.ensures c.args.formula.now) c.fits.result c.fits.ensures c.if-not-fits.false

pub returns-then-not-fits : goal.returns-then-not-fits
returns-then-not-fits c =
    short_handed c.args.formula.now c.args.options.now c.counts_of.result (arrays c.args.states.now c.args.edges.now c.args.names.now) (reading_of c.in-Ok.made.formula) (automaton_in c.in-Ok.made.printable)
    (c.counts_of.ensures c.args.formula.now) c.fits.result c.fits.ensures c.in-Ok.ensures.made c.if-not-fits.true

pub returns-else-not-fits : goal.returns-else-not-fits
returns-else-not-fits c =
    whole_handed c.args.formula.now c.args.options.now c.counts_of.result (arrays c.args.states.now c.args.edges.now c.args.names.now) (reading_of c.in-Ok.made.formula) (automaton_in c.in-Ok.made.printable)
    (c.counts_of.ensures c.args.formula.now) c.fits.result c.fits.ensures c.in-Ok.ensures.made c.if-not-fits.false
    (arrays c.put_states.new.states c.put_states.new.edges c.put_names.new.names) (λ i. arrays (c.put_states.ensures.states i) (c.put_states.ensures.edges i) (c.put_names.ensures i))

pub returns-in-Err : goal.returns-in-Err
returns-in-Err c =
    refused_handed c.args.formula.now c.args.options.now c.refused.result (arrays c.args.states.now c.args.edges.now c.args.names.now) c.in-Err.reason c.in-Err.ensures.made c.refused.ensures
    c.number.result (c.number.ensures ∙ c.status.ensures)
