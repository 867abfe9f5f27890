use Rattle.std.proofs.Common.{◌∙◌, sym}
use Rattle.std.proofs.lemmas.List.{length-map}
use Rattle.ltl_spec.specs.Formulas.Tokens.{items}
use Rattle.ltl_c.specs.declared.rows.Counts.{Counts}
use Rattle.ltl_cli.specs.Translations.{automaton_in}
use Rattle.ltl_c.specs.Arrays.{name_row}
use Rattle.ltl_c.proofs.ArrayLaws.{states_counted}
use Rattle.ltl_c.proofs.automaton.counts_of.Goals as goal

pub returns : goal.returns
returns g c =
    λ text. let states = c.len.ensures ∙ sym (states_counted 0 (automaton_in c.args.made.now.printable).states) in
    let names = c.name_count.ensures ∙ sym (length-map c.args.made.now.formula.names (name_row (items text))) in
    λ i. let r : Counts = record { states = states i; edges = c.edge_count.ensures i; names = names i; sets = c.sets.ensures i; refusal = c.no_refusal.ensures i } in r
