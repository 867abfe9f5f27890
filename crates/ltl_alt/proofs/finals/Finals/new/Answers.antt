use Rattle.std.proofs.Common.{subst}
use Rattle.ltl_spec.specs.Collections.Sets.{Has}
use Rattle.ltl_alt.specs.TransitionView.{table_at}
use Rattle.ltl_alt.proofs.finals.Finals.new.Goals as goal

pub returns : goal.returns
returns g c =
    let b = c.args.basis.now in (
      c.in_ok-components.ensures (table_at b.table.now) b.pruning.rule,
      record {
        of_joins = λ key n h. absurd (subst (λ es. Has es (key, n)) c.new-3.ensures.empty h);
        of_components = λ component n h. absurd (subst (λ es. Has es (component, n)) c.new-4.ensures.empty h);
      },
    )
