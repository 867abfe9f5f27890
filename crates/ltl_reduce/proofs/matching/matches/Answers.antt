use Rattle.std.proofs.Common.{◌||◌, sym, ◌∙◌, ap}
use Rattle.std.specs.Ordering.{nat_cmp}
use Rattle.ltl_spec.specs.Collections.Sets.{is_subset}
use Rattle.ltl_automaton.specs.EdgeView.{edge_of}
use Rattle.ltl_reduce.proofs.CheckLaws.{match_found, or_right}
use Rattle.ltl_reduce.proofs.matching.matches.Goals as goal

pub returns-then-free : goal.returns-then-free
returns-then-free c = λ h. match_found c.args.relation.now c.args.free (edge_of c.args.edge.now) (edge_of c.args.other.now) (sym c.relates.ensures ∙ c.if-relates.true) (sym c.implies_of.ensures ∙ c.if-implies_of.true)
    (ap (λ b. b || is_subset nat_cmp c.args.edge.now.marks c.args.other.now.marks) c.if-free.true)

pub returns-else-free : goal.returns-else-free
returns-else-free c = λ h. match_found c.args.relation.now c.args.free (edge_of c.args.edge.now) (edge_of c.args.other.now) (sym c.relates.ensures ∙ c.if-relates.true) (sym c.implies_of.ensures ∙ c.if-implies_of.true)
    (or_right c.args.free (is_subset nat_cmp c.args.edge.now.marks c.args.other.now.marks) (sym c.is_subset.ensures ∙ h))
