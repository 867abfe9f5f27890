use Rattle.std.proofs.Common.{◌∙◌, ap, sym, subst, map}
use Rattle.ltl_spec.specs.Claims.ClaimMeaning.{leads}
use Rattle.ltl_claim.specs.ProgramView.{StatementView, label_of}
use Rattle.ltl_claim.specs.ResolveView.{AreTables}
use Rattle.ltl_claim.proofs.WayLaws.{first_tables, nearest_of, next_tables}
use Rattle.ltl_claim.proofs.resolve.tables.Goals as goal

pub statements-init : goal.statements-init
statements-init g c =
    first_tables c.args.statements.now (map (label_of (λ n. n.now)) c.args.labels.now.entries) c.requires c.in_ok-nearest_ones.nearest_ones.items c.in_ok-after.after.items
    c.in_ok-nearest_ones.ensures.items c.in_ok-after.ensures.items

pub statements-preserved : goal.statements-preserved
statements-preserved g c =
    next_tables c.args.statements.now (map (label_of (λ n. n.now)) c.args.labels.now.entries) c.requires c.statements.nearest_ones.items c.statements.after.items
    c.push-in-statements.new.self.items c.push.new.self.items c.statements.i c.nearest-one.result c.target-behind.result c.index-statements-i.result c.statements-test.true c.index-statements-i.is
    (c.nearest-one.ensures ∙ ap (λ xs. nearest_of c.args.statements.now xs c.statements.i) c.as_slice-in-statements-2.ensures.value)
    (λ P a t.
    c.target-behind.ensures P a (subst (λ xs. AreTables P xs c.as_slice-in-statements.result.now) (sym c.as_slice.ensures.value) (subst (λ ys. AreTables P c.statements.nearest_ones.items ys) (sym c.as_slice-in-statements.ensures.value) t))
    ∙ ap (λ (s : StatementView). leads P s.next s.around) c.statement.view_is)
    c.in_ok-push-2.ensures.items c.in_ok-push.ensures.items c.statements.invariant
