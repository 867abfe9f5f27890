use Rattle.std.proofs.Common.{◌∙◌, ◌++◌, ap, sym, map, string_bytes}
use Rattle.ltl_syntax.specs.FormulaView.{trees}
use Rattle.ltl_syntax.specs.CanonicalWork.{stack_text}
use Rattle.ltl_syntax.proofs.PrintLemmas.{stack_text_push}
use Rattle.ltl_syntax.proofs.canonical.canonical.Goals as goal

pub work-preserved : goal.work-preserved
work-preserved g c =
    let names = map string_bytes c.args.names.now in
    let ts = trees c.args.nodes.now in
    let whole = ap (stack_text names ts) c.in-Some.ensures.items ∙ stack_text_push names ts c.pop.new.self.items c.in-Some.work in
    record {
      points = c.in_ok-step.ensures.points;
      text = c.in_ok-step.ensures.text ∙ ap (λ z. c.work.text.items ++ z) (sym whole) ∙ c.work.invariant.text;
    }
