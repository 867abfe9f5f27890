use Rattle.std.proofs.Common.{◌∙◌, ap, map}
use Rattle.std.specs.List.{list_all}
use Rattle.ltl_spec.specs.Claims.ClaimMachine as machine
use Rattle.ltl_claim.specs.ProgramView.{BuiltView, label_of}
use Rattle.ltl_claim.proofs.ProgramLaws as laws
use Rattle.ltl_claim.proofs.program.Program.are_labelled.Goals as goal

pub returns : goal.returns
returns g c =
    c.are_labels.ensures ∙ ap (list_all (λ n. machine.is_label n.now (map (label_of (λ l. l.now)) c.self.inside.labels.entries))) c.deref.ensures.value ∙ laws.all_view (λ l. l.now) (λ l. machine.is_label l (map (label_of (λ l. l.now)) c.self.inside.labels.entries)) c.self.inside.gotos.items
    ∙ ap (λ (v : BuiltView). list_all (λ l. machine.is_label l v.labels) v.gotos) c.self.view_is
