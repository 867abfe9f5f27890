use Rattle.std.proofs.Common.{◌∙◌, ◌++◌, ◌∷◌, [], ap, sym, false, Some}
use Rattle.ltl_spec.specs.Claims.ClaimMachine as machine
use Rattle.ltl_claim.specs.ProgramView.{BuiltView, built_of, option_of, with_statement}
use Rattle.ltl_claim.proofs.ProgramLaws as laws
use Rattle.ltl_claim.proofs.program.Program.end_head.Goals as goal

pub returns : goal.returns
returns g c = λ names.
    ap (λ b. machine.head_ended b (option_of c.args.option).first (built_of names c.args.self.now)) c.if-inside.false
    ∙ laws.head_view names c.args.self.now c.args.option c.requires
    ∙ ap (λ (v : BuiltView). Some (built_of names v))
    (sym (c.in_ok-state.ensures ∙ ap (λ os. with_statement false os c.args.self.now) (c.in_ok-push.ensures.items ∙ ap (λ os. os ++ c.args.option ∷ []) c.in_ok-options.ensures.items)))
