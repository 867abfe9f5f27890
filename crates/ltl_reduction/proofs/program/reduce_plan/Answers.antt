use Rattle.ltl_cli.specs.declared.source.Source.TheVariants as source
use Rattle.ltl_cli.proofs.HeadlineLaws.{comes_behind, file_behind, named_behind}
use Rattle.ltl_cli.proofs.RunLaws.{shows_more}
use Rattle.ltl_reduction.proofs.program.reduce_plan.Goals as goal

pub returns-in-Some-clause-shown : goal.returns-in-Some-clause-shown
returns-in-Some-clause-shown g c =
    let Stands = g.F.Files.Stands c.args.files.now in
    let Comes = g.F.Files.Comes c.args.files.now in
    let (input, s, h) = c.reduce_over-status.ensures.shown in
    let d = file_behind g.F.File.ByteSource.state _ _ _ _ input c.open-source.ensures.source s in
    let b = named_behind Stands Comes _ _ input (rw c.in-Some.is at c.automaton_name.ensures) d in
    shows_more (λ seen k. (input, b, k)) h

pub returns-in-None-clause-shown : goal.returns-in-None-clause-shown
returns-in-None-clause-shown g c =
    let Stands = g.F.Files.Stands c.args.files.now in
    let Comes = g.F.Files.Comes c.args.files.now in
    let (input, s, h) = c.reduce_over-status-in-None.ensures.shown in
    let d = file_behind g.F.Input.ByteSource.state Comes _ (source.Input c.input.result) _ input c.input.ensures.source s in
    let b = comes_behind Stands Comes _ input (rw c.in-None.is at c.automaton_name.ensures) d in
    shows_more (λ seen k. (input, b, k)) h
