use Rattle.ltl_cli.specs.Headline.{file_named}
use Rattle.ltl_cli.proofs.HeadlineLaws.{source_behind}
use Rattle.ltl_words.specs.Plans.{formula_word}
use Rattle.ltl_comparison.proofs.ProgramLaws.{both_behind}
use Rattle.ltl_comparison.proofs.program.compare_plan.Goals as goal

pub returns-clause-shown : goal.returns-clause-shown
returns-clause-shown g c =
    let Stands = g.F.Files.Stands c.args.files.now in
    let (input, s, other, t, h) = c.compare_over-status.ensures.shown in
    let a = source_behind g.F.File.ByteSource.state Stands (file_named (formula_word c.first.result)) _ _ _ input c.source_of-first.ensures.source s in
    let b = source_behind g.F.File.ByteSource.state (g.F.Files.Stands c.source_of-first.new.files) (file_named (formula_word c.second.result)) _ _ _ other c.source_of-second.ensures.source t in
    both_behind Stands _ c.source_of-first.ensures.opened.stands c.args.plan.now _ _ c.first.ensures c.second.ensures input other a b h
