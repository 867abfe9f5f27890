use Rattle.std.proofs.Common.{ap}
use Rattle.ltl_streams.specs.StageView.{stage_of}
use Rattle.ltl_cli.proofs.InputLaws.{lent_before}
use Rattle.ltl_host.proofs.files.HostFilesFiles.input.Goals as goal

pub returns-clause-source : goal.returns-clause-source
returns-clause-source g c =
    (ap stage_of c.new.ensures.stage, λ most later input w. lent_before most _ _ (g.I.Read.remaining c.args.self.now.input) input (ap g.I.Read.remaining c.new.ensures.same) w)
