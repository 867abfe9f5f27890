use Rattle.std.proofs.Common.{ap}
use Rattle.std.proofs.lemmas.Result.{err_from_is_err_and}
use Rattle.std.specs.Prelude.{Err}
use Rattle.ltl_hoa.specs.declared.fault.HoaFault.{HoaFault}
use Rattle.ltl_cli.proofs.CheckLaws.{automaton_fault, automaton_from}
use Rattle.ltl_cli.proofs.check.read_automaton.Goals as goal

pub returns-in_err-automaton-in-Input : goal.returns-in_err-automaton-in-Input
returns-in_err-automaton-in-Input g c =
    let p = err_from_is_err_and c.from_residual.result c.from_residual.ensures.1 in
    let read = c.in_err-automaton-in-Input.ensures in
    let (file, s, h) = automaton_fault (g.T.ByteSource.state c.in-Input.reader) (g.T.ByteSource.state c.hoa_read_from.new.source) _ read.read read.bounded
    (λ e. read.failed (ap (λ (x : HoaFault). Err x) e)) (read.stage (rw c.in-Input.is at c.requires)) in
    rw (c.in-Input.is, p.1, p.2) (file, s, h)

pub returns-in_ok-automaton-in-Input : goal.returns-in_ok-automaton-in-Input
returns-in_ok-automaton-in-Input g c =
    let read = c.in_ok-automaton-in-Input.ensures in
    rw c.in-Input.is (automaton_from (g.T.ByteSource.state c.in-Input.reader) (g.T.ByteSource.state c.hoa_read_from.new.source) _ read.read read.bounded (read.stage (rw c.in-Input.is at c.requires)))
