use Rattle.std.proofs.Common.{rules, ◌≡◌, ◌≤◌, subst}
use Rattle.std.specs.Prelude.{None, Some, is_some, true}
use Rattle.ltl_spec.specs.Tools.Limits.{stated_limits}
use Rattle.ltl_hoa.specs.LexerView.{last_kind}
use Rattle.ltl_hoa.specs.StreamReaderView.{StreamReaderView}
use Rattle.ltl_hoa.proofs.EndLaws.{some_fault, no_fault, ended_met, ended_free, ended_kept}
use Rattle.ltl_hoa.proofs.stream_reader.StreamReader.take_last.Goals as goal

pub returns-then-is_some : goal.returns-then-is_some
returns-then-is_some g c = λ text a.
    let met : is_some c.args.self.now.fault ≡ true = search rules in
    let f = some_fault c.args.self.now.fault met in
    ended_met c.args.self.now f.0 text (few c.self.view_is c.self.invariant.given) f.1 a
  where
    few : {w v : StreamReaderView} → w ≡ v → w.given ≤ stated_limits.hoa_bytes → v.given ≤ stated_limits.hoa_bytes
    few e l = subst (λ (x : StreamReaderView). x.given ≤ stated_limits.hoa_bytes) e l

pub returns-in-None : goal.returns-in-None
returns-in-None g c = λ text a.
    let none : c.args.self.now.fault ≡ None = no_fault c.args.self.now.fault (search rules) in
    let ended : last_kind c.args.self.now.lexer.phase ≡ None = search rules in
    ended_free c.args.self.now text (few c.self.view_is c.self.invariant.given) none ended a
  where
    few : {w v : StreamReaderView} → w ≡ v → w.given ≤ stated_limits.hoa_bytes → v.given ≤ stated_limits.hoa_bytes
    few e l = subst (λ (x : StreamReaderView). x.given ≤ stated_limits.hoa_bytes) e l

pub returns-in-Some : goal.returns-in-Some
returns-in-Some g c = λ text a.
    let none : c.args.self.now.fault ≡ None = no_fault c.args.self.now.fault (search rules) in
    let ended : last_kind c.args.self.now.lexer.phase ≡ Some c.in-Some.kind = search rules in
    ended_kept c.args.self.now c.take_token.new.self c.in-Some.kind text c.take_token.result (few c.self.view_is c.self.invariant.given) none ended c.take_token.ensures.exact a
  where
    few : {w v : StreamReaderView} → w ≡ v → w.given ≤ stated_limits.hoa_bytes → v.given ≤ stated_limits.hoa_bytes
    few e l = subst (λ (x : StreamReaderView). x.given ≤ stated_limits.hoa_bytes) e l
