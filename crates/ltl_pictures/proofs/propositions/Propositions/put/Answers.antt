use Rattle.std.proofs.Common.{◌≤◌, ◌<◌, arith, length, map, refl}
use Rattle.ltl_spec.proofs.Collections.MemberLaws.{map_length}
use Rattle.ltl_streams.proofs.PrintLaws.{lacks_all, lacks_step}
use Rattle.ltl_pictures.specs.Timeline.{name_at, proposition_line}
use Rattle.ltl_pictures.proofs.LineLaws.{from_start, from_step, from_end}
use Rattle.ltl_pictures.proofs.TimelineLaws.{name_row_line, name_row_long}
use Rattle.ltl_pictures.proofs.propositions.Propositions.put.Goals as goal

pub loop-p-init : goal.loop-p-init
loop-p-init g c =
    let names = map (λ n. n.now) c.args.self.now.names.items in
    from_start (λ p. proposition_line c.args.width c.args.word.now (name_at names p)) (length names) (lacks_step (lacks_all _ _) _ refl c.put_head.ensures)

pub put_line-requires : goal.put_line-requires
put_line-requires g c = name_row_long c.args.word.now c.args.self.now.names.items c.args.self.now.rows.items c.requires c.loop-p.p (omega arith) c.index-in-loop-p.result.now c.index-in-loop-p.ensures

pub loop-p-preserved : goal.loop-p-preserved
loop-p-preserved g c =
    let items = c.args.self.now.names.items in
    let names = map (λ n. n.now) items in
    let n = map_length (λ n. n.now) items in
    let l : c.loop-p.p < length items = omega arith in
    let m : c.loop-p.p < length names = omega (arith, n, l) in
    let e = name_row_line c.args.word.now items c.args.self.now.rows.items c.requires c.loop-p.p l c.index-in-loop-p.result.now c.index-in-loop-p.ensures c.args.width c.index.result.now c.index.ensures in
    from_step (λ p. proposition_line c.args.width c.args.word.now (name_at names p)) (length names) c.loop-p.p m c.loop-p.invariant e c.put_line.ensures

pub returns : goal.returns
returns g c =
    let items = c.args.self.now.names.items in
    let names = map (λ n. n.now) items in
    let n = map_length (λ n. n.now) items in
    let l : length names ≤ c.loop-p.p = omega (arith, n) in
    from_end (λ p. proposition_line c.args.width c.args.word.now (name_at names p)) (length names) c.loop-p.p l c.loop-p.invariant
