use Rattle.std.proofs.Common.{arith}
use Rattle.ltl_check.proofs.NameLaws.{put_known, put_pushed}
use Rattle.ltl_check.proofs.names.put.Goals as goal

pub returns-then-place_of-len : goal.returns-then-place_of-len
returns-then-place_of-len g c =
    let e = rw c.as_slice.ensures.value at c.place_of.ensures.place in
    put_known c.args.names.now.items c.args.name.now c.place_of.result e (let l = c.len.ensures in let t = c.if-place_of-len.true in omega arith)

pub returns : goal.returns
returns g c =
    let e = rw c.as_slice.ensures.value at c.place_of.ensures.place in
    put_pushed c.args.names.now.items c.push.new.self.items c.args.name c.place_of.result e (let l = c.len.ensures in let t = c.if-place_of-len.false in omega arith) c.in_ok-push.ensures.items
