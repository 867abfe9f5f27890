use Rattle.ltl_pictures.proofs.NameLaws.{listed, pushed}
use Rattle.ltl_pictures.proofs.propositions.put_name.Goals as goal

pub returns-then-is_listed : goal.returns-then-is_listed
returns-then-is_listed g c =
    let e = rw c.as_slice.ensures.value at c.is_listed.ensures in
    listed c.args.names.now.items c.args.name.now c.is_listed.result e c.if-is_listed.true

pub returns : goal.returns
returns g c =
    let e = rw c.as_slice.ensures.value at c.is_listed.ensures in
    pushed c.args.names.now.items c.push.new.self.items c.args.name c.is_listed.result e c.if-is_listed.false c.in_ok-push.ensures.items
