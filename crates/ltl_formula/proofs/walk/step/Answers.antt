use Rattle.ltl_syntax.proofs.CallLemmas.{where_ok}
use Rattle.ltl_formula.proofs.WalkLemmas.{passed, listed_leaf, one_operand, two_operands}
use Rattle.ltl_formula.proofs.walk.step.Goals as goal

pub returns-then-deref-k-clause-done : goal.returns-then-deref-k-clause-done
returns-then-deref-k-clause-done g c =
    passed c.args.graph.now.nodes c.requires.shared c.args.task c.args.stack.now.items c.args.listed.now.items c.requires.tasks.now c.requires.tasks.later c.requires.numbers
    c.args.flags.now.items c.requires.long c.requires.flags c.in-Enter.k c.in-Enter.is _ c.deref.result.now c.deref.ensures c.if-deref-k.true

pub returns-in-True-clause-done : goal.returns-in-True-clause-done
returns-in-True-clause-done g c =
    where_ok c.list-in-True.result c.list-in-True.ensures.listed
    (listed_leaf c.args.graph.now.nodes c.requires.shared c.args.task c.args.stack.now.items c.args.listed.now.items c.requires.tasks.now c.requires.tasks.later c.requires.numbers
    c.args.flags.now.items c.requires.long c.requires.flags c.in-Enter.k c.in-Enter.is _ c.deref.result.now c.deref.ensures c.if-deref-k.false c.node.result c.node.ensures.found c.in-True.is _)

pub returns-in-Next-clause-done : goal.returns-in-Next-clause-done
returns-in-Next-clause-done g c =
    where_ok c.extend_from_slice.result c.extend_from_slice.ensures.ok
    (one_operand c.args.graph.now.nodes c.requires.shared c.args.task c.args.stack.now.items c.args.listed.now.items c.requires.tasks.now c.requires.tasks.later c.requires.numbers
    c.args.flags.now.items c.requires.long c.requires.flags c.in-Enter.k c.in-Enter.is _ c.deref.result.now c.deref.ensures c.if-deref-k.false c.node.result c.node.ensures.found c.in-Next.i c.in-Next.is _)

pub returns-in-And-clause-done : goal.returns-in-And-clause-done
returns-in-And-clause-done g c =
    where_ok c.extend_from_slice-in-And.result c.extend_from_slice-in-And.ensures.ok
    (two_operands c.args.graph.now.nodes c.requires.shared c.args.task c.args.stack.now.items c.args.listed.now.items c.requires.tasks.now c.requires.tasks.later c.requires.numbers
    c.args.flags.now.items c.requires.long c.requires.flags c.in-Enter.k c.in-Enter.is _ c.deref.result.now c.deref.ensures c.if-deref-k.false c.node.result c.node.ensures.found c.in-And.i c.in-And.j c.in-And.is _)
