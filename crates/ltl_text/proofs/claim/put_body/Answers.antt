use Rattle.std.proofs.Common.{◌∙◌, length, sym}
use Rattle.ltl_streams.proofs.PrintLaws.{prints_as, prints_then}
use Rattle.ltl_text.proofs.BlockLaws.{body_some}
use Rattle.ltl_text.proofs.EdgeLaws.{some_by_test, some_edges}
use Rattle.ltl_text.proofs.claim.put_body.Goals as goal

pub returns-else-is_empty : goal.returns-else-is_empty
returns-else-is_empty g c =
    let many = some_by_test (length c.edges.result.coded.now) c.if-is_empty.ensures in
    let e = body_some c.args.automaton.now c.args.texts.now c.args.k (λ k. c.if-k-skip.false (k ∙ sym c.requires.least)) (some_edges c.edges.result _ c.edges.ensures.edges many) in
    prints_as e (prints_then c.put-else-is_empty.ensures (prints_then c.put_options.ensures c.put-else-is_empty-2.ensures))
