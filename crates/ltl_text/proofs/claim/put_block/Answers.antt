use Rattle.std.proofs.Common.{sym}
use Rattle.ltl_streams.proofs.PrintLaws.{prints_as, prints_then}
use Rattle.ltl_text.proofs.BlockLaws.{block_pieces}
use Rattle.ltl_text.proofs.claim.put_block.Goals as goal

pub returns : goal.returns
returns g c =
    prints_as (sym (block_pieces c.args.automaton.now c.args.texts.now c.args.k)) (prints_then c.put_label.ensures (prints_then c.put.ensures c.put_body.ensures))
