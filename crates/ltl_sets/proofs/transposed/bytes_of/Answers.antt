use Rattle.std.proofs.Common.{◌∙◌, arith, refl}
use Rattle.std.proofs.lemmas.List.{length-set}
use Rattle.ltl_sets.proofs.TransposedLaws.{bytes_begin, bytes_step}
use Rattle.ltl_sets.proofs.transposed.bytes_of.Goals as goal

pub sets-init : goal.sets-init
sets-init c = record { long = refl; read = bytes_begin c.args.sets.now c.args.k }

pub sets-preserved : goal.sets-preserved
sets-preserved c = record {
  long = length-set c.sets.bytes c.sets.j c.byte.result ∙ c.sets.invariant.long;
  read = bytes_step c.args.sets.now c.args.k c.sets.j c.byte.result _ c.sets.bytes c.sets-test.true (omega (arith, c.sets.invariant.long, c.sets-test.true, c.requires.few)) c.index-sets-j.is c.byte.ensures c.sets.invariant.read;
}
