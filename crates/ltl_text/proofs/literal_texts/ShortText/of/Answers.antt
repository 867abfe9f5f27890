use Rattle.std.proofs.Common.{length-append, sym}
use Rattle.ltl_text.proofs.PreparedLaws.{copied_twice}
use Rattle.ltl_text.proofs.literal_texts.ShortText.of.Goals as goal

pub returns-then-len-le-WIDTH : goal.returns-then-len-le-WIDTH
returns-then-len-le-WIDTH c = record {
  len = sym (length-append c.args.sign.now c.args.name.now);
  bytes = λ _. copied_twice c.args.sign.now c.args.name.now _ _ _ _ c.copy_from_slice.ensures.after c.copy_from_slice-then-len-le-WIDTH.ensures.after;
}
