use Rattle.std.proofs.Common.{drop}
use Rattle.std.specs.Prelude.{flat_map}
use Rattle.ltl_streams.proofs.PrintLaws.{Lacks}
use Rattle.ltl_pictures.specs.NameText.{shown_byte}
use Rattle.ltl_pictures.proofs.name.put_bytes.Given as goal

abbrev pub invariant-loop-byte : goal.invariant-loop-byte
invariant-loop-byte g l = Lacks g.S.ByteSink.state l.fn.out l.out (flat_map shown_byte (drop l.byte-index l.bytes)) (flat_map shown_byte l.bytes)
