use Rattle.std.proofs.Common.{◌≡◌, ◌+◌, ◌++◌, ℕ, List, take}
use Rattle.ltl_hoa.specs.Reading.{IsAfter}
use Rattle.ltl_hoa.proofs.stream_reader.StreamReader.take_chunk.Given as goal

abbrev pub invariant-bytes : goal.invariant-bytes
invariant-bytes g l = record {
  given : l.self.given ≡ l.fn.self.given + l.byte-index;
  after : (text : List ℕ) → IsAfter l.fn.self text → IsAfter l.self (text ++ take l.byte-index l.chunk);
}
