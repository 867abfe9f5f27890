use Rattle.std.proofs.Common.{◌≡◌, ◌≤◌, ◌+◌, take}
use Rattle.ltl_hoa.specs.LexerView.{depth_of}
use Rattle.ltl_hoa.proofs.NamesReaderLaws.{IsAfter}
use Rattle.ltl_hoa.proofs.names_reader.hoa_names.Given as goal

abbrev pub invariant-bytes : goal.invariant-bytes
invariant-bytes g l = record {
  after : IsAfter l.states l.reader (take l.byte-index l.text);
  depth : depth_of l.reader.lexer.phase ≤ l.byte-index;
  line : l.reader.line ≤ l.byte-index + 1;
}
