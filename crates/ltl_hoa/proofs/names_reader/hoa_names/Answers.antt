use Rattle.std.proofs.Common.{◌≡◌, ◌∙◌, ◌+◌, ◌≤◌, ◌++◌, ◌∷◌, [], ap, sym, subst, arith, take, slice_index}
use Rattle.std.proofs.lemmas.Grind.{common_steps}
use Rattle.ltl_hoa.specs.LexerView.{depth_of}
use Rattle.ltl_hoa.specs.NamesReaderView.{NamesReaderView}
use Rattle.ltl_hoa.proofs.NamesReaderLaws.{IsAfter, new_after, byte_after, all_names}
use Rattle.ltl_hoa.proofs.names_reader.hoa_names.Goals as goal

pub bytes-init : goal.bytes-init
bytes-init g c = record {
  after = subst (λ m. IsAfter c.args.states m []) (sym c.in_ok-reader.ensures) (new_after c.args.states);
  depth = subst (λ (m : NamesReaderView). depth_of m.lexer.phase ≤ 0) (sym c.in_ok-reader.ensures) (omega arith);
  line = subst (λ (m : NamesReaderView). m.line ≤ 1) (sym c.in_ok-reader.ensures) (omega arith);
}

pub bytes-preserved : goal.bytes-preserved
bytes-preserved g c =
    let next : take (c.bytes.byte-index + 1) c.args.text.now ≡ take c.bytes.byte-index c.args.text.now ++ slice_index c.args.text.now c.bytes.byte-index ∷ [] = grind (arith, common_steps) in
    record {
      after =
          subst (λ l. IsAfter c.args.states c.take.new.self l) (sym next)
          (subst (λ m. IsAfter c.args.states m (take c.bytes.byte-index c.args.text.now ++ slice_index c.args.text.now c.bytes.byte-index ∷ [])) (sym c.in_ok-take.ensures.exact)
          (byte_after c.args.states c.requires.states c.bytes.reader (take c.bytes.byte-index c.args.text.now) (slice_index c.args.text.now c.bytes.byte-index) c.bytes.invariant.after));
      depth = omega (arith, c.in_ok-take.ensures.depth, c.bytes.invariant.depth);
      line = omega (arith, c.in_ok-take.ensures.line, c.bytes.invariant.line);
    }

pub returns : goal.returns
returns g c =
    let whole : take c.bytes.byte-index c.args.text.now ≡ c.args.text.now = grind (arith, common_steps) in
    ap (λ (m : NamesReaderView). m.names) c.reader-2.view_is
    ∙ all_names c.args.states c.bytes.reader c.args.text.now (subst (λ l. IsAfter c.args.states c.bytes.reader l) whole c.bytes.invariant.after)
