use Rattle.std.proofs.Common.{◌≡◌, ◌∙◌, ◌+◌, ◌++◌, ◌∷◌, [], ap, sym, subst, arith, append_assoc, take, slice_index}
use Rattle.std.proofs.lemmas.Grind.{common_steps}
use Rattle.ltl_hoa.specs.Reading.{IsAfter}
use Rattle.ltl_hoa.proofs.stream_reader.StreamReader.take_chunk.Goals as goal

pub bytes-preserved : goal.bytes-preserved
bytes-preserved g c =
    let next : take (c.bytes.byte-index + 1) c.args.chunk.now ≡ take c.bytes.byte-index c.args.chunk.now ++ slice_index c.args.chunk.now c.bytes.byte-index ∷ [] = grind (arith, common_steps) in
    record {
      given = omega (arith, c.in_ok-take.ensures.given, c.bytes.invariant.given);
      after = λ text a.
          subst (λ l. IsAfter c.take.new.self l) (append_assoc text (take c.bytes.byte-index c.args.chunk.now) (slice_index c.args.chunk.now c.bytes.byte-index ∷ []) ∙ ap (λ l. text ++ l) (sym next))
          (c.in_ok-take.ensures.exact (text ++ take c.bytes.byte-index c.args.chunk.now) (c.bytes.invariant.after text a));
    }

pub returns : goal.returns
returns g c = λ text a.
    let whole : take c.bytes.byte-index c.args.chunk.now ≡ c.args.chunk.now = grind (arith, common_steps) in
    subst (λ l. IsAfter c.bytes.self (text ++ l)) whole (c.bytes.invariant.after text a)
