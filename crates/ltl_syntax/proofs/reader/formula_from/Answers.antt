use Rattle.std.proofs.Common.{length, map, string_bytes, sym, arith, ◌≤◌}
use Rattle.ltl_spec.specs.Tools.Limits.{stated_limits}
use Rattle.ltl_spec.proofs.Collections.MemberLaws.{map_length}
use Rattle.ltl_syntax.proofs.ReadLemmas.{is_formula}
use Rattle.ltl_syntax.proofs.reader.formula_from.Goals as goal

pub from_parts-requires-clause-formula : goal.from_parts-requires-clause-formula
from_parts-requires-clause-formula g c =
    let few : length c.args.names.now.keys ≤ stated_limits.propositions = omega (arith, c.len.ensures.len) in
    is_formula c.args.nodes.items (map (λ k. k.now) c.args.names.now.keys) (map string_bytes c.in_ok-names.names.items) (length c.args.names.now.keys) c.in_ok-names.ensures
    (sym (map_length (λ k. k.now) c.args.names.now.keys)) c.requires.some c.requires.operands c.requires.once c.requires.named few
