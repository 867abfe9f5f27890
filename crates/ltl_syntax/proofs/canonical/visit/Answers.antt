use Rattle.std.proofs.Common.{◌∙◌, [], ap, arith, sym, length, map, string_bytes}
use Rattle.ltl_syntax.specs.declared.operators.Node.TheVariants.{Constant, Proposition}
use Rattle.ltl_syntax.proofs.CallLemmas.{where_ok}
use Rattle.ltl_syntax.proofs.PrintLemmas.{where_taken, operand_before, prefix_text, prefix_lighter, leaf_text, leaf_falls, binary_node_text, binary_falls, proposition_within}
use Rattle.ltl_spec.proofs.Collections.MemberLaws.{at_map}
use Rattle.ltl_syntax.proofs.canonical.visit.Goals as goal

pub prefixes-preserved : goal.prefixes-preserved
prefixes-preserved g c =
    let names = map string_bytes c.args.names.now in
    let v = c.prefixes.invariant in
    let b = operand_before names _ c.args.nodes.now c.requires.ordered c.prefixes.i v.within c.in-Unary.operator c.in-Unary.operand c.in-Unary.is in
    record {
      within = omega (arith, b, v.within);
      text = prefix_text names _ c.args.nodes.now c.requires.ordered c.prefixes.i v.within c.args.i _ _ _ _ v.text v.stack v.lighter _ c.unary_text.result.now c.in-Unary.operator c.in-Unary.operand c.in-Unary.is
          c.unary_text.ensures c.in_ok-extend_from_slice-in-Unary.ensures.items;
      stack = v.stack;
      lighter = prefix_lighter names _ c.args.nodes.now c.requires.ordered c.prefixes.i v.within c.args.i _ _ _ _ v.text v.stack v.lighter c.in-Unary.operator c.in-Unary.operand c.in-Unary.is;
    }

pub returns-in-Constant-clause-text : goal.returns-in-Constant-clause-text
returns-in-Constant-clause-text g c =
    let v = c.prefixes.invariant in
    where_taken c.extend_from_slice.result c.extend_from_slice.new.self.items c.prefixes.text.items c.constant_text.result.now c.extend_from_slice.ensures.items
    (leaf_text (map string_bytes c.args.names.now) _ c.args.nodes.now c.requires.ordered c.prefixes.i v.within c.args.i _ _ _ _ v.text v.stack v.lighter _ c.constant_text.result.now (Constant c.in-Constant.value) c.in-Constant.is c.constant_text.ensures)

pub returns-in-Constant-clause-falls : goal.returns-in-Constant-clause-falls
returns-in-Constant-clause-falls g c =
    let v = c.prefixes.invariant in
    where_taken c.extend_from_slice.result c.extend_from_slice.new.self.items c.prefixes.text.items c.constant_text.result.now c.extend_from_slice.ensures.items
    (λ e. leaf_falls (map string_bytes c.args.names.now) _ c.args.nodes.now c.requires.ordered c.prefixes.i v.within c.args.i _ _ _ _ v.text v.stack v.lighter)

pub returns-in-Proposition-clause-text : goal.returns-in-Proposition-clause-text
returns-in-Proposition-clause-text g c =
    let names = map string_bytes c.args.names.now in
    let v = c.prefixes.invariant in
    where_taken c.extend_from_slice-in-Proposition.result c.extend_from_slice-in-Proposition.new.self.items c.prefixes.text.items c.as_bytes.result.now c.extend_from_slice-in-Proposition.ensures.items
    (leaf_text names _ c.args.nodes.now c.requires.ordered c.prefixes.i v.within c.args.i _ _ _ _ v.text v.stack v.lighter _ c.as_bytes.result.now (Proposition c.in-Proposition.number) c.in-Proposition.is
    (c.as_bytes.ensures.value ∙ sym (at_map string_bytes c.args.names.now c.in-Proposition.number c.index-names-number.result []
    (proposition_within names (length c.args.names.now) c.args.nodes.now c.requires.ordered c.prefixes.i v.within c.in-Proposition.number c.in-Proposition.is)
    ∙ ap string_bytes (sym c.index-names-number.is))))

pub returns-in-Proposition-clause-falls : goal.returns-in-Proposition-clause-falls
returns-in-Proposition-clause-falls g c =
    let v = c.prefixes.invariant in
    where_taken c.extend_from_slice-in-Proposition.result c.extend_from_slice-in-Proposition.new.self.items c.prefixes.text.items c.as_bytes.result.now c.extend_from_slice-in-Proposition.ensures.items
    (λ e. leaf_falls (map string_bytes c.args.names.now) _ c.args.nodes.now c.requires.ordered c.prefixes.i v.within c.args.i _ _ _ _ v.text v.stack v.lighter)

pub returns-in-Binary-clause-text : goal.returns-in-Binary-clause-text
returns-in-Binary-clause-text g c =
    let v = c.prefixes.invariant in
    where_ok c.extend_from_slice-in-Binary.result c.extend_from_slice-in-Binary.ensures.ok
    (binary_node_text (map string_bytes c.args.names.now) _ c.args.nodes.now c.requires.ordered c.prefixes.i v.within c.args.i _ _ _ _ v.text v.stack v.lighter _ _ c.in-Binary.operator c.in-Binary.left c.in-Binary.right c.in-Binary.is
    c.in_ok-push-in-Binary.ensures.items)

pub returns-in-Binary-clause-falls : goal.returns-in-Binary-clause-falls
returns-in-Binary-clause-falls g c =
    let v = c.prefixes.invariant in
    where_ok c.extend_from_slice-in-Binary.result c.extend_from_slice-in-Binary.ensures.ok
    (binary_falls (map string_bytes c.args.names.now) _ c.args.nodes.now c.requires.ordered c.prefixes.i v.within c.args.i _ _ _ _ v.text v.stack v.lighter _ c.in-Binary.operator c.in-Binary.left c.in-Binary.right c.in-Binary.is)
