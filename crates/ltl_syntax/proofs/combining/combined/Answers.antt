use Rattle.std.proofs.Common.{[], length, map, subst, sym, true}
use Rattle.ltl_spec.specs.Formulas.Names.{IsNamed}
use Rattle.ltl_spec.proofs.Collections.MemberLaws.{map_length}
use Rattle.ltl_syntax.specs.CanonicalWork.{HasOperands}
use Rattle.ltl_syntax.specs.CombinationView.{joint_nodes}
use Rattle.ltl_syntax.specs.FormulaView.{reading_of}
use Rattle.ltl_syntax.specs.ParserView.{AreUsedOnce}
use Rattle.ltl_syntax.proofs.CombinationLaws.{joint_made, joint_named, joint_stand, joint_used}
use Rattle.ltl_syntax.proofs.combining.combined.Goals as goal

pub formula_from-requires-clause-operands : goal.formula_from-requires-clause-operands
formula_from-requires-clause-operands g c =
    let all = map (λ k. k.now) c.in_ok-names.names.keys in
    let stand = joint_stand c.args.operator c.args.first.now c.args.second.now c.invariant.ensures c.invariant-2.ensures all c.in_ok-names.ensures in
    subst (HasOperands (length c.in_ok-names.names.keys)) (sym c.in_ok-nodes.ensures)
    (subst (λ n. HasOperands n (joint_nodes c.args.operator all c.args.first.now c.args.second.now)) (map_length (λ k. k.now) c.in_ok-names.names.keys) stand)

pub formula_from-requires-clause-once : goal.formula_from-requires-clause-once
formula_from-requires-clause-once g c =
    let all = map (λ k. k.now) c.in_ok-names.names.keys in
    subst (λ ns. AreUsedOnce ns [] true) (sym c.in_ok-nodes.ensures)
    (joint_used c.args.operator c.args.first.now c.args.second.now c.invariant.ensures c.invariant-2.ensures all c.in_ok-names.ensures)

pub formula_from-requires-clause-named : goal.formula_from-requires-clause-named
formula_from-requires-clause-named g c =
    let all = map (λ k. k.now) c.in_ok-names.names.keys in
    subst (λ ns. IsNamed (reading_of (record { nodes = ns; names = all }))) (sym c.in_ok-nodes.ensures)
    (joint_named c.args.operator c.args.first.now c.args.second.now c.invariant.ensures c.invariant-2.ensures all c.in_ok-names.ensures)

pub returns-clause-combination : goal.returns-clause-combination
returns-clause-combination g c =
    let all = map (λ k. k.now) c.in_ok-names.names.keys in
    joint_made c.args.operator c.args.first.now c.args.second.now c.invariant.ensures c.invariant-2.ensures all c.in_ok-names.ensures
    c.in_ok-nodes.nodes.items _ _ c.in_ok-nodes.ensures c.formula_from.result c.formula_from.ensures
