use Rattle.std.proofs.Common.{◌∙◌, sym, subst, length, map, arith}
use Rattle.std.specs.Prelude.{IsTrue}
use Rattle.std.specs.List.{list_all}
use Rattle.ltl_spec.specs.Formulas.Names.{is_proposition}
use Rattle.ltl_spec.specs.Checking.Check.{Violated}
use Rattle.ltl_spec.proofs.Collections.MemberLaws.{map_length}
use Rattle.ltl_check.specs.VerdictView.{IsVerdictOn}
use Rattle.ltl_check.proofs.NameLaws.{unified_propositions}
use Rattle.ltl_check.proofs.AlongLaws.{along_form, along_long, along_needed, along_shrunk, along_within, one_of}
use Rattle.ltl_check.proofs.checking.shrunk_word.Goals as goal

pub invariant_of-shrinking : goal.invariant_of-shrinking
invariant_of-shrinking g c = record {
  propositions = subst (λ ns. IsTrue (list_all is_proposition ns)) (sym c.requires.names.all)
      (unified_propositions (g.F.Operand.automaton_of c.args.product.now.first.now).names c.args.formula.now.names c.invariant.ensures.propositions c.invariant-3.ensures.propositions);
  few = omega (arith, c.requires.names.few, map_length (λ n. n.now) c.args.names.now);
  named = c.requires.named;
  within = along_within (g.F.Operand.automaton_of c.args.product.now.first.now) c.args.formula.now.names c.args.product.now.second.now c.args.product.now.numbers.now c.invariant.ensures c.invariant-2.ensures c.requires.named c.requires.numbers c.args.walk.now.stem.items c.args.walk.now.cycle.items c.requires.full (map (λ n. n.now) c.args.names.now) c.requires.names.all c.in_ok-old.old.items (c.in_ok-old.ensures.items ∙ c.as_slice.ensures.value ∙ c.in_ok-draft.ensures.letters) (length c.args.names.now) (sym (map_length (λ n. n.now) c.args.names.now));
}

pub least-requires-clause-shrunk : goal.least-requires-clause-shrunk
least-requires-clause-shrunk g c = along_shrunk (g.F.Operand.automaton_of c.args.product.now.first.now) c.args.formula.now.names c.args.product.now.second.now c.args.product.now.numbers.now c.invariant.ensures c.invariant-2.ensures c.requires.named c.requires.numbers c.args.walk.now.stem.items c.args.walk.now.cycle.items c.requires.full (map (λ n. n.now) c.args.names.now) c.requires.names.all c.in_ok-old.old.items (c.in_ok-old.ensures.items ∙ c.as_slice.ensures.value ∙ c.in_ok-draft.ensures.letters) c.in_ok-draft.draft.letters.items c.in_ok-draft.draft.stem c.in_ok-draft.ensures.letters c.in_ok-draft.ensures.stem

pub least-requires-clause-needed : goal.least-requires-clause-needed
least-requires-clause-needed g c = along_needed (g.F.Operand.automaton_of c.args.product.now.first.now) c.args.formula.now.names c.args.product.now.second.now c.args.product.now.numbers.now c.invariant.ensures c.invariant-2.ensures c.requires.named c.requires.numbers c.args.walk.now.stem.items c.args.walk.now.cycle.items c.requires.full (map (λ n. n.now) c.args.names.now) c.requires.names.all c.in_ok-old.old.items (c.in_ok-old.ensures.items ∙ c.as_slice.ensures.value ∙ c.in_ok-draft.ensures.letters)

pub shrink-requires-clause-shrunk : goal.shrink-requires-clause-shrunk
shrink-requires-clause-shrunk g c = along_shrunk (g.F.Operand.automaton_of c.args.product.now.first.now) c.args.formula.now.names c.args.product.now.second.now c.args.product.now.numbers.now c.invariant.ensures c.invariant-2.ensures c.requires.named c.requires.numbers c.args.walk.now.stem.items c.args.walk.now.cycle.items c.requires.full (map (λ n. n.now) c.args.names.now) c.requires.names.all c.in_ok-old.old.items (c.in_ok-old.ensures.items ∙ c.as_slice.ensures.value ∙ c.in_ok-draft.ensures.letters) c.in_ok-draft.draft.letters.items c.in_ok-draft.draft.stem c.in_ok-draft.ensures.letters c.in_ok-draft.ensures.stem

pub least-requires-2-clause-needed : goal.least-requires-2-clause-needed
least-requires-2-clause-needed g c = along_needed (g.F.Operand.automaton_of c.args.product.now.first.now) c.args.formula.now.names c.args.product.now.second.now c.args.product.now.numbers.now c.invariant.ensures c.invariant-2.ensures c.requires.named c.requires.numbers c.args.walk.now.stem.items c.args.walk.now.cycle.items c.requires.full (map (λ n. n.now) c.args.names.now) c.requires.names.all c.in_ok-old.old.items (c.in_ok-old.ensures.items ∙ c.as_slice.ensures.value ∙ c.in_ok-draft.ensures.letters)

pub least-requires-3-clause-needed : goal.least-requires-3-clause-needed
least-requires-3-clause-needed g c = along_needed (g.F.Operand.automaton_of c.args.product.now.first.now) c.args.formula.now.names c.args.product.now.second.now c.args.product.now.numbers.now c.invariant.ensures c.invariant-2.ensures c.requires.named c.requires.numbers c.args.walk.now.stem.items c.args.walk.now.cycle.items c.requires.full (map (λ n. n.now) c.args.names.now) c.requires.names.all c.in_ok-old.old.items (c.in_ok-old.ensures.items ∙ c.as_slice.ensures.value ∙ c.in_ok-draft.ensures.letters)

pub returns-clause-verdict : goal.returns-clause-verdict
returns-clause-verdict g c = one_of (λ w. IsVerdictOn (g.F.Operand.automaton_of c.args.product.now.first.now) c.args.formula.now.names c.args.product.now.second.now (Violated w)) c.shorter.result c.in_ok-shrunk.shrunk c.in_ok-whole.whole c.shorter.ensures.one c.in_ok-shrunk.ensures.verdict c.in_ok-whole.ensures.verdict

pub returns-clause-short : goal.returns-clause-short
returns-clause-short g c =
    let m = c.shorter.ensures.second in
    let l = along_long (g.F.Operand.automaton_of c.args.product.now.first.now) c.args.formula.now.names c.args.product.now.second.now c.args.product.now.numbers.now c.invariant.ensures c.invariant-2.ensures c.requires.named c.requires.numbers c.args.walk.now.stem.items c.args.walk.now.cycle.items c.requires.full (map (λ n. n.now) c.args.names.now) c.requires.names.all c.in_ok-old.old.items (c.in_ok-old.ensures.items ∙ c.as_slice.ensures.value ∙ c.in_ok-draft.ensures.letters) _ c.in_ok-whole.ensures.short in
    omega (arith, m, l)

pub returns-clause-form : goal.returns-clause-form
returns-clause-form g c = along_form c.args.walk.now.stem.items c.args.walk.now.cycle.items (map (λ n. n.now) c.args.names.now) c.in_ok-draft.draft.letters.items c.in_ok-draft.draft.stem c.in_ok-draft.ensures.letters c.in_ok-draft.ensures.stem c.in_ok-whole.whole _ c.shorter.ensures.second c.in_ok-whole.ensures.form
