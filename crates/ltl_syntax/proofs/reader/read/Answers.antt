use Rattle.std.proofs.Common.{◌∙◌, ◌∷◌, ◌≤◌, ap, sym, arith, length, map}
use Rattle.std.proofs.lemmas.Result.{MatchResult-weaker, err_from_is_err_and}
use Rattle.ltl_spec.specs.Tools.Limits.{stated_limits}
use Rattle.ltl_spec.proofs.Collections.MemberLaws.{map_length}
use Rattle.ltl_spec.proofs.Formulas.CanonicalLaws.{named_by_text}
use Rattle.ltl_syntax.specs.TokenView.{item_of}
use Rattle.ltl_syntax.proofs.ReadLemmas.{refused_token, refused_end, final_text, read_formula, refused_names}
use Rattle.ltl_syntax.proofs.reader.read.Goals as goal

pub returns-in_err-take : goal.returns-in_err-take
returns-in_err-take g c =
    let within : length c.args.text.now ≤ stated_limits.formula_bytes = omega arith in
    let p = err_from_is_err_and c.from_residual.result c.from_residual.ensures.1 in
    rw (p.1, p.2) (refused_token c.args.text.now c.tokens.parser (item_of c.args.text.now c.in-Some.token) c.next.new.self.rest c.tokens.tokens.rest _ within c.tokens.invariant.verdict
    (c.in-Some.ensures.steps.1 ∙ ap (λ t. item_of t c.in-Some.token ∷ c.next.new.self.rest) c.tokens.invariant.text) c.in_err-take.ensures)

pub returns-in_err-finish : goal.returns-in_err-finish
returns-in_err-finish g c =
    let within : length c.args.text.now ≤ stated_limits.formula_bytes = omega arith in
    let p = err_from_is_err_and c.from_residual-in_err-finish.result c.from_residual-in_err-finish.ensures.1 in
    rw (p.1, p.2) (refused_end c.args.text.now c.tokens.parser c.tokens.tokens.rest _ within c.tokens.invariant.verdict c.in_default.ensures.steps.0 c.in_err-finish.ensures)

pub formula_from-requires-clause-operands : goal.formula_from-requires-clause-operands
formula_from-requires-clause-operands g c =
    let count = sym (map_length (λ k. k.now) c.into_parts-nodes.result.1.keys) ∙ ap length c.into_parts-nodes.ensures.names in
    rw (c.into_parts-nodes.ensures.nodes, count) c.into_parts-nodes.ensures.operands

pub formula_from-requires-clause-once : goal.formula_from-requires-clause-once
formula_from-requires-clause-once g c =
    rw c.into_parts-nodes.ensures.nodes c.in_ok-finish.ensures.3

pub formula_from-requires-clause-named : goal.formula_from-requires-clause-named
formula_from-requires-clause-named g c =
    named_by_text c.args.text.now _ (final_text c.args.text.now c.tokens.parser c.finish.new.self c.tokens.tokens.rest c.into_parts-nodes.result.0.items (map (λ k. k.now) c.into_parts-nodes.result.1.keys)
    c.tokens.invariant.verdict c.in_default.ensures.steps.0 c.in_ok-finish.ensures.0 c.in_ok-finish.ensures.1 c.into_parts-nodes.ensures.nodes c.into_parts-nodes.ensures.names)

pub returns : goal.returns
returns g c =
    let within : length c.args.text.now ≤ stated_limits.formula_bytes = omega arith in
    let names = map (λ k. k.now) c.into_parts-nodes.result.1.keys in
    let text = final_text c.args.text.now c.tokens.parser c.finish.new.self c.tokens.tokens.rest c.into_parts-nodes.result.0.items names
    c.tokens.invariant.verdict c.in_default.ensures.steps.0 c.in_ok-finish.ensures.0 c.in_ok-finish.ensures.1 c.into_parts-nodes.ensures.nodes c.into_parts-nodes.ensures.names in
    MatchResult-weaker c.formula_from.result c.formula_from.ensures
    (λ f w. read_formula c.args.text.now c.into_parts-nodes.result.0.items names f within text w)
    (λ e w. refused_names c.args.text.now c.into_parts-nodes.result.0.items names (length c.into_parts-nodes.result.1.keys) e within text (sym (map_length (λ k. k.now) c.into_parts-nodes.result.1.keys)) w)
