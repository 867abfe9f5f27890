use Rattle.std.proofs.Common.{◌∙◌, ap, ap₂, sym, codes, Option}
use Rattle.std.specs.Prelude.{option_map}
use Rattle.clap.specs.Words.{found_of, rows_of}
use Rattle.clap.proofs.WalkLemmas.{first_value-rows}
use Rattle.ltl_spec.specs.Tools.Programs.{layout_of}
use Rattle.ltl_words.specs.Words.{lacks_word, layout_among, request_for}
use Rattle.ltl_words.specs.Plans.{formula_word, layout_in, request_in}
use Rattle.ltl_words.specs.Tools.{tool_of}
use Rattle.ltl_words.specs.declared.request.FormulaWord.{FormulaWord}
use Rattle.ltl_words.proofs.WordLaws.{request_is, request_lacks, request_stands, request_torn}
use Rattle.ltl_words.proofs.words.planned.Goals as goal

pub returns-in_err-formula : goal.returns-in_err-formula
returns-in_err-formula c =
    let f = found_of c.args.matches.now in
    let rows = rows_of f in
    let meaning = request_is (tool_of c.args.tool) rows _ _ _ (c.get_str.ensures ∙ first_value-rows f (codes "f")) (c.get_str-2.ensures ∙ first_value-rows f (codes "F")) c.one_formula.ensures in
    ap (option_map request_in) c.from_residual.ensures
    ∙ sym (meaning ∙ ap (λ (o : Option FormulaWord). request_for (tool_of c.args.tool) rows (option_map formula_word o) (layout_among rows)) c.in_err-formula.was)

pub returns-in_err-layout : goal.returns-in_err-layout
returns-in_err-layout c =
    let f = found_of c.args.matches.now in
    let rows = rows_of f in
    let meaning = request_is (tool_of c.args.tool) rows _ _ _ (c.get_str.ensures ∙ first_value-rows f (codes "f")) (c.get_str-2.ensures ∙ first_value-rows f (codes "F")) c.one_formula.ensures in
    let layout = sym (c.one_layout.ensures ∙ ap₂ layout_of c.is_set.ensures c.is_set-2.ensures) ∙ ap (option_map layout_in) c.in_err-layout.was in
    ap (option_map request_in) c.from_residual-in_err-layout.ensures
    ∙ sym (meaning ∙ ap (λ (o : Option FormulaWord). request_for (tool_of c.args.tool) rows (option_map formula_word o) (layout_among rows)) c.in_ok-formula.was
    ∙ request_torn (tool_of c.args.tool) rows (formula_word c.in_ok-formula.formula) (layout_among rows) layout)

pub returns-then-lacks : goal.returns-then-lacks
returns-then-lacks c =
    let f = found_of c.args.matches.now in
    let rows = rows_of f in
    let meaning = request_is (tool_of c.args.tool) rows _ _ _ (c.get_str.ensures ∙ first_value-rows f (codes "f")) (c.get_str-2.ensures ∙ first_value-rows f (codes "F")) c.one_formula.ensures in
    let layout = sym (c.one_layout.ensures ∙ ap₂ layout_of c.is_set.ensures c.is_set-2.ensures) ∙ ap (option_map layout_in) c.in_ok-layout.was in
    let word = c.get_str-word.ensures ∙ first_value-rows f (codes "w") in
    sym (meaning ∙ ap (λ (o : Option FormulaWord). request_for (tool_of c.args.tool) rows (option_map formula_word o) (layout_among rows)) c.in_ok-formula.was
    ∙ request_lacks (tool_of c.args.tool) rows (formula_word c.in_ok-formula.formula) (layout_in c.in_ok-layout.layout) (layout_among rows) layout
    (ap (lacks_word (tool_of c.args.tool)) (sym word) ∙ sym c.lacks.ensures ∙ c.if-lacks.true))

pub returns : goal.returns
returns c =
    let f = found_of c.args.matches.now in
    let rows = rows_of f in
    let meaning = request_is (tool_of c.args.tool) rows _ _ _ (c.get_str.ensures ∙ first_value-rows f (codes "f")) (c.get_str-2.ensures ∙ first_value-rows f (codes "F")) c.one_formula.ensures in
    let layout = sym (c.one_layout.ensures ∙ ap₂ layout_of c.is_set.ensures c.is_set-2.ensures) ∙ ap (option_map layout_in) c.in_ok-layout.was in
    let word = c.get_str-word.ensures ∙ first_value-rows f (codes "w") in
    let automaton = c.get_str-3.ensures ∙ first_value-rows f (codes "A") in
    rw (c.is_set-3.ensures, c.is_set-4.ensures, c.is_set-5.ensures, word, automaton)
    (sym (meaning ∙ ap (λ (o : Option FormulaWord). request_for (tool_of c.args.tool) rows (option_map formula_word o) (layout_among rows)) c.in_ok-formula.was
    ∙ request_stands (tool_of c.args.tool) rows (formula_word c.in_ok-formula.formula) (layout_in c.in_ok-layout.layout) (layout_among rows) layout
    (ap (lacks_word (tool_of c.args.tool)) (sym word) ∙ sym c.lacks.ensures ∙ c.if-lacks.false)))
