use Rattle.std.proofs.Common.{◌∙◌, codes}
use Rattle.clap.specs.Words.{found_of}
use Rattle.clap.proofs.WalkLemmas.{first_value-rows}
use Rattle.ltl_words.specs.Comparer.{pair_of}
use Rattle.ltl_words.specs.Words.{formula_among}
use Rattle.ltl_words.proofs.comparer.planned.Goals as goal

pub returns : goal.returns
returns c =
    let f = found_of c.args.matches.now in
    let text = c.get_str.ensures ∙ first_value-rows f (codes "f") in
    let path = c.get_str-2.ensures ∙ first_value-rows f (codes "F") in
    let other = c.get_str-3.ensures ∙ first_value-rows f (codes "g") in
    let other_path = c.get_str-4.ensures ∙ first_value-rows f (codes "G") in
    let first = c.one_formula.ensures ∙ (λ i. formula_among (text i) (path i)) in
    let second = c.one_formula-2.ensures ∙ (λ i. formula_among (other i) (other_path i)) in
    c.both.ensures ∙ (λ i. pair_of (first i) (second i))
