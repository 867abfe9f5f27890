use Rattle.std.proofs.Common.{ap, ◌∙◌, length, replicate}
use Rattle.std.proofs.lemmas.List.{length-replicate}
use Rattle.ltl_check.specs.WordLetters.{letter_in}
use Rattle.ltl_check.proofs.WordLetterLaws.{none_everywhere}
use Rattle.ltl_check.proofs.word_letters.empty_letters.Goals as goal

pub returns-clause-long : goal.returns-clause-long
returns-clause-long g c = ap length (c.in_ok-letters.ensures.items_if_clones_equal (λ y e. e)) ∙ length-replicate c.args.count _

pub returns-clause-none : goal.returns-clause-none
returns-clause-none g c = λ i. ap (λ ls. letter_in ls i) (c.in_ok-letters.ensures.items_if_clones_equal (λ y e. e)) ∙ ap (λ x. letter_in (replicate c.args.count x) i) c.empty.ensures ∙ none_everywhere c.args.count i
