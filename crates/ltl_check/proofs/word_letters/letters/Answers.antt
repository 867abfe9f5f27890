use Rattle.std.proofs.Common.{◌≡◌, ◌∙◌, subst, []}
use Rattle.std.specs.Prelude.{IsTrue, slice_index_or}
use Rattle.ltl_spec.specs.Collections.Sets.{has}
use Rattle.ltl_spec.specs.Semantics.Word.{letter_at, name_cmp}
use Rattle.ltl_word.specs.LassoView.{size}
use Rattle.ltl_word.specs.Rows.{IsRow}
use Rattle.ltl_check.proofs.WordLetterLaws.{letters_next}
use Rattle.ltl_check.proofs.word_letters.letters.Goals as goal

pub loop-p-preserved : goal.loop-p-preserved
loop-p-preserved g c =
    let names = (g.F.Operand.automaton_of c.args.automaton.now).names in
    let w = c.args.word.now in
    let here : c.as_bytes.result.now ≡ slice_index_or names c.loop-p.p [] = c.as_bytes.ensures.value ∙ c.name.ensures in
    letters_next names w c.loop-p.p _ c.loop-p.letters.items _ c.loop-p.invariant
    (subst (λ n. IsRow (size w) (λ i. IsTrue (has name_cmp n (letter_at w i))) c.in_ok-row.row) here c.in_ok-row.ensures) c.put_row.ensures
