use Rattle.std.proofs.Common.{◌≤◌, arith, length, map, subst, sym}
use Rattle.std.proofs.lemmas.Result.{err_from_is_err_and}
use Rattle.ltl_spec.specs.Tools.Limits.{stated_limits}
use Rattle.ltl_word.specs.NameView.{IsKnown}
use Rattle.ltl_word.specs.WrittenView.{letters_of}
use Rattle.ltl_word.proofs.NameLaws.{known_names, read_word, refused_word}
use Rattle.ltl_word.proofs.lasso.Lasso.read.Goals as goal

pub returns-in_err-names : goal.returns-in_err-names
returns-in_err-names g c =
    let within : length c.args.text.now ≤ stated_limits.word_bytes = let f = c.if-text-gt-TEXT_LIMIT.false in omega (arith, f) in
    let p = err_from_is_err_and c.from_residual-in_err-names.result c.from_residual-in_err-names.ensures.1 in
    rw (p.1, p.2) (refused_word c.args.formula.now.names c.args.text.now c.in_ok-word.word c.in_err-names.field-0.0 within c.in_ok-word.ensures c.in_err-names.ensures)

pub from_written-requires : goal.from_written-requires
from_written-requires g c =
    subst (λ ns. IsKnown (map (λ n. n.now) ns) (letters_of c.in_ok-word.word)) (sym c.as_slice.ensures.value)
    (known_names (map (λ n. n.now) c.in_ok-names.names.items) c.args.formula.now.names (letters_of c.in_ok-word.word) c.in_ok-names.ensures c.in_ok-word.ensures.1)

pub returns : goal.returns
returns g c =
    let within : length c.args.text.now ≤ stated_limits.word_bytes = let f = c.if-text-gt-TEXT_LIMIT.false in omega (arith, f) in
    read_word c.args.formula.now.names (map (λ n. n.now) c.in_ok-names.names.items) c.args.text.now c.in_ok-word.word c.in_ok-from_written.field-0 within c.in_ok-word.ensures c.in_ok-names.ensures c.in_ok-from_written.ensures
