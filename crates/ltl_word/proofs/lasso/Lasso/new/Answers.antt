use Rattle.std.proofs.Common.{◌∙◌, ap, map, length}
use Rattle.std.proofs.lemmas.Result.{IfOk-weaker}
use Rattle.ltl_spec.proofs.Collections.MemberLaws.{map_length}
use Rattle.ltl_word.specs.WrittenView.{WrittenView}
use Rattle.ltl_word.proofs.NumberLaws.{parts_below, written_listed, written_known, written_word}
use Rattle.ltl_word.proofs.lasso.Lasso.new.Goals as goal

pub written_of-requires : goal.written_of-requires
written_of-requires g c =
    let p = parts_below (length c.args.names.now) c.args.stem.now c.args.cycle.now c.requires.within in
    record { stem = p.0; cycle = p.1 }

pub from_written-requires : goal.from_written-requires
from_written-requires g c =
    let names = map (λ n. n.now) c.args.names.now in
    written_known c.args.names.now names (map (λ n. n.now) c.as_slice.result.now) c.args.stem.now c.args.cycle.now c.in_ok-word.word (map_length (λ n. n.now) c.args.names.now) c.requires.propositions c.requires.few c.requires.within c.requires.cycles (ap (map (λ n. n.now)) c.as_slice.ensures.value ∙ c.in_ok-set.ensures)
    (written_listed names c.args.stem.now c.args.cycle.now c.in_ok-word.word
    (ap (λ (v : WrittenView). v.stem) c.in_ok-word.ensures)
    (ap (λ (v : WrittenView). v.cycle) c.in_ok-word.ensures))

pub returns : goal.returns
returns g c =
    let names = map (λ n. n.now) c.args.names.now in
    IfOk-weaker c.from_written.result _ _ (λ w e. e ∙ written_word names c.args.stem.now c.args.cycle.now c.in_ok-word.word
    (written_listed names c.args.stem.now c.args.cycle.now c.in_ok-word.word
    (ap (λ (v : WrittenView). v.stem) c.in_ok-word.ensures)
    (ap (λ (v : WrittenView). v.cycle) c.in_ok-word.ensures))) c.from_written.ensures
