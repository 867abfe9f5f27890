use Rattle.std.proofs.Common.{map}
use Rattle.ltl_word.proofs.WordLaws.{read_back}
use Rattle.ltl_word.proofs.laws.text_is_read_back.Goals as goal

pub returns : goal.returns
returns g c = read_back (map (λ n. n.items) c.word.inside.names.items) c.word.inside.letters.items c.word.inside.stem c.word.invariant c.args.word.now c.word.view_is
