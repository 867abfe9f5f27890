use Rattle.std.proofs.Common.{◌≡◌, ◌<◌, length, map, subst, sym, []}
use Rattle.std.specs.Prelude.{slice_index_or}
use Rattle.ltl_word.proofs.NameLaws.{found}
use Rattle.ltl_word.proofs.name_list.place_of.Goals as goal

pub returns-clause-within : goal.returns-clause-within
returns-clause-within c =
    subst (λ i. i < length c.args.names.now) (sym c.unwrap_or.ensures)
    (found (λ n. n.now) c.args.names.now c.requires.sorted c.args.name.now c.requires.known c.binary_search.result c.binary_search.ensures.bound c.binary_search.ensures.position).0

pub returns-clause-there : goal.returns-clause-there
returns-clause-there c =
    subst (λ i. slice_index_or (map (λ n. n.now) c.args.names.now) i [] ≡ c.args.name.now) (sym c.unwrap_or.ensures)
    (found (λ n. n.now) c.args.names.now c.requires.sorted c.args.name.now c.requires.known c.binary_search.result c.binary_search.ensures.bound c.binary_search.ensures.position).1
