use Rattle.ltl_word.proofs.NameLaws.{sorted_names}
use Rattle.ltl_word.proofs.name_list.sort_dedup.Goals as goal

pub returns : goal.returns
returns g c = sorted_names _ _ _ c.sort_unstable.ensures.permutation c.sort_unstable.ensures.sorted c.dedup.ensures.filtered
