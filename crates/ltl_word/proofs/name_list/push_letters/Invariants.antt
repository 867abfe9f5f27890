use Rattle.std.proofs.Common.{◌≡◌, ◌++◌, map, take}
use Rattle.ltl_word.specs.NameView.{all_names}
use Rattle.ltl_word.proofs.name_list.push_letters.Given as goal

abbrev pub invariant-loop-i : goal.invariant-loop-i
invariant-loop-i g l = map (λ n. n.now) l.names.items ≡ map (λ n. n.now) l.fn.names.items ++ all_names (take l.i (map (λ a. map (λ n. n.now) a.items) l.letters))
