use Rattle.std.proofs.Common.{ap, ◌∙◌, length, false}
use Rattle.std.specs.Prelude.{slice_index_or}
use Rattle.std.proofs.lemmas.List.{length-replicate}
use Rattle.ltl_pictures.proofs.FlagLaws.{none_set}
use Rattle.ltl_pictures.proofs.flags.Flags.new.Goals as goal

pub returns-clause-long : goal.returns-clause-long
returns-clause-long g c = ap length (c.in_ok-flags.ensures.items_if_clones_equal (λ y e. e)) ∙ length-replicate c.args.count _

pub returns-clause-none : goal.returns-clause-none
returns-clause-none g c = λ p. ap (λ fs. slice_index_or fs p false) (c.in_ok-flags.ensures.items_if_clones_equal (λ y e. e)) ∙ none_set c.args.count p
