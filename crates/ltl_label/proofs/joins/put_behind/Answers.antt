use Rattle.std.proofs.Common.{◌∙◌, ap}
use Rattle.ltl_spec.specs.Collections.Sets.{set_of}
use Rattle.ltl_spec.specs.Transitions.Cubes.{cube_cmp}
use Rattle.ltl_label.proofs.CubeLists.{set_again}
use Rattle.ltl_label.proofs.joins.put_behind.Goals as goal

pub returns-else-len-gt-MOST_CUBES : goal.returns-else-len-gt-MOST_CUBES
returns-else-len-gt-MOST_CUBES g c = ap (set_of cube_cmp) c.sort_dedup.ensures ∙ set_again c.extend_from_slice.new.self.items ∙ ap (set_of cube_cmp) c.in_ok-extend_from_slice.ensures.ok
