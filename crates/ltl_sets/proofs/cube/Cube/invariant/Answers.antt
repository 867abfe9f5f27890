use Rattle.ltl_sets.specs.PlaceLaws.{literals_of_rise, literals_below}
use Rattle.ltl_sets.proofs.CubeLaws.{no_clash}
use Rattle.ltl_sets.proofs.LiteralsLaws.{literals_few}
use Rattle.ltl_sets.proofs.cube.Cube.invariant.Goals as goal

pub returns-clause-rising : goal.returns-clause-rising
returns-clause-rising c = rw (← c.self.view_is) (literals_of_rise c.self.inside.positive c.self.inside.negative)

pub returns-clause-below : goal.returns-clause-below
returns-clause-below c = rw (← c.self.view_is) (literals_below c.self.inside.positive c.self.inside.negative)

pub returns-clause-consistent : goal.returns-clause-consistent
returns-clause-consistent c =
    let own = c.self.invariant in
    rw (← c.self.view_is) (no_clash c.self.inside.positive c.self.inside.negative own.positive_words own.negative_words own.disjoint)

pub returns-clause-few : goal.returns-clause-few
returns-clause-few c =
    let own = c.self.invariant in
    rw (← c.self.view_is) (literals_few c.self.inside.positive c.self.inside.negative own.positive_words own.negative_words own.disjoint)
