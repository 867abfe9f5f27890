use Rattle.std.proofs.Common.{◌∙◌, ◌∷◌, ◌++◌, ◌<◌, [], arith, map, refl, ap, sym, subst, slice_get}
use Rattle.std.specs.Prelude.{nat_eq, slice_index_or, take}
use Rattle.std.specs.Cmp.Lexicographic.{bytes_decides, pointwise}
use Rattle.ltl_sets.specs.CubeEq.{same_cube, cube_Decides}
use Rattle.ltl_automaton.specs.EdgeView.{edge_of}
use Rattle.ltl_automaton.specs.Labels.{Tables}
use Rattle.ltl_automaton.specs.LabelTables.{AreMade, met_of}
use Rattle.ltl_automaton.specs.Net.{edges_to}
use Rattle.ltl_automaton.proofs.NetLaws.{edges_to_at, edges_to_none, edges_to_whole}
use Rattle.ltl_automaton.proofs.TableLaws.{coded_next, once_next, extends_next, extends_none, extends_on, made_stay, met_there, none_made}
use Rattle.ltl_automaton.proofs.coded_builder.CodedBuilder.coded_edges.Goals as goal

pub loop-i-init : goal.loop-i-init
loop-i-init g c =
    let t : Tables = record { cubes = c.make_room.new.self.keys; marks = c.args.self.now.marks.keys } in
    record { more = extends_none t; made = subst (AreMade t c.in_ok-coded.coded.items) (sym (edges_to_none _)) (none_made t c.in_ok-coded.coded.items c.in_ok-coded.ensures.items); states = refl; once = λ h. h }

pub loop-i-preserved : goal.loop-i-preserved
loop-i-preserved g c =
    let t : Tables = record { cubes = c.make_room.new.self.keys; marks = c.args.self.now.marks.keys } in
    let before = met_of c.loop-i.self in
    let after : Tables = record { cubes = c.number.new.self.keys; marks = c.number-in-loop-i.new.self.keys } in
    let e = c.edge_to-edge.result in
    let i = c.loop-i.i in
    let n = slice_index_or c.args.targets.now i 0 in
    let within = subst (λ m. i < m) c.requires c.loop-i-test.true in
    let es = edges_to (take i (map g.T.Step.move_of c.args.steps.now)) (take i c.args.targets.now) in
    let next = edges_to_at g.T.Step.move_of c.args.steps.now c.args.targets.now i c.index-steps-i.result n 0 c.loop-i-test.true within c.index-steps-i.is refl in
    let grown = extends_next (pointwise nat_eq) before after e.cube e.marks c.in_ok-number.ensures.keys c.in_ok-number-2.ensures.keys in
    record {
      more = extends_on t before after c.loop-i.invariant.more grown;
      made = coded_next after c.loop-i.coded.items c.push.new.self.items _ es _ (edge_of e) (made_stay before after grown c.loop-i.coded.items _ c.loop-i.invariant.made)
          (ap (slice_get after.cubes) c.in_ok-narrow.ensures ∙ met_there same_cube cube_Decides after.cubes e.cube _ c.in_ok-number.ensures.stored)
          (ap (slice_get after.marks) c.in_ok-narrow-2.ensures ∙ met_there (pointwise nat_eq) bytes_decides after.marks e.marks _ c.in_ok-number-2.ensures.stored)
          refl c.in_ok-push.ensures.items (next ∙ ap (λ x. es ++ x ∷ []) (sym c.edge_to-edge.ensures));
      states = c.loop-i.invariant.states;
      once = λ h. once_next before after e.cube e.marks (c.loop-i.invariant.once h) c.in_ok-number.ensures.keys c.in_ok-number-2.ensures.keys;
    }

pub returns-clause-edges : goal.returns-clause-edges
returns-clause-edges g c =
    subst (AreMade (met_of c.loop-i.self) c.loop-i.coded.items) (edges_to_whole g.T.Step.move_of c.args.steps.now c.args.targets.now c.loop-i.i (omega (arith, c.loop-i-test.false)) (omega (arith, c.requires, c.loop-i-test.false))) c.loop-i.invariant.made
