use Rattle.std.proofs.Common.{arith, ◌<◌, ℕ, refl, length}
use Rattle.std.proofs.lemmas.List.{drop_more}
use Rattle.ltl_automaton.specs.CodedEdges.{edges_in}
use Rattle.ltl_streams.proofs.PrintLaws.{lacks_all, lacks_step}
use Rattle.ltl_text.proofs.EdgeLaws.{cube_is}
use Rattle.ltl_text.proofs.NameLaws.{name_there}
use Rattle.ltl_text.proofs.TextLaws.{first_all, guards_begin, guards_go_on, others_all}
use Rattle.ltl_text.proofs.options.put_guards.Goals as goal

pub put_guard-requires : goal.put_guard-requires
put_guard-requires g c = name_there (length c.args.texts.now) (edges_in c.args.edges.now) _ _ c.requires.named c.get.ensures

pub put_guard-requires-in-loop-place : goal.put_guard-requires-in-loop-place
put_guard-requires-in-loop-place g c = name_there (length c.args.texts.now) (edges_in c.args.edges.now) _ _ c.requires.named c.get-in-loop-place.ensures

pub loop-place-init : goal.loop-place-init
loop-place-init g c =
    let P : ℕ → Type 0 = λ p. p < length c.args.edges.now.coded.now in
    let within = first_all P _ _ _ c.in-Some.ensures.cases.0 c.requires.within in
    let e = guards_begin c.args.texts.now (edges_in c.args.edges.now) _ _ _ _ c.in-Some.ensures.cases.0 (cube_is (edges_in c.args.edges.now) _ _ c.get.ensures) in
    record {
      within = others_all P _ _ _ c.in-Some.ensures.cases.0 c.requires.within;
      text = lacks_step (lacks_all _ _) _ e c.put_guard.ensures;
    }

pub loop-place-preserved : goal.loop-place-preserved
loop-place-preserved g c =
    let lt : c.loop-place.place-index < length c.in-Some.others.now = omega arith in
    let f = cube_is (edges_in c.args.edges.now) _ _ c.get-in-loop-place.ensures in
    let e = guards_go_on c.args.texts.now (edges_in c.args.edges.now) _ _ _ _ (drop_more c.in-Some.others.now c.loop-place.place-index 0 lt) f in
    let between = lacks_step c.loop-place.invariant.text _ e c.put.ensures in
    record {
      within = c.loop-place.invariant.within;
      text = lacks_step between _ refl c.put_guard-in-loop-place.ensures;
    }
