use Rattle.std.proofs.Common.{◌<◌, ◌∙◌, [], ap, arith, length, subst, sym}
use Rattle.std.specs.Prelude.{slice_index_or, slice_set, true}
use Rattle.ltl_pictures.specs.declared.pick.Pick.{Pick}
use Rattle.ltl_pictures.proofs.FlagLaws.{any_default, flags_all, flags_begin, flags_more, picked_at}
use Rattle.ltl_pictures.proofs.flags.set_flags.Goals as goal

pub loop-i-init : goal.loop-i-init
loop-i-init g c = flags_begin c.args.automaton.now c.args.picks.now c.in_ok-flags.flags.items c.in_ok-flags.ensures

pub loop-i-preserved : goal.loop-i-preserved
loop-i-preserved g c =
    let picks = c.args.picks.now in
    let i = c.loop-i.i in
    let old = c.loop-i.flags.items in
    let lt : i < length picks = omega arith in
    let q : Pick = slice_index_or picks i (record { state = 0; place = 0 }) in
    let is = any_default picks i (record { state = 0; place = 0 }) q lt in
    let pick = picked_at c.args.automaton.now picks i q lt is c.requires in
    let inside : q.state < length old = subst (λ n. q.state < n) (sym c.loop-i.invariant.long) pick.0 in
    flags_more c.args.automaton.now picks i q old _ lt is pick c.loop-i.invariant
    (ap (slice_set old q.state) (c.set.ensures ∙ ap (λ fs. slice_set fs q.place true) (c.index_mut.ensures.value ∙ any_default old q.state _ [] inside)))

pub returns : goal.returns
returns g c = flags_all c.args.automaton.now c.args.picks.now c.loop-i.i c.loop-i.flags.items (omega arith) c.loop-i.invariant
