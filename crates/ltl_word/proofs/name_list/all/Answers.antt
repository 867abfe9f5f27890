use Rattle.std.proofs.Common.{◌≡◌, ◌∙◌, ◌++◌, ap, arith, map}
use Rattle.std.proofs.lemmas.List.{take_all}
use Rattle.ltl_word.specs.NameView.{all_names}
use Rattle.ltl_word.specs.WrittenView.{WrittenView}
use Rattle.ltl_word.proofs.NameLaws.{names_whole, one_name_more}
use Rattle.ltl_word.proofs.name_list.all.Goals as goal

pub loop-number-preserved : goal.loop-number-preserved
loop-number-preserved g c =
    one_name_more c.loop-number.names.items c.push.new.self.items _ c.args.formula.now.names c.loop-number.number _ (omega arith) c.in_ok-push.ensures.items c.loop-number.invariant c.name.ensures c.as_bytes.ensures.value

pub returns : goal.returns
returns g c =
    let w = c.args.word.now in
    let names = c.args.formula.now.names in
    let stem : map (λ a. map (λ n. n.now) a.items) c.as_slice.result.now ≡ w.stem = ap (map (λ a. map (λ n. n.now) a.items)) c.as_slice.ensures.value ∙ ap (λ (v : WrittenView). v.stem) c.word.view_is in
    let cycle : map (λ a. map (λ n. n.now) a.items) c.as_slice-2.result.now ≡ w.cycle = ap (map (λ a. map (λ n. n.now) a.items)) c.as_slice-2.ensures.value ∙ ap (λ (v : WrittenView). v.cycle) c.word.view_is in
    names_whole _ names _ _ w.stem w.cycle (c.loop-number.invariant ∙ take_all c.loop-number.number names (omega arith)) (c.in_ok-push_letters.ensures ∙ ap (λ ls. map (λ n. n.now) c.loop-number.names.items ++ all_names ls) stem)
    (c.in_ok-push_letters-2.ensures ∙ ap (λ ls. map (λ n. n.now) c.push_letters.new.names.items ++ all_names ls) cycle)
