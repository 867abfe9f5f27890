use Rattle.std.proofs.Common.{sym}
use Rattle.std.proofs.lemmas.List.{get_or_read}
use Rattle.std.proofs.lemmas.Result.{on_ok_weaker}
use Rattle.ltl_passes.proofs.WithinLaws.{same_class}
use Rattle.ltl_passes.proofs.classes.Classes.merge.Goals as goal

pub returns-then-is_shorter-clause-within : goal.returns-then-is_shorter-clause-within
returns-then-is_shorter-clause-within g c =
    let names = c.args.self.now.names.items in
    let links = c.args.self.now.links.items in
    let a = get_or_read names c.args.first _ c.requires.first c.index-first_name.ensures 0 in
    let b = get_or_read names c.args.other _ c.requires.other c.index-other_name.ensures 0 in
    on_ok_weaker c.join.result (λ h coarse e w. h coarse (same_class coarse names links c.args.first c.args.other _ _ c.requires.first c.requires.other a b w e) w) c.join.ensures.within

pub returns-clause-within : goal.returns-clause-within
returns-clause-within g c =
    let names = c.args.self.now.names.items in
    let links = c.args.self.now.links.items in
    let a = get_or_read names c.args.first _ c.requires.first c.index-first_name.ensures 0 in
    let b = get_or_read names c.args.other _ c.requires.other c.index-other_name.ensures 0 in
    on_ok_weaker c.join-2.result (λ h coarse e w. h coarse (sym (same_class coarse names links c.args.first c.args.other _ _ c.requires.first c.requires.other a b w e)) w) c.join-2.ensures.within
