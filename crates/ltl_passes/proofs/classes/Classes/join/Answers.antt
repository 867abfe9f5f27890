use Rattle.std.proofs.Common.{◌≡◌, ℕ, List, length, drop, ◌∙◌, ap, sym, subst, arith}
use Rattle.ltl_passes.specs.Worklist.{AreWithin, LeadsWithin}
use Rattle.ltl_passes.proofs.WithinLaws.{joined_within, written_back}
use Rattle.ltl_passes.proofs.classes.Classes.join.Goals as goal

pub returns-clause-within : goal.returns-clause-within
returns-clause-within g c = λ coarse e w.
    let names = c.args.self.now.names.items in
    let links = c.args.self.now.links.items in
    let made = c.rename.new.names in
    let swapped = c.swap.new.self.items in
    let shown : c.as_mut_slice.result.now ≡ names = c.as_mut_slice.ensures.value in
    let linked : c.as_slice-links.result.now ≡ links = c.as_slice-links.ensures.value in
    let long : length made ≡ length names = c.rename.auto.names ∙ ap length shown in
    let rename : LeadsWithin coarse (length names) links → LeadsWithin coarse (length names) names → LeadsWithin coarse (length names) made = λ u v.
    subst (λ ns. LeadsWithin coarse (length ns) made) shown (c.in_ok-renamed.ensures.within coarse (subst (λ ls. LeadsWithin coarse (length c.as_mut_slice.result.now) ls) (sym linked) (subst (λ ns. LeadsWithin coarse (length ns) links) (sym shown) u)) e (subst (λ ns. LeadsWithin coarse (length ns) ns) (sym shown) v)) in
    let swap = c.swap.ensures.items in
    subst (λ (ns : List ℕ). AreWithin coarse ns swapped) (sym (written_back c.args.self.now.names.len made (drop (length made) names) (omega (arith, c.args.self.now.names.ok.0))))
    (joined_within coarse names links made swapped c.args.from c.args.to c.requires.from c.requires.to e long rename swap w)
