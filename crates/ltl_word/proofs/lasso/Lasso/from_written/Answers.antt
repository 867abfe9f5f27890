use Rattle.std.proofs.Common.{◌≡◌, ◌∙◌, ◌++◌, ap, sym, subst, arith, map}
use Rattle.std.specs.List.{AllByRecursion}
use Rattle.ltl_spec.specs.Collections.Sets.{Has}
use Rattle.ltl_spec.proofs.Collections.MemberLaws.{map_length}
use Rattle.ltl_word.specs.WrittenView.{WrittenView, letters_of}
use Rattle.ltl_word.specs.LassoView.{IsMade, lasso_of}
use Rattle.ltl_word.specs.NameView.{AreAllPlaces, all_names}
use Rattle.ltl_spec.specs.Words.LassoText.{with_sets}
use Rattle.ltl_word.proofs.NameLaws.{known_parts, made_word, made_view}
use Rattle.ltl_word.proofs.lasso.Lasso.from_written.Goals as goal

pub all_places-requires : goal.all_places-requires
all_places-requires g c =
    let w = c.args.word.now in
    let names = map (λ n. n.now) c.args.names.now in
    let known = subst (λ ls. AllByRecursion (Has names) (all_names ls)) (sym (ap (map (λ a. map (λ n. n.now) a.items)) c.as_slice.ensures.value ∙ ap (λ (v : WrittenView). v.stem) c.word.view_is)) (known_parts names w.stem w.cycle c.requires.known).0 in
    let size = map_length (λ n. n.now) c.args.names.now in
    let few = c.requires.few in
    (omega arith, (omega (arith, size, few), (c.requires.sorted, known)))

pub all_places-requires-2 : goal.all_places-requires-2
all_places-requires-2 g c =
    let w = c.args.word.now in
    let names = map (λ n. n.now) c.args.names.now in
    let known = subst (λ ls. AllByRecursion (Has names) (all_names ls)) (sym (ap (map (λ a. map (λ n. n.now) a.items)) c.as_slice-2.ensures.value ∙ ap (λ (v : WrittenView). v.cycle) c.word.view_is)) (known_parts names w.stem w.cycle c.requires.known).1 in
    let size = map_length (λ n. n.now) c.args.names.now in
    let few = c.requires.few in
    (omega arith, (omega (arith, size, few), (c.requires.sorted, known)))

pub invariant_of-result : goal.invariant_of-result
invariant_of-result g c =
    let w = c.args.word.now in
    let names = map (λ n. n.now) c.args.names.now in
    let stem = subst (λ ls. AreAllPlaces names ls c.in_ok-letters.letters.items) (ap (map (λ a. map (λ n. n.now) a.items)) c.as_slice.ensures.value ∙ ap (λ (v : WrittenView). v.stem) c.word.view_is) c.in_ok-letters.ensures in
    let cycle = subst (λ ls. AreAllPlaces names ls c.in_ok-cycle.cycle.items) (ap (map (λ a. map (λ n. n.now) a.items)) c.as_slice-2.ensures.value ∙ ap (λ (v : WrittenView). v.cycle) c.word.view_is) c.in_ok-cycle.ensures in
    subst (λ ns. IsMade ns c.extend_from_slice.new.self.items c.len-stem.result) (sym c.in_ok-names.ensures)
    (made_word names (letters_of w) c.in_ok-letters.letters.items c.in_ok-cycle.cycle.items c.extend_from_slice.new.self.items c.len-stem.result c.requires stem cycle
    (c.in_ok-extend_from_slice.ensures.items ∙ ap (λ ys. c.in_ok-letters.letters.items ++ ys) c.as_slice-3.ensures.value) (let e = c.len-stem.ensures in omega (arith, e)))

pub returns : goal.returns
returns g c =
    let w = c.args.word.now in
    let names = map (λ n. n.now) c.args.names.now in
    let stem = subst (λ ls. AreAllPlaces names ls c.in_ok-letters.letters.items) (ap (map (λ a. map (λ n. n.now) a.items)) c.as_slice.ensures.value ∙ ap (λ (v : WrittenView). v.stem) c.word.view_is) c.in_ok-letters.ensures in
    let cycle = subst (λ ls. AreAllPlaces names ls c.in_ok-cycle.cycle.items) (ap (map (λ a. map (λ n. n.now) a.items)) c.as_slice-2.ensures.value ∙ ap (λ (v : WrittenView). v.cycle) c.word.view_is) c.in_ok-cycle.ensures in
    subst (λ ns. lasso_of ns c.extend_from_slice.new.self.items c.len-stem.result ≡ with_sets (letters_of w)) (sym c.in_ok-names.ensures)
    (made_view names (letters_of w) c.in_ok-letters.letters.items c.in_ok-cycle.cycle.items c.extend_from_slice.new.self.items c.len-stem.result stem cycle
    (c.in_ok-extend_from_slice.ensures.items ∙ ap (λ ys. c.in_ok-letters.letters.items ++ ys) c.as_slice-3.ensures.value) (let e = c.len-stem.ensures in omega (arith, e)))
