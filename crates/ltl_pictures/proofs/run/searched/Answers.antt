use Rattle.std.proofs.Common.{◌≡◌, ◌∙◌, ap, Ok, None, Some}
use Rattle.ltl_spec.specs.Hoa.HoaReading.{MarkedAutomaton}
use Rattle.ltl_check.specs.WordView.{word_net}
use Rattle.ltl_pictures.specs.Picks.{picks_of}
use Rattle.ltl_pictures.proofs.WalkLaws.{found_none, found_picks}
use Rattle.ltl_pictures.proofs.run.searched.Goals as goal

pub returns-in_ok-picks-in-Some-clause-found : goal.returns-in_ok-picks-in-Some-clause-found
returns-in_ok-picks-in-Some-clause-found g c =
    let e : c.find.result ≡ Ok (Some c.in-Some.walk) = (let w = c.in-Ok.is in let i = c.in-Some.is in cc) in
    found_picks c.args.automaton.now c.args.letters.now c.args.stem _ _ (λ i. word_net (c.new-product.ensures.automaton i) (c.new-product.ensures.letters i) (c.new-product.ensures.stem i)) (ap (λ (A : MarkedAutomaton). A.sets) c.new-product.ensures.automaton) c.find.result c.in-Some.walk _ e c.find.ensures.found
    (c.in_ok-picks-in-Some.ensures ∙ ap (λ n. picks_of n c.in-Some.walk.stem.items c.in-Some.walk.cycle.items) c.len.ensures.count)

pub returns-in-None-clause-none : goal.returns-in-None-clause-none
returns-in-None-clause-none g c _ =
    let e : c.find.result ≡ Ok None = (let w = c.in-Ok.is in let i = c.in-None.is in cc) in
    found_none c.args.automaton.now c.args.letters.now c.args.stem _ _ (λ i. word_net (c.new-product.ensures.automaton i) (c.new-product.ensures.letters i) (c.new-product.ensures.stem i)) (ap (λ (A : MarkedAutomaton). A.sets) c.new-product.ensures.automaton) c.find.result c.find.ensures.none e
