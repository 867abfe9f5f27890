use Rattle.std.proofs.Common.{◌≡◌, ◌<◌, ℕ, List, ◌∷◌, length, refl, subst, sym}
use Rattle.std.specs.Prelude.{slice_index_or, All}
use Rattle.ltl_spec.specs.Collections.Sets.{IsRising}
use Rattle.ltl_spec.specs.Automata.Automaton.{state_at}
use Rattle.ltl_automaton.specs.CodedEdges.{edges_in}
use Rattle.ltl_models.specs.BaView.{target_at}
use Rattle.ltl_automaton.specs.declared.labels.Edges as lent
use Rattle.ltl_streams.proofs.PrintLaws.{lacks_all, lacks_step, prints_nothing}
use Rattle.ltl_text.proofs.EdgeLaws.{no_edge, places_within, target_there}
use Rattle.ltl_text.proofs.NameLaws.{all_have_names}
use Rattle.ltl_text.proofs.OptionLaws.{entries_whole, options_fall, options_rise, options_step, options_within, place_cmp}
use Rattle.ltl_text.proofs.TextLaws.{first_all}
use Rattle.ltl_text.proofs.options.put_options.Goals as goal

-- the first place is that of an edge, with this target
first_target : (es : lent.Edges) {p : ℕ} {tail rest : List ℕ} → rest ≡ p ∷ tail → All (λ q. q < length es.coded.now) rest → target_at (edges_in es) p ≡ (slice_index_or es.coded.now p no_edge).target
first_target es {p} {tail} {rest} e within = target_there es p no_edge (first_all (λ q. q < length es.coded.now) p tail rest e within)

pub options-init : goal.options-init
options-init g c =
    let e = c.edges-edges.ensures.edges in
    let s = state_at c.args.automaton.now c.args.k in
    let rising = c.by_target-rest.ensures.order.rising in
    let ps = c.by_target-rest.result.now in
    record {
      within = places_within c.edges-edges.result _ _ e c.by_target-rest.ensures.order.within;
      rising = subst (λ l. IsRising (place_cmp (target_at l)) ps) (sym e) rising;
      text = lacks_step (lacks_all _ _) _ (sym (entries_whole c.args.automaton.now c.args.texts.now s (edges_in c.edges-edges.result) ps e c.by_target-rest.ensures.order)) (prints_nothing _);
    }

pub put_guards-requires-clause-named : goal.put_guards-requires-clause-named
put_guards-requires-clause-named g c = all_have_names _ c.args.automaton.now c.args.k _ c.requires.named c.edges-edges.ensures.edges

pub options-smaller : goal.options-smaller
options-smaller g c =
    let f = first_target c.edges-edges.result c.in-Some.ensures.cases.0 c.options.invariant.within in
    options_fall c.args.automaton.now c.args.texts.now (edges_in c.edges-edges.result) _ _ _ _ _ _ _ c.in-Some.ensures.cases.0 f c.group_len.ensures.group c.options.invariant.rising c.split_at.ensures.front c.split_at.ensures.back c.group_len.ensures.within

pub options-preserved : goal.options-preserved
options-preserved g c =
    let f = first_target c.edges-edges.result c.in-Some.ensures.cases.0 c.options.invariant.within in
    let e = options_step c.args.automaton.now c.args.texts.now (edges_in c.edges-edges.result) _ _ _ _ _ _ _ c.in-Some.ensures.cases.0 f c.group_len.ensures.group c.options.invariant.rising c.split_at.ensures.front c.split_at.ensures.back in
    let first = lacks_step c.options.invariant.text _ e c.put.ensures in
    let second = lacks_step first _ refl c.put_guards.ensures in
    let third = lacks_step second _ refl c.put-in-Some.ensures in
    let fourth = lacks_step third _ refl c.put_label.ensures in
    record {
      within = options_within c.args.automaton.now c.args.texts.now (edges_in c.edges-edges.result) _ _ _ _ _ _ _ c.in-Some.ensures.cases.0 f c.group_len.ensures.group c.options.invariant.rising c.split_at.ensures.front c.split_at.ensures.back (λ p. p < length c.edges-edges.result.coded.now) c.options.invariant.within;
      rising = options_rise c.args.automaton.now c.args.texts.now (edges_in c.edges-edges.result) _ _ _ _ _ _ _ c.in-Some.ensures.cases.0 f c.group_len.ensures.group c.options.invariant.rising c.split_at.ensures.front c.split_at.ensures.back;
      text = lacks_step fourth _ refl c.put-in-Some-2.ensures;
    }

pub put_label-requires-clause-within : goal.put_label-requires-clause-within
put_label-requires-clause-within g c =
    let es = c.edges-edges.result in
    c.edges-edges.ensures.within _ no_edge (first_all (λ q. q < length es.coded.now) _ _ _ c.in-Some.ensures.cases.0 c.options.invariant.within)
