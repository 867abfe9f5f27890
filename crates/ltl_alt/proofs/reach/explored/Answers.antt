use Rattle.std.proofs.Common.{◌≡◌, ℕ, ◌∷◌, [], ◌∙◌, ap, sym, subst, Result, Err, false}
use Rattle.std.specs.Result.{IsErrOf, IsErrAnd}
use Rattle.ltl_spec.specs.Collections.Sets.{Has}
use Rattle.ltl_spec.specs.Transitions.Pairs.{Pair, RowSet}
use Rattle.ltl_spec.specs.Transitions.RowTransitions.{with_marks}
use Rattle.ltl_spec.specs.Automata.Automaton.{Automaton}
use Rattle.ltl_spec.specs.Automata.Listing.{PassesLimits}
use Rattle.ltl_spec.specs.Automata.Generalized.{same_row_set, root_set}
use Rattle.ltl_spec.specs.Tools.Limits.{stated_limits}
use Rattle.ltl_formula.specs.TableView.{core_of, row_tree}
use Rattle.ltl_spec.specs.Automata.Net.{IsReachable, targets_of}
use Rattle.ltl_automaton.specs.Net.{moves_of}
use Rattle.ltl_automaton.specs.LabelTables.{built_of}
use Rattle.ltl_automaton.specs.declared.fault.AutomatonFault.{AutomatonFault}
use Rattle.ltl_automaton.specs.declared.fault.AutomatonFault.TheVariants.{TooLarge}
use Rattle.ltl_alt.specs.ReachView.{net_of}
use Rattle.ltl_alt.specs.RowLists.{row_place}
use Rattle.ltl_alt.specs.TransitionView.{table_at}
use Rattle.ltl_alt.proofs.ElementaryLaws.{root_stands}
use Rattle.ltl_alt.proofs.GbaLaws.{is_generalized, is_gba, is_too_large, is_not_too_large}
use Rattle.ltl_alt.proofs.TransitionLaws.{untils_count}
use Rattle.ltl_alt.proofs.reach.explored.Goals as goal

passed_on : {T : Type 0} (r : Result T AutomatonFault) (P : AutomatonFault → Type 0) → IsErrAnd r P → IsErrOf r TooLarge → P TooLarge
passed_on r P a e = subst (λ q. IsErrAnd q P) e a

pub explore_from-requires-clause-begun : goal.explore_from-requires-clause-begun
explore_from-requires-clause-begun g c = ap (λ (X : Automaton). X.states) c.in_ok-builder.ensures.empty

pub single-root-requires : goal.single-root-requires
single-root-requires g c = c.place.ensures.small (root_stands c.args.table.now c.root.result c.invariant.ensures c.root.ensures.last)

pub explore_from-requires-clause-ready : goal.explore_from-requires-clause-ready
explore_from-requires-clause-ready g c = (
  (
    record {
      table = c.invariant.ensures;
      rule = c.in_ok-rule.ensures;
      tests = c.in_ok-fulfilment.ensures;
      conjuncts = c.in_ok-conjuncts.ensures.conjuncts.0;
      all = c.in_ok-conjuncts.ensures.conjuncts.1;
      neutral = c.in_ok-neutral.ensures ∙ ap (λ (p : Pair). with_marks (table_at c.args.table.now) p ∷ []) c.empty.ensures;
    },
    c.in_ok-finals.ensures,
    λ key state h. absurd (subst (λ es. Has es (key, state)) c.new-2.ensures h),
  ),
  c.in_ok-builder.ensures.built,
)

pub returns-in_err-built-clause-large : goal.returns-in_err-built-clause-large
returns-in_err-built-clause-large g c = λ e.
    let F = core_of c.args.table.now in
    let keep = c.args.keep_implied in
    let root : c.single-root.result ≡ root_set F keep = c.single-root.ensures ∙ ap (λ (k : ℕ). k ∷ []) (c.place.ensures.place ∙ ap (λ k. row_place c.args.table.now (row_tree c.args.table.now k)) c.root.ensures.last) in
    let large = c.in_err-built.ensures.large (ap (λ (f : AutomatonFault). Err f) (sym (passed_on _ _ c.from_residual-in_err-built.ensures.1 e))) in
    is_too_large F keep (subst (λ (s : RowSet). PassesLimits same_row_set (targets_of (moves_of (net_of F keep))) s stated_limits.states stated_limits.edges) root large)

pub returns-clause-inside : goal.returns-clause-inside
returns-clause-inside g c =
    let F = core_of c.args.table.now in
    let keep = c.args.keep_implied in
    let root : c.single-root.result ≡ root_set F keep = c.single-root.ensures ∙ ap (λ (k : ℕ). k ∷ []) (c.place.ensures.place ∙ ap (λ k. row_place c.args.table.now (row_tree c.args.table.now k)) c.root.ensures.last) in
    let A = built_of c.in_ok-built.built in
    let sets = ap (λ (X : Automaton). X.sets) c.in_ok-builder.ensures.empty in
    let reachable =
    subst (λ n. IsReachable same_row_set false (moves_of (net_of F keep)) (root_set F keep) n A) sets (subst (λ (s : RowSet). IsReachable same_row_set false (moves_of (net_of F keep)) s (built_of c.in_ok-builder.builder).sets A) root c.in_ok-built.ensures.reachable) in
    is_gba F keep c.until_count.result (c.until_count.ensures.count ∙ sym (untils_count c.args.table.now c.invariant.ensures)) A reachable c.in_ok-built.ensures.bounded c.until_count.ensures.few

pub returns-clause-generalized : goal.returns-clause-generalized
returns-clause-generalized g c =
    let F = core_of c.args.table.now in
    let keep = c.args.keep_implied in
    let root : c.single-root.result ≡ root_set F keep = c.single-root.ensures ∙ ap (λ (k : ℕ). k ∷ []) (c.place.ensures.place ∙ ap (λ k. row_place c.args.table.now (row_tree c.args.table.now k)) c.root.ensures.last) in
    let A = built_of c.in_ok-built.built in
    let sets = ap (λ (X : Automaton). X.sets) c.in_ok-builder.ensures.empty in
    let reachable =
    subst (λ n. IsReachable same_row_set false (moves_of (net_of F keep)) (root_set F keep) n A) sets (subst (λ (s : RowSet). IsReachable same_row_set false (moves_of (net_of F keep)) s (built_of c.in_ok-builder.builder).sets A) root c.in_ok-built.ensures.reachable) in
    is_generalized F keep c.until_count.result (c.until_count.ensures.count ∙ sym (untils_count c.args.table.now c.invariant.ensures)) A reachable

pub returns-clause-fits : goal.returns-clause-fits
returns-clause-fits g c =
    let F = core_of c.args.table.now in
    let keep = c.args.keep_implied in
    let root : c.single-root.result ≡ root_set F keep = c.single-root.ensures ∙ ap (λ (k : ℕ). k ∷ []) (c.place.ensures.place ∙ ap (λ k. row_place c.args.table.now (row_tree c.args.table.now k)) c.root.ensures.last) in
    is_not_too_large F keep (subst (λ (s : RowSet). ¬ (PassesLimits same_row_set (targets_of (moves_of (net_of F keep))) s stated_limits.states stated_limits.edges)) root c.in_ok-built.ensures.fits)
