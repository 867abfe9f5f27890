-- A reduction of an automaton that was read.
use Rattle.std.proofs.Common.{◌≡◌, ◌≤◌, true, map, length, refl, sym, subst, arith}
use Rattle.std.specs.Prelude.{sum_by}
use Rattle.ltl_spec.specs.Automata.Automaton.{Automaton, State}
use Rattle.ltl_spec.specs.Checking.Bounds.{HasNamesBelow}
use Rattle.ltl_spec.specs.Hoa.HoaPrinted.{marked_of}
use Rattle.ltl_spec.specs.Hoa.HoaReading.{MarkedAutomaton}
use Rattle.ltl_spec.proofs.Checking.GeneralizedRead.{marked_accepts}
use Rattle.ltl_spec.proofs.Collections.ListLaws.{All-at_has}
use Rattle.ltl_spec.proofs.Hoa.GeneralizedBack.{sum_same}
use Rattle.ltl_hoa.specs.MarkedView.{IsMarked}
use Rattle.ltl_models.specs.GbaView as gba
use Rattle.ltl_reduce.specs.Importing.{started}
use Rattle.ltl_reduce.specs.Reduced.{IsReduced}
use Rattle.ltl_reduce.specs.Reduction.{IsReductionOf, edge_count}
use Rattle.ltl_reduce.proofs.ImportLaws.{accepts_started, few_edges, names_started, state_count}

module _ (A : MarkedAutomaton) (m : IsMarked A) (g : Automaton) (r : IsReductionOf (started A) 0 g) where
  pub reduced_named : HasNamesBelow (length A.names) g
  reduced_named = r.names (length A.names) (names_started A m)

  pub reduced_marked : gba.IsAcceptingGba g → IsReduced A (marked_of g A.names)
  reduced_marked good = record {
    same = λ w l.
        let (to, from) = accepts_started A m w l in
        let (on, back) = r.same A.names w l in
        let (out, in_again) = marked_accepts g A.names (λ s h. All-at_has (λ (t : State). t.accepting ≡ true) g.states good.accepting s h) w in
        ((λ h. in_again (on (to h))), λ h. from (back (out h)));
    names = refl;
    sets = let e = r.sets in omega arith;
    states = subst (λ n. length g.states ≤ n) (state_count A m) r.states;
    edges =
        let count : sum_by length (map (λ (s : State). s.edges) g.states) ≡ edge_count g = sum_same (λ (s : State). s.edges) length (λ s. length s.edges) 0 g.states (λ s h. refl) in
        let most : edge_count (started A) ≤ sum_by length A.edges = few_edges A m in
        let less : edge_count g ≤ edge_count (started A) = r.edges in
        omega (arith, count, most, less);
  }

-- so it is by the steps of the code
pub marked_on : (A : MarkedAutomaton) (given small made : Automaton) → IsMarked A → given ≡ started A → IsReductionOf given 0 small → gba.IsAcceptingGba small → made ≡ small → IsReduced A (marked_of made A.names)
marked_on A given small made m e r good f =
    subst (λ (G : Automaton). IsReduced A (marked_of G A.names)) (sym f) (reduced_marked A m small (subst (λ (S : Automaton). IsReductionOf S 0 small) e r) good)

pub named_on : (A : MarkedAutomaton) (given small made : Automaton) → IsMarked A → given ≡ started A → IsReductionOf given 0 small → made ≡ small → HasNamesBelow (length A.names) made
named_on A given small made m e r f = subst (HasNamesBelow (length A.names)) (sym f) (reduced_named A m small (subst (λ (S : Automaton). IsReductionOf S 0 small) e r))
