-- Where the generalized automaton has a run the formula holds.
use Rattle.std.proofs.Common.{◌≡◌, ℕ, suc, ◌+◌, ◌-◌, Bool, true, inl, refl, sym, ◌∙◌, ap, subst, arith}
use Rattle.std.specs.Prelude.{slice_index_or}
use Rattle.ltl_spec.specs.Collections.Sets.{Has}
use Rattle.ltl_spec.specs.Collections.Lists.{places_where}
use Rattle.ltl_spec.specs.Transitions.Cubes.{allows}
use Rattle.ltl_spec.specs.Semantics.Word.{after_steps}
use Rattle.ltl_spec.specs.NormalForms.Normal.{Normal, Bottom, Until}
use Rattle.ltl_spec.specs.NormalForms.NormalForm.{until_rows}
use Rattle.ltl_spec.specs.Semantics.NormalSatisfaction.{Holds}
use Rattle.ltl_spec.specs.Transitions.Pairs.{Pair}
use Rattle.ltl_spec.specs.Transitions.RowTransitions.{table_of, place, successors, is_marked, with_marks, Transition}
use Rattle.ltl_spec.proofs.Collections.ListLaws.{places_cases}
use Rattle.ltl_spec.proofs.Transitions.CubeLaws.{allows_Decides}
use Rattle.ltl_spec.proofs.Transitions.TransitionLaws.{transition_cases, successor_supports}
use Rattle.ltl_spec.proofs.Transitions.PartLaws.{until_place}
use Rattle.ltl_spec.proofs.Semantics.SupportLaws.{IsSupported, core_holds_supported}
use Rattle.ltl_spec.proofs.Semantics.RowRuns.{RowRun}

-- the place of an until row among the marks says that it isn't put off
pub marked_at : (core : Normal) (p : Pair) (F : Normal) (f : ℕ) → ((d : Normal) → slice_index_or (until_rows core) f d ≡ F) → Has (places_where (is_marked (table_of core) p) (until_rows core)) f → is_marked (table_of core) p F ≡ true
marked_at core p F f at h =
    let w = places_cases (is_marked (table_of core) p) 0 (until_rows core) Bottom f h in
    let e : f - 0 ≡ f = omega arith in
    ap (is_marked (table_of core) p) (sym (ap (λ j. slice_index_or (until_rows core) j Bottom) e ∙ at Bottom)) ∙ w.2

module _ (core : Normal) (keep : Bool) (truth : ℕ → ℕ → Bool) (step : ℕ → ℕ) (r : RowRun core keep truth step) where
  -- the pair of the transition at each time
  pair : (k : ℕ) → (p : Pair) × Has (successors (table_of core) (r.set k)) p × (r.transition k ≡ with_marks (table_of core) p)
  pair k = transition_cases (table_of core) keep (r.set k) (r.transition k) (r.among k)

  -- the transitions of a run support what comes
  supported : IsSupported core truth step (λ k. (pair k).0)
  supported = record {
    agrees = λ k. (allows_Decides (truth (after_steps step k 0)) (pair k).0.cube).0 (ap (λ (u : Transition). allows (truth (after_steps step k 0)) u.cube) (sym (pair k).2) ∙ r.allowed k);
    carries = λ k i h.
        successor_supports (table_of core) (r.set (suc k)) (pair (suc k)).0 (pair (suc k)).1 i
        (subst (λ e. Has e i) (sym (r.leads k ∙ ap (λ (u : Transition). u.targets) (pair k).2)) h);
    marked = λ a b q k.
        let (f, l, at) = until_place core a b q in
        let (j, m, h) = r.marks f k l in
        let e : k + (j - k) ≡ j = omega arith in
        let here = marked_at core (pair j).0 (Until a b) f at (subst (λ (u : Transition). Has u.marks f) (pair j).2 h) in
        (j - k, subst (λ n. is_marked (table_of core) (pair n).0 (Until a b) ≡ true) (sym e) here);
  }

  -- so the formula holds
  pub holds_of_rows : Holds truth step core 0
  holds_of_rows =
      core_holds_supported core truth step (λ k. (pair k).0) supported
      (successor_supports (table_of core) (r.set 0) (pair 0).0 (pair 0).1 (place (table_of core) core) (subst (λ e. Has e (place (table_of core) core)) (sym r.starts) (inl refl)))
