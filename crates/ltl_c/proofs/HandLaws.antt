-- What is handed over in arrays.
use Rattle.std.proofs.Common.{◌≡◌, ◌∙◌, ap, sym, refl, inl, inr, Bool, true, false, ℕ, ◌≤◌, arith, List, length, Some, None, Ok}
use Rattle.std.specs.Bool.{Decides}
use Rattle.std.proofs.lemmas.List.{length-map}
use Rattle.ltl_spec.specs.Automata.Automaton.{Automaton}
use Rattle.ltl_spec.specs.Formulas.Formula.{Reading}
use Rattle.ltl_spec.specs.Formulas.Tokens.{items}
use Rattle.ltl_spec.specs.Tools.Refusal.{status_of}
use Rattle.ltl_cli.specs.declared.refusal.Refusal.{Refusal}
use Rattle.ltl_cli.specs.Refusals.{refusal_of}
use Rattle.ltl_c.specs.declared.rows.Counts.{Counts}
use Rattle.ltl_c.specs.declared.text_options.TextOptions.{TextOptions}
use Rattle.ltl_c.specs.Arrays.{Arrays, Fit, HandsAutomaton, MakesAsked, counted, edge_rows, found, name_row, no_rows, over, rows_of}
use Rattle.ltl_c.specs.Calls.{too_short}
use Rattle.ltl_c.specs.Codes.{code_for}
use Rattle.ltl_c.proofs.ArrayLaws.{states_counted}
use Rattle.ltl_c.proofs.FoundLaws.{is_refused, is_shown}
use Rattle.ltl_c.proofs.StepLaws.{Refuses}

module _ (text : List ℕ) (o : TextOptions) (counts : Counts) (old : Arrays) where
  module _ (R : Reading) (B : Automaton) (are : counts ≡ counted (rows_of text R B) B.sets (code_for None)) (b : Bool) (d : Decides b (Fit counts old)) where
    fit : b ≡ true → Fit counts old
    fit q = d.0 q

    pub states_room : b ≡ true → length B.states ≤ length old.states
    states_room q = omega (arith, (fit q).0, ap (λ (c : Counts). c.states) are, states_counted 0 B.states)

    pub edges_room : b ≡ true → length (edge_rows B.states) ≤ length old.edges
    edges_room q = omega (arith, (fit q).1, ap (λ (c : Counts). c.edges) are)

    pub names_room : b ≡ true → length R.names ≤ length old.names
    names_room q = omega (arith, (fit q).2, ap (λ (c : Counts). c.names) are, length-map R.names (name_row (items text)))

    module _ (made : MakesAsked text o (Ok (found R B))) where
      pub whole_handed : b ≡ true → (new : Arrays) → new ≡ over (rows_of text R B) old → HandsAutomaton text o counts old new 0
      whole_handed q new e =
          let s = is_shown text o R B made in
          inl (record {
            layout = s.layout;
            reading = R;
            automaton = B;
            asked = s.asked;
            made = made;
            models = s.models;
            shown = s.shown;
            counted = are;
            delivered = inl (refl, fit q, e);
          })

      pub short_handed : b ≡ false → HandsAutomaton text o counts old old too_short
      short_handed q =
          let s = is_shown text o R B made in
          inl (record {
            layout = s.layout;
            reading = R;
            automaton = B;
            asked = s.asked;
            made = made;
            models = s.models;
            shown = s.shown;
            counted = are;
            delivered = inr (refl, (λ f. no (sym (d.1 f) ∙ q)), refl);
          })
        where
          no : true ≡ false → ⊥
          no x = cc

  pub refused_handed : (e : Refusal) → Refuses (MakesAsked text o) e → counts ≡ no_rows (code_for (Some (refusal_of e))) → (n : ℕ) → n ≡ status_of (refusal_of e)
      → HandsAutomaton text o counts old old n
  refused_handed e h none n q = inr (record {
    reason = refusal_of e;
    shown = is_refused text o e h n q;
    ended = q;
    counted = none;
    kept = refl;
  })
