-- From the text of a reduced automaton to what a call hands over.
use Rattle.std.proofs.Common.{◌≡◌, sym, subst, refl, inl, inr, ℕ, List, [], Some, None, false}
use Rattle.std.specs.Prelude.{Result, Ok, Err, MatchResult}
use Rattle.ltl_spec.specs.Hoa.HoaReading.{MarkedAutomaton, stated_form}
use Rattle.ltl_spec.specs.Tools.Limits.{stated_limits}
use Rattle.ltl_spec.specs.Tools.Outcome.{Ended, printed}
use Rattle.ltl_spec.specs.Tools.Programs.{ReadsHoa}
use Rattle.ltl_spec.specs.Tools.Refusal as spec
use Rattle.ltl_spec.specs.Tools.Refusal.{status_of}
use Rattle.ltl_spec.proofs.Tools.StepLaws.{same_ok, then_ok}
use Rattle.ltl_cli.specs.Refusals.{TakesStep, refusal_of}
use Rattle.ltl_cli.specs.declared.refusal.Refusal.{Refusal}
use Rattle.ltl_cli.specs.declared.refusal.Refusal.TheVariants.{OutOfMemory}
use Rattle.ltl_reduction.specs.Messages.{reduce_message}
use Rattle.ltl_reduction.specs.Runs.{IsReducedText, Makes, Prints, TellsReduced, reduce_refused}
use Rattle.ltl_reduction.proofs.RunLaws.{reduced_told, refusal_tells}
use Rattle.ltl_c.specs.declared.refusal_code.RefusalCode.{RefusalCode}
use Rattle.ltl_c.specs.Calls.{Delivers, run_with}
use Rattle.ltl_c.specs.Codes.{code_for}
use Rattle.ltl_c.specs.Reductions.{HandsReduction, MayEndReduction, ReducesText}
use Rattle.ltl_c.proofs.StepLaws.{Refuses, first_refused}

-- the program prints the reduction of the text in its input
prints : (text : List ℕ) (r : Result (List ℕ) spec.Refusal) → ReducesText text r → Prints false (Ended text) r
prints text r (inl (e, h, q)) = inl (e, inr (text, refl, h), q)
prints text r (inr (A, h, q)) = inr (A, inr (text, refl, h), q)

-- what it prints reads as a reduction of what it read
tells : (text out : List ℕ) → ReducesText text (Ok out) → TellsReduced (Ended text) (run_with 0 out [])
tells text out h =
    let (A, reads, (t, e, made)) = then_ok (ReadsHoa stated_limits stated_form text) (Makes false) out h in
    reduced_told (Ended text) A (inr (text, refl, reads)) out (subst (λ (x : List ℕ). IsReducedText A x) (sym (same_ok out t e)) made) (run_with 0 out []) refl

-- ---- steps

-- the text isn't read
pub unread_reduced : (text : List ℕ) (e : Refusal) → Refuses (ReadsHoa stated_limits stated_form text) e → Refuses (ReducesText text) e
unread_reduced text e h = first_refused (ReadsHoa stated_limits stated_form text) (Makes false) e h

-- it is read, and its reduction has this text, or memory ran out
pub read_reduced : (text : List ℕ) (A : MarkedAutomaton) → ReadsHoa stated_limits stated_form text (Ok A) → (out : List ℕ) → IsReducedText A out → {V : Type 0} (items : V → List ℕ) (r : Result V Refusal)
    → MatchResult r (λ v. items v ≡ out) (λ e. e ≡ OutOfMemory) → TakesStep (ReducesText text) items r
read_reduced text A h out made items (Ok v) q = inr (A, h, (items v, refl, subst (λ (x : List ℕ). IsReducedText A x) (sym q) made))
read_reduced text A h out made items (Err e) q = inl q

-- ---- what the call hands over

refusal_shown : (text : List ℕ) (e : Refusal) → Refuses (ReducesText text) e → MayEndReduction text (status_of (refusal_of e)) [] (reduce_message (refusal_of e))
refusal_shown text e (inl m) =
    subst (λ (x : Refusal). MayEndReduction text (status_of (refusal_of x)) [] (reduce_message (refusal_of x))) (sym m)
    (record { shown = inr (inl ((λ f. f), (refl, refl, refl, inl (refl, refl)))); tells = refusal_tells spec.OutOfMemory (Ok (record { claim = false; file = None })) (Ended text) (run_with 4 [] (reduce_message spec.OutOfMemory)) refl })
refusal_shown text e (inr h) = record {
  shown = inl (reduce_refused (refusal_of e), (Err (refusal_of e), prints text (Err (refusal_of e)) h, refl), (refl, refl, refl, inl (refl, refl)));
  tells = refusal_tells (refusal_of e) (Ok (record { claim = false; file = None })) (Ended text) (run_with (status_of (refusal_of e)) [] (reduce_message (refusal_of e))) refl;
}

module _ (text : List ℕ) (code : RefusalCode) (old new : List ℕ) (count status : ℕ) where
  pub reduction_handed : (out : List ℕ) → ReducesText text (Ok out) → code ≡ code_for None → Delivers 0 out old new count status → HandsReduction text code old new count status
  reduction_handed out h none d = record {
    text = out;
    ended = 0;
    reason = None;
    shown = record { shown = inl (printed out 0, (Ok out, prints text (Ok out) h, refl), (refl, refl, refl, inl (refl, refl))); tells = tells text out h };
    coded = none;
    delivered = d;
  }

  pub refusal_handed : (e : Refusal) → Refuses (ReducesText text) e → code ≡ code_for (Some (refusal_of e)) → (n : ℕ) → n ≡ status_of (refusal_of e) → Delivers n [] old new count status → HandsReduction text code old new count status
  refusal_handed e h some n q d = record {
    text = [];
    ended = n;
    reason = Some (refusal_of e);
    shown = subst (λ (m : ℕ). MayEndReduction text m [] (reduce_message (refusal_of e))) (sym q) (refusal_shown text e h);
    coded = some;
    delivered = d;
  }
