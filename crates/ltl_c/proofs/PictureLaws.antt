-- From the picture of a text to what a call hands over.
use Rattle.std.proofs.Common.{◌≡◌, ap, sym, subst, refl, inl, inr, ℕ, List, [], Some, None}
use Rattle.std.specs.Prelude.{Result, Ok, Err, MatchResult}
use Rattle.ltl_spec.specs.Tools.Outcome.{Ended, printed}
use Rattle.ltl_spec.specs.Tools.Refusal as spec
use Rattle.ltl_spec.specs.Tools.Refusal.{status_of}
use Rattle.ltl_cli.specs.Refusals.{TakesStep, refusal_of}
use Rattle.ltl_cli.specs.declared.refusal.Refusal.{Refusal}
use Rattle.ltl_cli.specs.declared.refusal.Refusal.TheVariants.{OutOfMemory}
use Rattle.ltl_pictures.specs.DotText.{dot_text}
use Rattle.ltl_pictures.specs.NamedAutomaton.{NamedAutomaton}
use Rattle.ltl_draw.specs.Messages.{draw_message}
use Rattle.ltl_draw.specs.Plans.{Picture}
use Rattle.ltl_draw.specs.Runs.{Prints, ReadsNamedText, draw_refused}
use Rattle.ltl_c.specs.declared.refusal_code.RefusalCode.{RefusalCode}
use Rattle.ltl_c.specs.Calls.{Delivers}
use Rattle.ltl_c.specs.Codes.{code_for}
use Rattle.ltl_c.specs.Pictures.{DrawsText, HandsPicture, MayEndDrawing}
use Rattle.ltl_c.proofs.StepLaws.{Refuses, first_refused}

-- the program prints the picture of the text in its input
prints : (text : List ℕ) (r : Result (List ℕ) spec.Refusal) → DrawsText text r → Prints (Picture None) (Ended text) r
prints text r (inl (e, h, q)) = inl (e, inr (text, refl, h), q)
prints text r (inr (N, h, q)) = inr (N, inr (text, refl, h), q)

-- ---- steps

-- the text isn't read
pub unread_drawn : (text : List ℕ) (e : Refusal) → Refuses (ReadsNamedText text) e → Refuses (DrawsText text) e
unread_drawn text e h = first_refused (ReadsNamedText text) (λ N r. r ≡ Ok (dot_text N)) e h

-- it is read, and its picture is made, or memory ran out
pub read_drawn : (text : List ℕ) (N : NamedAutomaton) → ReadsNamedText text (Ok N) → {V : Type 0} (items : V → List ℕ) (r : Result V Refusal) → MatchResult r (λ v. items v ≡ dot_text N) (λ e. e ≡ OutOfMemory)
    → TakesStep (DrawsText text) items r
read_drawn text N h items (Ok v) q = inr (N, h, ap Ok q)
read_drawn text N h items (Err e) q = inl q

-- ---- what the call hands over

refusal_shown : (text : List ℕ) (e : Refusal) → Refuses (DrawsText text) e → MayEndDrawing text (status_of (refusal_of e)) [] (draw_message (refusal_of e))
refusal_shown text e (inl m) =
    subst (λ (x : Refusal). MayEndDrawing text (status_of (refusal_of x)) [] (draw_message (refusal_of x))) (sym m) (inr (inl ((λ f. f), (refl, refl, refl, inl (refl, refl)))))
refusal_shown text e (inr h) = inl (draw_refused (refusal_of e), (Err (refusal_of e), prints text (Err (refusal_of e)) h, refl), (refl, refl, refl, inl (refl, refl)))

module _ (text : List ℕ) (code : RefusalCode) (old new : List ℕ) (count status : ℕ) where
  pub picture_handed : (picture : List ℕ) → DrawsText text (Ok picture) → code ≡ code_for None → Delivers 0 picture old new count status → HandsPicture text code old new count status
  picture_handed picture h none d = record {
    picture = picture;
    ended = 0;
    reason = None;
    shown = inl (printed picture 0, (Ok picture, prints text (Ok picture) h, refl), (refl, refl, refl, inl (refl, refl)));
    coded = none;
    delivered = d;
  }

  pub refusal_handed : (e : Refusal) → Refuses (DrawsText text) e → code ≡ code_for (Some (refusal_of e)) → (n : ℕ) → n ≡ status_of (refusal_of e) → Delivers n [] old new count status → HandsPicture text code old new count status
  refusal_handed e h some n q d = record {
    picture = [];
    ended = n;
    reason = Some (refusal_of e);
    shown = subst (λ (m : ℕ). MayEndDrawing text m [] (draw_message (refusal_of e))) (sym q) (refusal_shown text e h);
    coded = some;
    delivered = d;
  }
