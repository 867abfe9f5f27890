-- The answer to what a reader holds, from the bytes that were read of it.
use Rattle.std.proofs.Common.{◌≡◌, ◌∙◌, ℕ, ◌+◌, ◌<◌, ◌≤◌, inl, inr, List, [], ◌++◌, length, length-append, Option, Some, None, refl, sym, ap, subst, arith, take}
use Rattle.std.specs.Prelude.{Result, Ok, Err, MatchResult, fold}
use Rattle.std.specs.Result.{IsErrAnd}
use Rattle.std.specs.Io.KnownBytes.{Consumes, IsAtEnd}
use Rattle.std.proofs.Math.Seq.{take-append_seam}
use Rattle.std.proofs.lemmas.List.{append-nil, take_all, take-append-le}
use Rattle.ltl_spec.specs.Claims.ClaimProgram.{Program}
use Rattle.ltl_claim.specs.declared.fault.ClaimFault.{ClaimFault}
use Rattle.ltl_claim.specs.declared.fault.ClaimFault.TheVariants.{At, CannotRead, OutOfMemory}
use Rattle.ltl_claim.specs.declared.fault.ClaimFaultKind.TheVariants as made
use Rattle.ltl_claim.specs.ClaimAnswer.{most_bytes, moved, place_of}
use Rattle.ltl_claim.specs.ClaimFault as fault
use Rattle.ltl_claim.specs.ClaimView.{Answers, ClaimView, IsFaultOf}
use Rattle.ltl_claim.specs.Reading.{AnswersHeld, IsInBounds, IsOfText, IsRead, PassesLimit, TakesText}
use Rattle.ltl_claim.proofs.ReadLaws.{long_answer}
use Rattle.ltl_claim.proofs.ResolveLaws.{answer_within}
use Rattle.ltl_claim.proofs.SoundLaws.{inside_or_past}

-- ---- a text that was read to its end

whole_answered : (old new : Option (List ℕ)) (bytes : List ℕ) (r : Result ClaimView ClaimFault) → Consumes old new bytes → IsAtEnd new → Answers bytes r → AnswersHeld old r
whole_answered None new bytes r c e a = (bytes, tt, a)
whole_answered (Some x) (Some y) bytes r c e a = (bytes, sym (c ∙ ap (λ w. bytes ++ w) e ∙ append-nil bytes), a)
whole_answered (Some x) None bytes r c e a = absurd c

takes_whole : (old new : Option (List ℕ)) (bytes : List ℕ) → length bytes ≤ most_bytes + 1 → Consumes old new bytes → IsAtEnd new → TakesText old new
takes_whole None new bytes l c e = tt
takes_whole (Some x) (Some y) bytes l c e =
    let same : x ≡ bytes = c ∙ ap (λ w. bytes ++ w) e ∙ append-nil bytes in
    subst (λ t. x ≡ t ++ y) (sym (take_all (most_bytes + 1) bytes l) ∙ ap (take (most_bytes + 1)) (sym same)) c
takes_whole (Some x) None bytes l c e = absurd c

-- ---- a text that is too long

past_fault : (x bytes y : List ℕ) → x ≡ bytes ++ y → most_bytes < length bytes → (line column : ℕ) → (line, column) ≡ place_of bytes most_bytes → Answers x (Err (At line column made.LimitPassed))
past_fault x bytes y c l line column p = subst (λ (a : Result Program fault.ClaimFault). IsFaultOf x a (At line column made.LimitPassed)) (sym (long_answer x more)) (p ∙ same, refl)
  where
    more : most_bytes < length x
    more = let e = ap length c in let f = length-append bytes y in omega (arith, e, f, l)

    same : place_of bytes most_bytes ≡ place_of x most_bytes
    same = ap (fold moved (1, 1)) (sym (ap (take most_bytes) c ∙ take-append-le most_bytes bytes y (omega (arith, l))))

past_answered : (old new : Option (List ℕ)) (bytes : List ℕ) (r : Result ClaimView ClaimFault) → Consumes old new bytes → most_bytes < length bytes → PassesLimit bytes r → Answers bytes r → AnswersHeld old r
past_answered None new bytes r c l p a = (bytes, tt, a)
past_answered (Some x) (Some y) bytes r c l p a = let (line, column, e, q) = p l in (x, refl, subst (λ (s : Result ClaimView ClaimFault). Answers x s) (sym e) (past_fault x bytes y c l line column q))
past_answered (Some x) None bytes r c l p a = absurd c

takes_past : (old new : Option (List ℕ)) (bytes : List ℕ) → length bytes ≡ most_bytes + 1 → Consumes old new bytes → TakesText old new
takes_past None new bytes l c = tt
takes_past (Some x) (Some y) bytes l c = subst (λ t. x ≡ t ++ y) (sym (take-append_seam bytes y) ∙ ap (λ n. take n (bytes ++ y)) l ∙ ap (take (most_bytes + 1)) (sym c)) c
takes_past (Some x) None bytes l c = absurd c

-- ---- what was read

module _ (old new : Option (List ℕ)) (bytes text : List ℕ) (h : IsRead old new bytes) (same : text ≡ bytes) (r : Result ClaimView ClaimFault) where
  pub held_answers : Answers text r → PassesLimit text r → AnswersHeld old r
  held_answers a p = elim (inside_or_past most_bytes (length bytes)) [
    | inl l ↦ past_answered old new bytes r h.taken l (subst (λ t. PassesLimit t r) same p) (subst (λ t. Answers t r) same a)
    | inr l ↦ whole_answered old new bytes r h.taken (h.whole l) (subst (λ t. Answers t r) same a)
  ]

  takes_text : TakesText old new
  takes_text = elim (inside_or_past most_bytes (length bytes)) [
    | inl l ↦ takes_past old new bytes (let f = h.few in omega (arith, l, f)) h.taken
    | inr l ↦ takes_whole old new bytes h.few h.taken (h.whole l)
  ]

  pub held_taken : MatchResult r (λ _. TakesText old new) (λ fault. IsOfText fault → TakesText old new)
  held_taken = go r
    where
      go : (s : Result ClaimView ClaimFault) → MatchResult s (λ _. TakesText old new) (λ fault. IsOfText fault → TakesText old new)
      go (Ok c) = takes_text
      go (Err e) = λ _. takes_text

-- ---- no text was read

module _ (r : Result ClaimView ClaimFault) (f : ClaimFault) (err : IsErrAnd r (λ e. e ≡ f)) (told : IsOfText f → ⊥) where
  pub source_answers : (known : Option (List ℕ)) → AnswersHeld known r
  source_answers known = go r err
    where
      held : (e : ClaimFault) → (IsOfText e → ⊥) → (known : Option (List ℕ)) → AnswersHeld known (Err e)
      held (At line column kind) t known = absurd (t tt)
      held CannotRead t None = ([], tt, tt)
      held CannotRead t (Some x) = (x, refl, tt)
      held OutOfMemory t None = ([], tt, tt)
      held OutOfMemory t (Some x) = (x, refl, tt)

      go : (s : Result ClaimView ClaimFault) → IsErrAnd s (λ e. e ≡ f) → AnswersHeld known s
      go (Ok c) e = absurd e
      go (Err x) e = held x (subst (λ y. IsOfText y → ⊥) (sym e) told) known

  pub source_taken : (P : Type 0) → MatchResult r (λ _. P) (λ fault. IsOfText fault → P)
  source_taken P = go r err
    where
      go : (s : Result ClaimView ClaimFault) → IsErrAnd s (λ e. e ≡ f) → MatchResult s (λ _. P) (λ fault. IsOfText fault → P)
      go (Ok c) e = absurd e
      go (Err x) e = λ t. absurd (told (subst IsOfText e t))

-- ---- bounds

pub held_within : (known : Option (List ℕ)) (r : Result ClaimView ClaimFault) → AnswersHeld known r → IsInBounds r
held_within known (Ok c) (text, k, a) = answer_within text c a
held_within known (Err e) h = tt
