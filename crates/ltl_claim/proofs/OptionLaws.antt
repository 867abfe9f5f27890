-- The guard of an `else`, option by option.
use Rattle.std.proofs.Common.{◌≡◌, ◌∙◌, ℕ, ◌+◌, ◌<◌, ◌≤◌, Bool, true, false, List, [], ◌∷◌, ◌++◌, map, length, take, get_or, refl, sym, ap, subst}
use Rattle.std.specs.Prelude.{flat_map}
use Rattle.std.proofs.lemmas.List.{append-nil, map_more, take_all}
use Rattle.std.proofs.lemmas.List.Sums.{fold-append}
use Rattle.std.proofs.lemmas.Grind.{flat_map-append}
use Rattle.ltl_spec.specs.Semantics.Word.{Name}
use Rattle.ltl_spec.specs.Claims.ClaimProgram.{Guard, First, Test, Check, Both, Otherwise, Leaps, Constant, Not, Or, Program}
use Rattle.ltl_spec.specs.Claims.ClaimMeaning.{enabled, one_of}
use Rattle.ltl_claim.specs.declared.claim.GuardStep.{GuardStep}
use Rattle.ltl_claim.specs.declared.claim.GuardStep.TheVariants as step
use Rattle.ltl_claim.specs.ClaimView.{steps_of}
use Rattle.ltl_claim.specs.ProgramView.{OptionView, option_of}
use Rattle.ltl_claim.specs.ResolveView.{EnablesBy, Joins, otherwise_guard}

module _ (P : Program) (names : List Name) (gs : List Guard) (some more : Bool) (old mid : List GuardStep) where
  -- an option without a guard
  same_of : (f : First) → EnablesBy P names f old more mid → more ≡ false → Joins names gs some old → Joins names (gs ++ enabled P f) some mid
  same_of (Test g) e n j = cc
  same_of (Check g) e n j = cc
  same_of (Both g h) e n j = cc
  same_of (Leaps k) e n j = cc
  same_of Otherwise e n j = subst (λ hs. Joins names hs some mid) (sym (append-nil gs)) (subst (λ ss. Joins names gs some ss) (sym e.1) j)

  -- the first guard
  first_one : (g : Guard) (hs : List Guard) → mid ≡ old ++ steps_of names g → some ≡ false → Joins names hs some old → Joins names (hs ++ g ∷ []) true mid
  first_one g [] e n j = (refl, e ∙ ap (λ ss. ss ++ steps_of names g) j.1)
  first_one g (h ∷ hs) e n j = cc

  first_of : (f : First) → EnablesBy P names f old more mid → more ≡ true → some ≡ false → Joins names gs some old → Joins names (gs ++ enabled P f) true mid
  first_of (Test g) e m n j = first_one g gs e.1 n j
  first_of (Check g) e m n j = first_one (Constant true) gs e.1 n j
  first_of (Both g h) e m n j = first_one g gs e.1 n j
  first_of (Leaps k) e m n j = first_one (Constant true) gs e.1 n j
  first_of Otherwise e m n j = cc

  -- a guard more
  more_one : (g : Guard) (hs : List Guard) (new : List GuardStep) → mid ≡ old ++ steps_of names g → new ≡ mid ++ step.Or ∷ [] → some ≡ true → Joins names hs some old → Joins names (hs ++ g ∷ []) true new
  more_one g [] new e f n j = cc
  more_one g (h ∷ hs) new e f n j =
      (refl, f ∙ ap (λ ss. ss ++ step.Or ∷ []) (e ∙ ap (λ ss. ss ++ steps_of names g) j.1) ∙ ap (steps_of names) (sym (fold-append Or h hs (g ∷ []))))

  more_of : (f : First) (new : List GuardStep) → EnablesBy P names f old more mid → more ≡ true → new ≡ mid ++ step.Or ∷ [] → some ≡ true → Joins names gs some old
      → Joins names (gs ++ enabled P f) true new
  more_of (Test g) new e m f n j = more_one g gs new e.1 f n j
  more_of (Check g) new e m f n j = more_one (Constant true) gs new e.1 f n j
  more_of (Both g h) new e m f n j = more_one g gs new e.1 f n j
  more_of (Leaps k) new e m f n j = more_one (Constant true) gs new e.1 f n j
  more_of Otherwise new e m f n j = cc

-- the same, of an option of the code
module _ (P : Program) (names : List Name) (o : OptionView) (some more : Bool) (old mid : List GuardStep) (e : EnablesBy P names (option_of o).first old more mid) where
  pub joins_same : (gs : List Guard) → more ≡ false → Joins names gs some old → Joins names (gs ++ enabled P (option_of o).first) some mid
  joins_same gs n j = same_of P names gs some more old mid (option_of o).first e n j

  pub joins_first : (gs : List Guard) → more ≡ true → some ≡ false → Joins names gs some old → Joins names (gs ++ enabled P (option_of o).first) true mid
  joins_first gs m n j = first_of P names gs some more old mid (option_of o).first e m n j

  pub joins_more : (gs : List Guard) (new : List GuardStep) → more ≡ true → some ≡ true → new ≡ mid ++ step.Or ∷ [] → Joins names gs some old → Joins names (gs ++ enabled P (option_of o).first) true new
  joins_more gs new m n f j = more_of P names gs some more old mid (option_of o).first new e m f n j

-- ---- option by option

abbrev pub guards_in : Program → List OptionView → List Guard
guards_in P os = flat_map (λ o. enabled P o.first) (map option_of os)

pub record JoinsTo (P : Program) (names : List Name) (os : List OptionView) (some : Bool) (steps : List GuardStep) : Type 0 where
  pub are : Joins names (guards_in P os) some steps

pub joins_next : (P : Program) (names : List Name) (os : List OptionView) (i : ℕ) (o : OptionView) (some now : Bool) (old new : List GuardStep) → o ≡ get_or os i o → i < length os
    → ((gs : List Guard) → Joins names gs some old → Joins names (gs ++ enabled P (option_of o).first) now new) → JoinsTo P names (take i os) some old → JoinsTo P names (take (i + 1) os) now new
joins_next P names os i o some now old new is l put j = record { are = subst (λ gs. Joins names gs now new) (sym one_more) (put (guards_in P (take i os)) j.are) }
  where
    one_more : guards_in P (take (i + 1) os) ≡ guards_in P (take i os) ++ enabled P (option_of o).first
    one_more =
        ap (flat_map (λ o. enabled P o.first)) (map_more option_of os i o l) ∙ flat_map-append (λ o. enabled P o.first) (map option_of (take i os)) (option_of (get_or os i o) ∷ [])
        ∙ ap (λ p. guards_in P (take i os) ++ (enabled P (option_of p).first ++ [])) (sym is)
        ∙ ap (λ gs. guards_in P (take i os) ++ gs) (append-nil (enabled P (option_of o).first))

module _ (P : Program) (names : List Name) where
  none_of : (gs : List Guard) (some : Bool) (old mid new : List GuardStep) → Joins names gs some old → some ≡ false → mid ≡ old ++ step.Constant false ∷ [] → new ≡ mid ++ step.Not ∷ [] → new ≡ steps_of names (Not (one_of P gs))
  none_of [] some old mid new j n e f = f ∙ ap (λ ss. ss ++ step.Not ∷ []) (e ∙ ap (λ ss. ss ++ step.Constant false ∷ []) j.1)
  none_of (g ∷ gs) some old mid new j n e f = cc

  some_of : (gs : List Guard) (some : Bool) (old new : List GuardStep) → Joins names gs some old → some ≡ true → new ≡ old ++ step.Not ∷ [] → new ≡ steps_of names (Not (one_of P gs))
  some_of [] some old new j n f = cc
  some_of (g ∷ gs) some old new j n f = f ∙ ap (λ ss. ss ++ step.Not ∷ []) j.1

  -- the guard of the `else`, where no option has a guard, and where one has
  pub joined_none : (os : List OptionView) (i : ℕ) (some : Bool) (old mid new : List GuardStep) → JoinsTo P names (take i os) some old → length os ≤ i → some ≡ false → mid ≡ old ++ step.Constant false ∷ []
      → new ≡ mid ++ step.Not ∷ [] → new ≡ steps_of names (otherwise_guard P (map option_of os))
  joined_none os i some old mid new j l n e f = none_of (guards_in P os) some old mid new (subst (λ ps. Joins names (guards_in P ps) some old) (take_all i os l) j.are) n e f

  pub joined_some : (os : List OptionView) (i : ℕ) (some : Bool) (old new : List GuardStep) → JoinsTo P names (take i os) some old → length os ≤ i → some ≡ true → new ≡ old ++ step.Not ∷ []
      → new ≡ steps_of names (otherwise_guard P (map option_of os))
  joined_some os i some old new j l n f = some_of (guards_in P os) some old new (subst (λ ps. Joins names (guards_in P ps) some old) (take_all i os l) j.are) n f
