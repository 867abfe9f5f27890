-- Words and their texts.
use Rattle.std.proofs.Common.{◌≡◌, ◌∙◌, ap, sym, refl, subst, ℕ, suc, ◌<◌, ◌≤◌, arith, inl, inr, List, [], ◌∷◌, ◌++◌, length, map, drop, Option, Some, None}
use Rattle.std.specs.Prelude.{◌↔◌, IsTrue, flat_map, slice_get, slice_index_or}
use Rattle.std.specs.List.{AllByRecursion, list_all}
use Rattle.std.proofs.lemmas.List.{take-append-drop}
use Rattle.ltl_spec.specs.Collections.Sets.{Has}
use Rattle.ltl_spec.specs.Formulas.Formula.{Formula}
use Rattle.ltl_spec.specs.Formulas.Names.{is_proposition, unified}
use Rattle.ltl_spec.specs.Formulas.Tokens.{same_name}
use Rattle.ltl_spec.specs.Semantics.Word.{Name, Lasso, IsLasso}
use Rattle.ltl_spec.specs.Semantics.Satisfaction.{Satisfies}
use Rattle.ltl_spec.specs.Tools.Limits.{stated_limits}
use Rattle.ltl_spec.specs.Words.LassoText.{IsBadWord, IsLassoText, IsLeastForm, StopsAt, HasTooManyNames, lasso_text, names_in}
use Rattle.ltl_spec.proofs.Checking.UnifiedLaws.{HasNoRepeats-unified}
use Rattle.ltl_spec.proofs.Collections.ListLaws.{Has-at, first_occurrences_cases}
use Rattle.ltl_spec.proofs.Collections.MemberLaws.{all_Decides, map_cases}
use Rattle.ltl_spec.proofs.Collections.SetLaws.{all_at, append_cases}
use Rattle.ltl_spec.proofs.Formulas.NameLaws.{same_name_Decides}
use Rattle.ltl_spec.proofs.Words.LassoTextLaws.{one_word}
use Rattle.ltl_spec.proofs.Words.SameWordLaws.{satisfies_same}
use Rattle.ltl_spec.proofs.Tools.WordNames.{same_sets}
use Rattle.ltl_word.specs.declared.fault.WordFault.{WordFault}
use Rattle.ltl_word.specs.declared.fault.WordFault.TheVariants as fault
use Rattle.ltl_word.specs.declared.limits.TheConstants.{NAME_LIMIT, TEXT_LIMIT}
use Rattle.ltl_word.specs.LassoView.{letter_of, lasso_of, IsMade}
use Rattle.ltl_word.specs.ReadText.{IsReadAs, IsRefusedFor, IsSpelled}
use Rattle.ltl_word.proofs.LetterLaws.{whole_letters}
use Rattle.ltl_word.proofs.LeastRows.{is_lasso}
use Rattle.ltl_word.proofs.NameLaws.{shorter}

module _ (names : List Name) (rows : List (List ℕ)) (stem : ℕ) (made : IsMade names rows stem) where
  proper : IsTrue (list_all (λ a. list_all is_proposition a) ((lasso_of names rows stem).stem ++ (lasso_of names rows stem).cycle))
  proper = (all_Decides (λ a. list_all is_proposition a) ((lasso_of names rows stem).stem ++ (lasso_of names rows stem).cycle)).1 (λ a h.
      let w = map_cases (letter_of names) rows a (subst (λ ls. Has ls a) (whole_letters names rows stem) h) in
      ap (list_all is_proposition) w.2 ∙ (all_Decides (λ places. list_all is_proposition (letter_of names places)) rows).0 made.propositions w.0 w.1)

  own_text : IsLassoText (lasso_text (lasso_of names rows stem)) (lasso_of names rows stem)
  own_text = record {
    written = lasso_of names rows stem;
    propositions = proper;
    cycles = (is_lasso names rows stem made).cycles;
    spelled = refl;
    read = sym (same_sets (lasso_of names rows stem) (is_lasso names rows stem made));
  }

  -- what is promised of the word
  pub word_is : (w : Lasso) → lasso_of names rows stem ≡ w → IsLasso w
  word_is w e = subst IsLasso e (is_lasso names rows stem made)

  pub spelled_is : (w : Lasso) → lasso_of names rows stem ≡ w → IsSpelled w
  spelled_is w e = subst IsSpelled e (record { propositions = proper; cycles = (is_lasso names rows stem made).cycles })

  letter_names : (ls : List (List ℕ)) → AllByRecursion (AllByRecursion (λ i. i < length names)) ls → (z : Name) → Has (flat_map (λ a. a) (map (letter_of names) ls)) z → Has names z
  letter_names [] within z h = absurd h
  letter_names (places ∷ ls) within z h = elim (append_cases (letter_of names places) (flat_map (λ a. a) (map (letter_of names) ls)) z h) [
    | inl k ↦ let (i, m, e) = map_cases (λ i. slice_index_or names i []) places z k in
        subst (Has names) (sym e) (Has-at names i [] (all_at (λ i. i < length names) places i within.0 m))
    | inr k ↦ letter_names ls within.1 z k
  ]

  own_names : (z : Name) → Has (names_in (lasso_of names rows stem)) z → Has names z
  own_names z h = letter_names rows made.within z (subst (λ ls. Has (flat_map (λ a. a) ls) z) (whole_letters names rows stem) h)

  pub few_is : (w : Lasso) → lasso_of names rows stem ≡ w → ¬ (HasTooManyNames stated_limits.propositions [] w)
  few_is w e many =
      let l = shorter (unified [] (names_in w)) names (HasNoRepeats-unified [] (names_in w))
      (λ z h. own_names z (subst (λ v. Has (names_in v) z) (sym e) (first_occurrences_cases same_name same_name_Decides (names_in w) z h))) in
      let m = made.few in
      omega (arith, l, m, many)

  pub read_back : (w : Lasso) → lasso_of names rows stem ≡ w → (others : List Name) → length (lasso_text w) ≤ TEXT_LIMIT → ¬ (HasTooManyNames NAME_LIMIT others w) → IsReadAs others (lasso_text w) w
  read_back w e others l few = (l, subst (λ v. IsLassoText (lasso_text v) v) e own_text, few)

pub read_once : (names : List Name) (text : List ℕ) (v w : Lasso) → IsReadAs names text v → IsReadAs names text w → v ≡ w
read_once names text v w g h = one_word text v w g.1 h.1

-- a word's text has no fault
never_bad : (text : List ℕ) (w : Lasso) (place : ℕ) → IsLassoText text w → ¬ (IsBadWord text place)
never_bad text w place t bad = stopped (slice_get text place) bad.stops
  where
    stopped : (o : Option ℕ) → StopsAt text place o → ⊥
    stopped (Some byte) s = s (drop (suc place) text, w, subst (λ bytes. IsLassoText bytes w) (sym (take-append-drop (suc place) text)) t)
    stopped None s = s.1 w t

pub refused_alone : (names : List Name) (text : List ℕ) (w : Lasso) (f : WordFault) → IsReadAs names text w → IsRefusedFor names text f → f ≡ fault.OutOfMemory
refused_alone names text w fault.TooLong h r = let l = h.0 in absurd (omega (arith, l, r))
refused_alone names text w (fault.BadWord place) h r = absurd (never_bad text w place h.1 r.1)
refused_alone names text w fault.TooManyPropositions h (l, (v, t, many)) = absurd (h.2 (subst (HasTooManyNames NAME_LIMIT names) (one_word text v w t h.1) many))
refused_alone names text w fault.OutOfMemory h r = refl

pub least_truth : (u v : Lasso) → IsLeastForm u v → (names : List Name) (F : Formula) → Satisfies names u 0 F ↔ Satisfies names v 0 F
least_truth u v h names F = satisfies_same names u v h.same F
