-- A claim that the translator prints is read as one that accepts the models of the formula.
use Rattle.std.proofs.Common.{◌≡◌, ℕ, ◌+◌, ◌*◌, ◌^◌, ◌<◌, ◌≤◌, Bool, true, false, cond, inl, inr, List, length, sym, subst, arith}
use Rattle.std.specs.Prelude.{slice_index, ◌==◌}
use Rattle.std.specs.List.{list_all}
use Rattle.std.specs.Ordering.{nat_cmp}
use Rattle.std.proofs.lemmas.Bool.{cases_lt}
use Rattle.ltl_spec.specs.Collections.Sets.{set_of}
use Rattle.ltl_spec.specs.Collections.Lists.{place_of}
use Rattle.ltl_spec.specs.Semantics.Language.{AcceptsModels}
use Rattle.ltl_spec.specs.Formulas.Formula.{Reading}
use Rattle.ltl_spec.specs.Formulas.Grammar.{IsTextOf}
use Rattle.ltl_spec.specs.Formulas.Tokens.{tokens}
use Rattle.ltl_spec.specs.Formulas.Names.{is_proposition, IsNameWord}
use Rattle.ltl_spec.specs.NormalForms.Normal.{Normal}
use Rattle.ltl_spec.specs.NormalForms.NormalForm.{core}
use Rattle.ltl_spec.specs.Automata.Automaton.{Automaton, state_at}
use Rattle.ltl_spec.specs.Automata.Listing.{listing}
use Rattle.ltl_spec.specs.Automata.Net.{state_in, targets_of}
use Rattle.ltl_spec.specs.Automata.ClaimText.{never_text}
use Rattle.ltl_spec.specs.Construction.Levels.{same_level_state, start_copy, level_net, level_automaton}
use Rattle.ltl_spec.specs.Construction.Merging.{retargeted_state, without_implied, class_names, merged_automaton}
use Rattle.ltl_spec.specs.Construction.Translation.{Options, buchi_automaton, IsTranslation, IsTranslationTooLarge}
use Rattle.ltl_spec.specs.Checking.Bounds.{HasLeavesBelow}
use Rattle.ltl_spec.specs.Claims.ClaimTokens.{HasNoPromelaWord}
use Rattle.ltl_spec.specs.Claims.ClaimMeaning.{IsClaimOfModels}
use Rattle.ltl_spec.proofs.Collections.MemberLaws.{map_length, all_Decides}
use Rattle.ltl_spec.proofs.Collections.SumLaws.{set_of_length}
use Rattle.ltl_spec.proofs.Collections.SetLaws.{all_at}
use Rattle.ltl_spec.proofs.Formulas.CanonicalLaws.{named_by_text}
use Rattle.ltl_spec.proofs.Formulas.NameLaws.{word_proposition}
use Rattle.ltl_spec.proofs.Construction.EdgeBounds.{renumbered_few}
use Rattle.ltl_spec.proofs.Construction.RoundLaws.{names_length}
use Rattle.ltl_spec.proofs.Construction.MergingRuns.{merged_closed}
use Rattle.ltl_spec.proofs.Construction.LevelRuns.{levels_closed}
use Rattle.ltl_spec.proofs.Semantics.GeneralizedLaws.{generalized_closed}
use Rattle.ltl_spec.proofs.Checking.BelowLaws.{core_below, parsed_below, translation_is_buchi}
use Rattle.ltl_spec.proofs.Claims.ClaimBack.{printed_claim}

-- merging makes no more states
merged_few : (keep_implied keep_equal : Bool) (A : Automaton) → length (merged_automaton keep_implied keep_equal A).states ≤ length A.states
merged_few keep_implied keep_equal A =
    let names = class_names A (cond keep_equal 0 (length A.states)) in
    let classes = set_of nat_cmp names in
    let a = map_length (λ c. without_implied keep_implied (retargeted_state (λ (s : ℕ). place_of ◌==◌ (slice_index names s) classes) (state_at A c))) classes in
    let b = set_of_length nat_cmp names in
    let c = names_length A (cond keep_equal 0 (length A.states)) in
    omega arith

-- a translation within the limits has no more states than these allow
translation_few : (N : Normal) (o : Options) (B : Automaton) (states edges : ℕ) → IsTranslation N o B → ¬ (IsTranslationTooLarge N o states edges) → length B.states ≤ states
translation_few N o B states edges (G, g, e) fits =
    let small = merged_automaton o.keep_implied o.keep_equal G in
    let leveled = level_automaton small in
    let smaller = merged_automaton o.keep_implied o.keep_equal leveled in
    let steps = length small.states * (small.sets + 1) in
    let list = listing same_level_state (targets_of (level_net small)) start_copy steps in
    let small_closed = merged_closed G o.keep_implied o.keep_equal (generalized_closed N o.keep_implied G g) in
    let smaller_closed = merged_closed leveled o.keep_implied o.keep_equal (levels_closed small small_closed) in
    let few : length list ≤ states = elim (cases_lt states (length list)) [ inl l ↦ absurd (fits (inr (G, g, (steps, inl l)))) | inr l ↦ l ] in
    let a : length leveled.states ≡ length list = map_length (state_in same_level_state true (level_net small) list) list in
    let b : length smaller.states ≤ length leveled.states = merged_few o.keep_implied o.keep_equal leveled in
    let c : length (buchi_automaton o G).states ≤ length smaller.states = renumbered_few smaller smaller_closed in
    subst (λ (A : Automaton). length A.states ≤ states) (sym e) (omega arith)

-- the names of a formula that was read are propositions
names_proper : (text : List ℕ) (R : Reading) → IsTextOf text R → list_all is_proposition R.names ≡ true
names_proper text R reads = (all_Decides is_proposition R.names).1 (λ n h. word_proposition n (all_at IsNameWord R.names n (named_by_text text R reads).words h))

-- so the text of its claim is read, and the claim accepts exactly the models
pub printed_models_read : (text : List ℕ) (R : Reading) → IsTextOf text R → (rewrite : Bool) (N : Normal) → N ≡ core R.formula false rewrite → (o : Options) (B : Automaton) (states edges : ℕ)
    → IsTranslation N o B → ¬ (IsTranslationTooLarge N o states edges) → states < 2 ^ 64 → AcceptsModels B R.formula → HasNoPromelaWord R.names → IsClaimOfModels R (never_text B R)
printed_models_read text R reads rewrite N e o B states edges t fits small models free =
    let low = core_below (length R.names) R.formula false rewrite (parsed_below 5 (tokens text) R.formula reads.1) in
    let good = translation_is_buchi (length R.names) N o B t (subst (HasLeavesBelow (length R.names)) (sym e) low) in
    let few = translation_few N o B states edges t fits in
    let (P, q, same) = printed_claim B R good (let f = few in omega (arith, f, small)) (names_proper text R reads) free in
    (P, q, λ w cycles. let a = same w cycles in let m = models R.names w cycles in (λ h. m.0 (a.0 h), λ h. a.1 (m.1 h)))
