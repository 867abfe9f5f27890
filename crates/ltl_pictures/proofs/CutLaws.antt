-- Where a name is cut, and its text.
use Rattle.std.proofs.Common.{◌≡◌, ◌∙◌, ap, refl, subst, sym, ℕ, zero, suc, ◌<◌, ◌≤◌, Bool, true, false, List, ◌++◌, length, slice_index_or, take, arith}
use Rattle.std.specs.Prelude.{codes, flat_map, if◌then◌else◌}
use Rattle.std.proofs.lemmas.Bool.Decides.{nat_tests}
use Rattle.std.proofs.lemmas.List.Concat.{flat_map-append}
use Rattle.ltl_pictures.specs.NameText.{character_start, is_continuation, name_text, shortened, shown_byte}

-- ---- the first byte of a character

module _ (text : List ℕ) where
  pub start_at_zero : character_start text 0 ≡ 0
  unfolding character_start
  start_at_zero = refl

  start_next : (k : ℕ) → character_start text (suc k) ≡ (if is_continuation (slice_index_or text (suc k) 0) then character_start text k else suc k)
  unfolding character_start
  start_next k = refl

  pub start_moves : (n k : ℕ) → n ≡ suc k → is_continuation (slice_index_or text n 0) ≡ true → character_start text k ≡ character_start text n
  start_moves n k e t =
      let moves = rw e at t in
      ap (λ (b : Bool). if b then character_start text k else suc k) (sym moves) ∙ sym (start_next k) ∙ ap (character_start text) (sym e)

  pub start_stays : (k : ℕ) → is_continuation (slice_index_or text k 0) ≡ false → k ≡ character_start text k
  start_stays zero e = sym start_at_zero
  start_stays (suc k) e = sym (start_next k ∙ ap (λ (b : Bool). if b then character_start text k else suc k) e)

  pub start_within : (k : ℕ) → character_start text k ≤ k
  start_within zero = let e = start_at_zero in omega (arith, e)
  start_within (suc k) = subst (λ n. n ≤ suc k) (sym (start_next k)) (by_test (is_continuation (slice_index_or text (suc k) 0)) (start_within k))
    where
      by_test : (b : Bool) → character_start text k ≤ k → (if b then character_start text k else suc k) ≤ suc k
      by_test true l = omega (arith, l)
      by_test false l = omega arith

-- ---- the text of a name

is_cut : (name : List ℕ) → 80 < length name → shortened name ≡ take (character_start name 77) name ++ codes "..."
is_cut name lt = grind (arith, nat_tests)

pub cut_text : (name front : List ℕ) → 80 < length name → front ≡ take (character_start name 77) name → name_text name ≡ flat_map shown_byte front ++ codes "..."
cut_text name front lt e = ap (flat_map shown_byte) (is_cut name lt ∙ ap (λ t. t ++ codes "...") (sym e)) ∙ flat_map-append shown_byte front (codes "...")
