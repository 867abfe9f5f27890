-- The subformulas of a formula, and the rows of its table.
use Rattle.std.proofs.Common.{◌≡◌, ℕ, ◌<◌, true, ◌||◌, ◌⊎◌, inl, inr, [], ◌∷◌, ◌++◌, length, refl, sym, ap, subst}
use Rattle.std.specs.Prelude.{slice_index_or}
use Rattle.std.proofs.lemmas.Bool.{cases_lt, or_right}
use Rattle.std.proofs.lemmas.List.{get_or_past}
use Rattle.ltl_spec.specs.Collections.Sets.{Has}
use Rattle.ltl_spec.specs.Collections.Lists.{place_of}
use Rattle.ltl_spec.specs.NormalForms.Normal.{Normal, Top, Bottom, Leaf, Next, And, Or, Until, Release, same}
use Rattle.ltl_spec.specs.NormalForms.NormalForm.{is_elementary, is_until, postorder, rows, elementary_rows, until_rows}
use Rattle.ltl_spec.specs.Transitions.RowTransitions.{table_of, place}
use Rattle.ltl_spec.proofs.Collections.SetLaws.{append_cases, append_left, append_right, filter_cases, Has-filter}
use Rattle.ltl_spec.proofs.Collections.ListLaws.{Has-first_occurrences, first_occurrences_cases, place_below, at_place, Has-at}
use Rattle.ltl_spec.proofs.NormalForms.NormalLaws.{same_Decides, same_refl}
use Rattle.ltl_spec.proofs.NormalForms.RowsCollected.{postorder_self}

-- each subformula has the property
abbrev pub AllParts : (Normal → Type 0) → Normal → Type 0
AllParts P Top = P Top
AllParts P Bottom = P Bottom
AllParts P (Leaf l) = P (Leaf l)
AllParts P (Next a) = AllParts P a × P (Next a)
AllParts P (And a b) = AllParts P a × AllParts P b × P (And a b)
AllParts P (Or a b) = AllParts P a × AllParts P b × P (Or a b)
AllParts P (Until a b) = AllParts P a × AllParts P b × P (Until a b)
AllParts P (Release a b) = AllParts P a × AllParts P b × P (Release a b)

-- the parts of each operand are parts
from_left : (a b n x : Normal) → Has (postorder a) x → Has (postorder a ++ postorder b ++ n ∷ []) x
from_left a b n x h = append_left (postorder a ++ postorder b) (n ∷ []) x (append_left (postorder a) (postorder b) x h)

from_right : (a b n x : Normal) → Has (postorder b) x → Has (postorder a ++ postorder b ++ n ∷ []) x
from_right a b n x h = append_left (postorder a ++ postorder b) (n ∷ []) x (append_right (postorder a) (postorder b) x h)

-- the node is a part
from_both : (a b n : Normal) → Has (postorder a ++ postorder b ++ n ∷ []) n
from_both a b n = append_right (postorder a ++ postorder b) (n ∷ []) n (inl refl)

module _ (P : Normal → Type 0) where
  -- a node of two operands
  both_parts : (a b n : Normal) → (((x : Normal) → Has (postorder a) x → P x) → AllParts P a) → (((x : Normal) → Has (postorder b) x → P x) → AllParts P b) →
      ((x : Normal) → Has (postorder a ++ postorder b ++ n ∷ []) x → P x) → AllParts P a × AllParts P b × P n
  both_parts a b n f g h = (f (λ x k. h x (from_left a b n x k)), g (λ x k. h x (from_right a b n x k)), h n (from_both a b n))

  -- what holds of all that stand in the list of subformulas
  pub all_parts : (F : Normal) → ((a : Normal) → Has (postorder F) a → P a) → AllParts P F
  all_parts Top f = f Top (inl refl)
  all_parts Bottom f = f Bottom (inl refl)
  all_parts (Leaf l) f = f (Leaf l) (inl refl)
  all_parts (Next a) f = (all_parts a (λ x h. f x (append_left (postorder a) (Next a ∷ []) x h)), f (Next a) (postorder_self (Next a)))
  all_parts (And a b) f = both_parts a b (And a b) (all_parts a) (all_parts b) f
  all_parts (Or a b) f = both_parts a b (Or a b) (all_parts a) (all_parts b) f
  all_parts (Until a b) f = both_parts a b (Until a b) (all_parts a) (all_parts b) f
  all_parts (Release a b) f = both_parts a b (Release a b) (all_parts a) (all_parts b) f

  -- the parts of a part are parts
  single_part : (F n x : Normal) → AllParts P n → Has (n ∷ []) x → AllParts P x
  single_part F n x w (inl e) = subst (AllParts P) (sym e) w
  single_part F n x w (inr z) = absurd z

  -- the parts of a part have the property
  pub part_parts : (F x : Normal) → AllParts P F → Has (postorder F) x → AllParts P x
  part_parts Top x w h = single_part Top Top x w h
  part_parts Bottom x w h = single_part Bottom Bottom x w h
  part_parts (Leaf l) x w h = single_part (Leaf l) (Leaf l) x w h
  part_parts (Next a) x w h = elim (append_cases (postorder a) (Next a ∷ []) x h) [ inl k ↦ part_parts a x w.0 k | inr k ↦ single_part (Next a) (Next a) x w k ]
  part_parts (And a b) x w h = elim (append_cases (postorder a ++ postorder b) (And a b ∷ []) x h) [
    | inl m ↦ elim (append_cases (postorder a) (postorder b) x m) [ inl k ↦ part_parts a x w.0 k | inr k ↦ part_parts b x w.1 k ]
    | inr k ↦ single_part (And a b) (And a b) x w k
  ]
  part_parts (Or a b) x w h = elim (append_cases (postorder a ++ postorder b) (Or a b ∷ []) x h) [
    | inl m ↦ elim (append_cases (postorder a) (postorder b) x m) [ inl k ↦ part_parts a x w.0 k | inr k ↦ part_parts b x w.1 k ]
    | inr k ↦ single_part (Or a b) (Or a b) x w k
  ]
  part_parts (Until a b) x w h = elim (append_cases (postorder a ++ postorder b) (Until a b ∷ []) x h) [
    | inl m ↦ elim (append_cases (postorder a) (postorder b) x m) [ inl k ↦ part_parts a x w.0 k | inr k ↦ part_parts b x w.1 k ]
    | inr k ↦ single_part (Until a b) (Until a b) x w k
  ]
  part_parts (Release a b) x w h = elim (append_cases (postorder a ++ postorder b) (Release a b ∷ []) x h) [
    | inl m ↦ elim (append_cases (postorder a) (postorder b) x m) [ inl k ↦ part_parts a x w.0 k | inr k ↦ part_parts b x w.1 k ]
    | inr k ↦ single_part (Release a b) (Release a b) x w k
  ]

module _ (core : Normal) where
  -- one of the rows of the formula
  abbrev pub IsRow : Normal → Type 0
  IsRow a = Has (rows core) a

  -- the elementary row at a place
  abbrev pub row_of : ℕ → Normal
  row_of k = slice_index_or (elementary_rows core) k Bottom

  -- all subformulas are rows
  pub all_rows : AllParts IsRow core
  all_rows = all_parts IsRow core (λ a h. Has-first_occurrences same same_Decides (postorder core) a h)

  -- an elementary row stands in the table
  pub elementary_has : (a : Normal) → IsRow a → is_elementary a ≡ true → Has (elementary_rows core) a
  elementary_has a h e = Has-filter (λ x. is_elementary x || same x core) (rows core) a h (ap (λ b. b || same a core) e)

  -- and so does the root
  pub core_has : Has (elementary_rows core) core
  core_has =
      Has-filter (λ x. is_elementary x || same x core) (rows core) core (Has-first_occurrences same same_Decides (postorder core) core (postorder_self core))
      (or_right (is_elementary core) (same core core) (same_refl core))

  -- an elementary row and the root stand at their places
  pub row_at_place : (a : Normal) → Has (elementary_rows core) a → row_of (place (table_of core) a) ≡ a
  row_at_place a h = at_place same same_Decides a (elementary_rows core) Bottom h

  -- all parts of what stands at a place are rows, unless nothing stands there
  pub row_parts : (k : ℕ) → (row_of k ≡ Bottom) ⊎ AllParts IsRow (row_of k)
  row_parts k = elim (cases_lt k (length (elementary_rows core))) [
    | inl l ↦ inr (part_parts IsRow core (row_of k) all_rows (first_occurrences_cases same same_Decides (postorder core) (row_of k) (filter_cases _ (rows core) (row_of k) (Has-at (elementary_rows core) k Bottom l)).0))
    | inr l ↦ inl (get_or_past (elementary_rows core) k Bottom l)
  ]

  -- an until row has a place among the until rows
  pub until_place : (a b : Normal) → IsRow (Until a b) → (f : ℕ) × (f < length (until_rows core)) × ((d : Normal) → slice_index_or (until_rows core) f d ≡ Until a b)
  until_place a b h =
      let k = Has-filter is_until (rows core) (Until a b) h refl in
      (place_of same (Until a b) (until_rows core), place_below same same_Decides (Until a b) (until_rows core) k, λ d. at_place same same_Decides (Until a b) (until_rows core) d k)
