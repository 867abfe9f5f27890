-- Searches among the candidates of a block, and of the blocks of an upper block.
use Rattle.std.proofs.Common.{◌≡◌, ℕ, ◌+◌, ◌*◌, ◌/◌, ◌%◌, ◌<◌, ◌≤◌, ◌⊎◌, inl, inr, Bool, true, false, List, [], ◌∷◌, Some, get_or, length, nat_lt, refl, sym, ◌∙◌, ap, subst, arith}
use Rattle.std.specs.Prelude.{slice_get}
use Rattle.std.specs.List.{list_any}
use Rattle.std.proofs.lemmas.Bool.Decides.{nat_tests}
use Rattle.std.proofs.lemmas.Option.{get_or_from_slice_get, slice_get_cases, slice_get_within}
use Rattle.ltl_spec.specs.Collections.Sets.{Has}
use Rattle.ltl_spec.proofs.Collections.CaseLaws.{right_true}
use Rattle.least.specs.Lookups.{is_above, is_found}
use Rattle.least.specs.Blocks.{AreBlocks, AreClear, AreUppers, BlockView, HasCandidates, lacks_common, needs_common, part_at}
use Rattle.least.proofs.HasLaws.{false_if}
use Rattle.least.proofs.BlockLaws.{candidate}
use Rattle.least.proofs.PartLaws.{any_at, none_any, part_got, part_past, parts_clear, true_false}

-- ---- candidates, one after another

-- each candidate was searched, or comes later
abbrev pub IsDoneBut : (ℕ → Type 0) → List ℕ → List ℕ → Type 0
IsDoneBut P all rest = (j : ℕ) → Has all j → Has rest j ⊎ P j

pub done_begins : (P : ℕ → Type 0) (all rest : List ℕ) → rest ≡ all → IsDoneBut P all rest
done_begins P all rest e j h = inl (subst (λ l. Has l j) (sym e) h)

pub done_step : (P : ℕ → Type 0) (all rest next : List ℕ) (e : ℕ) → rest ≡ e ∷ next → P e → IsDoneBut P all rest → IsDoneBut P all next
done_step P all rest next e is p f j h = elim (f j h) [ inl m ↦ by (subst (λ l. Has l j) is m) | inr q ↦ inr q ]
  where
    by : Has (e ∷ next) j → Has next j ⊎ P j
    by (inl s) = inr (subst P (sym s) p)
    by (inr m) = inl m

pub done_ends : (P : ℕ → Type 0) (all rest : List ℕ) → rest ≡ [] → IsDoneBut P all rest → (j : ℕ) → Has all j → P j
done_ends P all rest is f j h = elim (f j h) [ inl m ↦ absurd (subst (λ l. Has l j) is m) | inr q ↦ q ]

-- the item at this place doesn't pass
abbrev pub IsClearAt : {U : Type 0} → (U → Bool) → List U → ℕ → Type 0
IsClearAt {U} p us j = (u : U) → slice_get us j ≡ Some u → p u ≡ false

module _ {U : Type 0} (below counts : U → U → Bool) (needs asks : U → ℕ → List ℕ) (lacking : U → ℕ → ℕ → Bool)
    (needed : (a b : U) (k e : ℕ) → below a b ≡ true → Has (needs a k) e → Has (needs b k) e)
    (lacked : (a b : U) (k e : ℕ) → below a b ≡ true → Has (asks b k) e → lacking a k e ≡ false) (t : U) where
  abbrev p : U → Bool
  p = is_found below counts t

  pub block_clear : (us : List U) (bs : List BlockView) (n : ℕ) (b : BlockView) (all : List ℕ) → AreBlocks needs lacking us bs → slice_get bs n ≡ Some b → HasCandidates (needs t) (asks t) b all
      → ((j : ℕ) → Has all j → IsClearAt (is_found below counts t) (part_at n us) j) → false ≡ is_above below counts (part_at n us) t
  block_clear us bs n b all blocks g f clear = sym (none_any p (part_at n us) (λ j u e. false_if (p u) (λ h.
      let less : below u t ≡ true = right_true (counts u t) (below u t) h in
      true_false (p u) h
      (clear j (f j (candidate needs lacking (part_at n us) b (needs t) (asks t) j u (blocks.each n b g) (slice_get_within (part_at n us) j u e) e (λ k x m. needed u t k x less m) (λ k x m. lacked u t k x less m))) u e))))

  pub upper_clear : (us : List U) (bs : List BlockView) (s : ℕ) (b : BlockView) (all : List ℕ) → AreUppers needs us bs → slice_get bs s ≡ Some b → HasCandidates (needs t) (asks t) b all
      → ((x : ℕ) → Has all x → is_above below counts (part_at (256 * s + x) us) t ≡ false) → AreClear (is_found below counts t) us s
  upper_clear us bs s b all uppers g f clear x h = elim (slice_get_cases uppers.commons (256 * s + x)).1 [
    | inl (c, within, e, r) ↦ false_if (list_any p (part_at (256 * s + x) us)) (λ m.
        let (j, u, i, q) = any_at p (part_at (256 * s + x) us) m in
        let less : below u t ≡ true = right_true (counts u t) (below u t) q in
        let place : slice_get (part_at s uppers.commons) x ≡ Some c = part_got s uppers.commons x c h e in
        true_false (list_any p (part_at (256 * s + x) us)) m
        (clear x (f x (candidate needs_common lacks_common (part_at s uppers.commons) b (needs t) (asks t) x c (uppers.blocks.each s b g) (slice_get_within (part_at s uppers.commons) x c place) place
        (λ k y z. needed u t k y less (uppers.parts.each (256 * s + x) c e k j u i y z)) (λ k y z. refl)))))
    | inr (past, e) ↦ ap (list_any p) (part_past (256 * s + x) us (omega (arith, past, uppers.parts.cover)))
  ]

  pub uppers_clear : (us : List U) (bs : List BlockView) (n : ℕ) → AreUppers needs us bs → length bs ≤ n → ((s : ℕ) → s < n → AreClear (is_found below counts t) us s) → false ≡ is_above below counts us t
  uppers_clear us bs n uppers l clear =
      sym (parts_clear p us (256 * length bs) (omega (arith, uppers.parts.cover, uppers.blocks.cover)) (λ k h.
      subst (λ m. list_any p (part_at m us) ≡ false) (whole k) (clear (k / 256) (omega arith) (k % 256) (omega arith))))
    where
      whole : (j : ℕ) → 256 * (j / 256) + j % 256 ≡ j
      whole j = omega arith

pub clear_more : (P : ℕ → Type 0) (n : ℕ) → ((s : ℕ) → s < n → P s) → P n → (s : ℕ) → s < n + 1 → P s
clear_more P n f p s h = elim (last s n h) [ inl e ↦ subst P (sym e) p | inr l ↦ f s l ]
  where
    last : (s n : ℕ) → s < n + 1 → (s ≡ n) ⊎ (s < n)
    last s n h = grind arith

-- the number of a block of an upper block is a machine number
pub place_fits : {U : Type 0} (needs : U → ℕ → List ℕ) (us : List U) (bs : List BlockView) (s b : ℕ) → AreUppers needs us bs → s < length bs → b < 256 → length us < 18446744073709551616 → s * 256 + b < 18446744073709551616
place_fits needs us bs s b uppers h l few =
    let c = length uppers.commons in
    let one : 256 * s < c = uppers.blocks.tight s h in
    let two : 256 * (256 * s) < length us = uppers.parts.tight (256 * s) one in
    omega (arith, two, few, l)

-- ---- one place of a block

module _ {U : Type 0} (p : U → Bool) (us : List U) (j : ℕ) where
  pub clear_past : false ≡ nat_lt j (length us) → IsClearAt p us j
  clear_past e u g = let within : j < length us = slice_get_within us j u g in absurd (out j (length us) e within)
    where
      out : (a b : ℕ) → false ≡ nat_lt a b → a < b → ⊥
      out a b e h = grind (arith, nat_tests)

  pub clear_here : (u : U) → u ≡ get_or us j u → p u ≡ false → IsClearAt p us j
  clear_here u e f v g = ap p (sym (e ∙ get_or_from_slice_get us j v u g)) ∙ f

pub turned : (s b : ℕ) → 256 * s + b ≡ s * 256 + b
turned s b = omega arith
