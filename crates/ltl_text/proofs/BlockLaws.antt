-- The blocks of a never claim, one after the other.
use Rattle.std.proofs.Common.{◌≡◌, ◌∙◌, ap, sym, ℕ, suc, ◌+◌, ◌-◌, ◌<◌, ◌≤◌, inl, inr, Bool, false, cond, List, [], ◌∷◌, ◌++◌, length, append_assoc, append-nil, arith}
use Rattle.std.specs.Prelude.{◌==◌, not, codes, if◌then◌else◌}
use Rattle.std.specs.List.{filter, flat_map, range_with_len}
use Rattle.std.specs.Ordering.{nat_cmp}
use Rattle.std.proofs.lemmas.Bool.Decides.{nat_tests}
use Rattle.ltl_spec.specs.Semantics.Word.{Name}
use Rattle.ltl_spec.specs.Formulas.Formula.{Reading}
use Rattle.ltl_spec.specs.Formulas.Canonical.{canonical_text}
use Rattle.ltl_spec.specs.Automata.Automaton.{Automaton, State, Edge, state_at}
use Rattle.ltl_spec.specs.Automata.ClaimText.{block, body, indented, label_of, never_text, numbers, options, skip_state}
use Rattle.ltl_spec.proofs.Collections.SetLaws.{filter_cases, Has-filter, IsRising-filter, same_members}
use Rattle.ltl_spec.proofs.Collections.Orders.{nat_linear}
use Rattle.ltl_text.specs.Blocks.{blocks_text, others_text}
use Rattle.ltl_text.specs.Options.{options_text}
use Rattle.ltl_text.proofs.OptionLaws.{range_below, same_test, test_same}
use Rattle.ltl_sets.specs.SubsetLaws.{filter_none}
use Rattle.ltl_sets.specs.PlaceLaws.{IsRising-range, Has-range}

pub unequal : (x t : ℕ) → (x ≡ t → ⊥) → (x == t) ≡ false
unequal x t h = grind (arith, nat_tests)

-- ---- the numbers from k on
pub range_step : (k n : ℕ) → k < n → range_with_len k (n - k) ≡ k ∷ range_with_len (k + 1) (n - (k + 1))
range_step k n lt = let e : n - k ≡ suc (n - (k + 1)) = omega arith in ap (range_with_len k) e

pub range_end : (k n : ℕ) → n ≤ k → range_with_len k (n - k) ≡ []
range_end k n le = let e : n - k ≡ 0 = omega arith in ap (range_with_len k) e

module _ (B : Automaton) (names : List Name) where
  abbrev other : ℕ → Bool
  other k = not (k == skip_state B)

  -- the blocks of those from k on
  abbrev pub others_from : ℕ → List ℕ
  others_from k = flat_map (block B names) (filter other (range_with_len k (length B.states - k)))

  abbrev kept : Bool → ℕ → List ℕ → List ℕ
  kept b k ks = flat_map (block B names) (cond b (k ∷ filter other ks) (filter other ks))

  pub others_begin : others_text B names ≡ others_from 0
  others_begin = let e : length B.states ≡ length B.states - 0 = omega arith in ap (λ n. flat_map (block B names) (filter other (range_with_len 0 n))) e

  pub others_skip : (k : ℕ) → k < length B.states → k ≡ skip_state B → others_from k ≡ others_from (k + 1)
  others_skip k lt e =
      ap (λ l. flat_map (block B names) (filter other l)) (range_step k (length B.states) lt)
      ∙ ap (λ b. kept (not b) k (range_with_len (k + 1) (length B.states - (k + 1)))) (same_test k (skip_state B) e)

  pub others_put : (k : ℕ) → k < length B.states → (k ≡ skip_state B → ⊥) → others_from k ≡ block B names k ++ others_from (k + 1)
  others_put k lt e =
      ap (λ l. flat_map (block B names) (filter other l)) (range_step k (length B.states) lt)
      ∙ ap (λ b. kept (not b) k (range_with_len (k + 1) (length B.states - (k + 1)))) (unequal k (skip_state B) e)

  pub others_end : (k : ℕ) → length B.states ≤ k → others_from k ≡ []
  others_end k le = ap (λ l. flat_map (block B names) (filter other l)) (range_end k (length B.states) le)

  -- ---- the last block
  pub no_last : length B.states ≤ skip_state B → blocks_text B names ≡ others_text B names
  no_last le =
      ap (λ l. others_text B names ++ flat_map (block B names) l)
      (filter_none (λ k. k == skip_state B) (numbers B) (λ k h. unequal k (skip_state B) (λ e. let lt = range_below 0 (length B.states) k h in absurd (omega (arith, lt, e, le)))))
      ∙ append-nil (others_text B names)

  only_skip : skip_state B < length B.states → filter (λ k. k == skip_state B) (numbers B) ≡ skip_state B ∷ []
  only_skip lt =
      same_members nat_linear (filter (λ k. k == skip_state B) (numbers B)) (skip_state B ∷ [])
      (IsRising-filter nat_cmp (λ k. k == skip_state B) (numbers B) (IsRising-range 0 (length B.states))) (tt, tt)
      (λ z h. inl (test_same z (skip_state B) (filter_cases (λ k. k == skip_state B) (numbers B) z h).1))
      (λ z h. elim h [
        | inl e ↦ Has-filter (λ k. k == skip_state B) (numbers B) z (Has-range 0 (length B.states) z (omega arith) (omega (arith, lt, e))) (same_test z (skip_state B) e)
        | inr f ↦ absurd f
      ])

  pub last_is : skip_state B < length B.states → blocks_text B names ≡ others_text B names ++ block B names (skip_state B)
  last_is lt =
      ap (λ l. others_text B names ++ flat_map (block B names) l) (only_skip lt)
      ∙ ap (λ t. others_text B names ++ t) (append-nil (block B names (skip_state B)))

  -- ---- a block
  pub block_pieces : (k : ℕ) → block B names k ≡ label_of B k ++ (codes ":" ++ 10 ∷ [] ++ body B names k)
  block_pieces k = regroup (label_of B k) (codes ":") (10 ∷ []) (body B names k)
    where
      regroup : (a b c d : List ℕ) → ((a ++ b) ++ c) ++ d ≡ a ++ ((b ++ c) ++ d)
      regroup a b c d = simp append_assoc

  body_other : (k : ℕ) → (k ≡ skip_state B → ⊥) → options B names (state_at B k) (state_at B k).edges ≡ body B names k
  body_other k e = ap (λ (b : Bool). if b then indented (codes "skip") else options B names (state_at B k) (state_at B k).edges) (sym (unequal k (skip_state B) e))

  with_some : (s : State) (es : List Edge) → 0 < length es → indented (codes "if") ++ (options_text B names s ++ indented (codes "fi;")) ≡ options B names s es
  with_some s [] h = absurd (omega arith)
  with_some s (e ∷ es) h = sym (append_assoc (indented (codes "if")) (options_text B names s) (indented (codes "fi;")))

  pub body_some : (k : ℕ) → (k ≡ skip_state B → ⊥) → 0 < length (state_at B k).edges
      → indented (codes "if") ++ (options_text B names (state_at B k) ++ indented (codes "fi;")) ≡ body B names k
  body_some k e some = with_some (state_at B k) (state_at B k).edges some ∙ body_other k e

-- ---- the whole claim
pub claim_pieces : (B : Automaton) (R : Reading)
    → never_text B R ≡ codes "never { /* " ++ (canonical_text R ++ ((codes " */" ++ 10 ∷ []) ++ (blocks_text B R.names ++ (codes "}" ++ 10 ∷ []))))
claim_pieces B R =
    regroup (codes "never { /* ") (canonical_text R) (codes " */") (10 ∷ []) (others_text B R.names)
    (flat_map (block B R.names) (filter (λ k. k == skip_state B) (numbers B))) (codes "}" ++ 10 ∷ [])
  where
    regroup : (a b c d e f g : List ℕ) → (((((a ++ b) ++ c) ++ d) ++ e) ++ f) ++ g ≡ a ++ (b ++ ((c ++ d) ++ ((e ++ f) ++ g)))
    regroup a b c d e f g = simp append_assoc
