-- The state that is called `accept_all`, and the blocks.
use Rattle.std.proofs.Common.{◌≡◌, ◌∙◌, ap, sym, subst, ℕ, ◌+◌, ◌<◌, ◌≤◌, true, false, length, slice_index_or, arith}
use Rattle.std.proofs.lemmas.List.FromFn.{length-range_with_len, get_or-range_with_len}
use Rattle.std.proofs.lemmas.List.Sums.{position_or_len_is}
use Rattle.ltl_spec.specs.Automata.Automaton.{Automaton}
use Rattle.ltl_spec.specs.Automata.ClaimText.{is_skip_state, skip_state, numbers}

module _ (B : Automaton) where
  number_at : (k : ℕ) → k < length B.states → slice_index_or (numbers B) k 0 ≡ k
  number_at k h = get_or-range_with_len 0 (length B.states) k 0 h ∙ zero_add k
    where
      zero_add : (k : ℕ) → 0 + k ≡ k
      zero_add k = omega arith

  -- the first place that passes
  pub skip_is : (k : ℕ) → k ≤ length B.states → ((j : ℕ) → j < k → is_skip_state B j ≡ false) → (k < length B.states → is_skip_state B k ≡ true) → skip_state B ≡ k
  skip_is k le before here =
      position_or_len_is (is_skip_state B) (numbers B) k 0 (subst (λ n. k ≤ n) (sym (length-range_with_len 0 (length B.states))) le)
      (λ j lt. ap (is_skip_state B) (number_at j (omega (arith, lt, le))) ∙ before j lt)
      (λ lt. let h : k < length B.states = subst (λ n. k < n) (length-range_with_len 0 (length B.states)) lt in ap (is_skip_state B) (number_at k h) ∙ here h)
