-- Sums over pairs of states.
use Rattle.std.proofs.Common.{◌≡◌, ℕ, zero, suc, ◌+◌, ◌-◌, ◌*◌, ◌/◌, ◌%◌, ◌≤◌, ◌^◌, List, [], ◌∷◌, length, inl, inr, refl, sym, ◌∙◌, ap, subst, arith}
use Rattle.std.specs.Prelude.{sum_by, slice_index_or, min}
use Rattle.std.proofs.Math.Nat.{suc-mul, mul-add, zero-mul, mul-zero, mul_comm}
use Rattle.std.proofs.lemmas.Nat.{div-mul-add, mod-mul-add}
use Rattle.std.proofs.lemmas.List.Sums.{sum_by-cons}
use Rattle.ltl_spec.specs.Automata.Automaton.{Automaton, State}
use Rattle.ltl_spec.specs.Hoa.HoaReading.{MarkedAutomaton}
use Rattle.ltl_spec.proofs.Automata.ListedStates.{no_state}
use Rattle.ltl_check.specs.Explored.{sum_below, IsGrown}
use Rattle.ltl_check.specs.ProductView.{edge_pairs, pair_at, pair_count}

module _ (f g : ℕ → ℕ) (b : ℕ) where
  abbrev both : ℕ → ℕ
  both n = f (n / b) * g (n % b)

  -- k numbers of one row
  row : (a k : ℕ) → k ≤ b → sum_below both (a * b + k) ≡ sum_below both (a * b) + f a * sum_below g k
  row a zero l = ap (sum_below both) (plain (a * b)) ∙ sym (ap (λ n. sum_below both (a * b) + n) (mul-zero (f a)) ∙ plain (sum_below both (a * b)))
    where
      plain : (n : ℕ) → n + 0 ≡ n
      plain n = omega arith
  row a (suc k) l =
      let e : a * b + suc k ≡ suc (a * b + k) = omega arith in
      let h = row a k (omega arith) in
      let d : f ((a * b + k) / b) ≡ f a = ap f (div-mul-add a b k (omega arith)) in
      let m : g ((a * b + k) % b) ≡ g k = ap g (mod-mul-add a b k (omega arith)) in
      let s : sum_below both (a * b + suc k) ≡ sum_below both (a * b + k) + f ((a * b + k) / b) * g ((a * b + k) % b) = ap (sum_below both) e in
      let p : f ((a * b + k) / b) * g ((a * b + k) % b) ≡ f a * g k = ap (λ x. x * g ((a * b + k) % b)) d ∙ ap (λ y. f a * y) m in
      let t : f a * (sum_below g k + g k) ≡ f a * sum_below g k + f a * g k = mul-add (f a) (sum_below g k) (g k) in
      omega arith

  -- all rows
  pub sum_rows : (a : ℕ) → sum_below both (a * b) ≡ sum_below f a * sum_below g b
  sum_rows zero = ap (sum_below both) (zero-mul b) ∙ sym (zero-mul (sum_below g b))
  sum_rows (suc a) =
      let e : suc a * b ≡ a * b + b = suc-mul a b in
      let r = row a b (omega arith) in
      let h = sum_rows a in
      let c : (sum_below f a + f a) * sum_below g b ≡ sum_below g b * (sum_below f a + f a) = mul_comm (sum_below f a + f a) (sum_below g b) in
      let m : sum_below g b * (sum_below f a + f a) ≡ sum_below g b * sum_below f a + sum_below g b * f a = mul-add (sum_below g b) (sum_below f a) (f a) in
      let x : sum_below g b * sum_below f a ≡ sum_below f a * sum_below g b = mul_comm (sum_below g b) (sum_below f a) in
      let y : sum_below g b * f a ≡ f a * sum_below g b = mul_comm (sum_below g b) (f a) in
      let s : sum_below both (suc a * b) ≡ sum_below both (a * b + b) = ap (sum_below both) e in
      omega arith

-- the first one apart
sum_first : (f : ℕ → ℕ) (n : ℕ) → sum_below f (suc n) ≡ f 0 + sum_below (λ i. f (suc i)) n
sum_first f zero = omega arith
sum_first f (suc n) = let h = sum_first f n in omega arith

-- the sum over a list
pub sum_list : {X : Type 0} (f : X → ℕ) (xs : List X) (d : X) → sum_below (λ i. f (slice_index_or xs i d)) (length xs) ≡ sum_by f xs
sum_list f [] d = refl
sum_list f (x ∷ xs) d =
    let h = sum_list f xs d in
    let s : sum_below (λ i. f (slice_index_or (x ∷ xs) i d)) (suc (length xs)) ≡ f x + sum_below (λ i. f (slice_index_or xs i d)) (length xs) = sum_first (λ i. f (slice_index_or (x ∷ xs) i d)) (length xs) in
    let l : length (x ∷ xs) ≡ suc (length xs) = omega arith in
    let e : sum_by f (x ∷ xs) ≡ f x + sum_by f xs = sum_by-cons f x xs in
    ap (sum_below (λ i. f (slice_index_or (x ∷ xs) i d))) l ∙ s ∙ ap (λ n. f x + n) h ∙ sym e

module _ (A : MarkedAutomaton) (B : Automaton) where
  -- the pairs of edges at all pairs of states are all pairs of edges
  pub all_pairs : length A.edges ≡ A.states → sum_below (λ n. edge_pairs A B (pair_at A B n)) (pair_count A B) ≡ sum_by length A.edges * sum_by (λ (s : State). length s.edges) B.states
  all_pairs counted =
      let first : ℕ → ℕ = λ i. length (slice_index_or A.edges i []) in
      let second : ℕ → ℕ = λ j. length (slice_index_or B.states j no_state).edges in
      sum_rows (λ i. length (slice_index_or A.edges i [])) (λ j. length (slice_index_or B.states j no_state).edges) (length B.states) A.states
      ∙ ap (λ n. sum_below (λ i. length (slice_index_or A.edges i [])) n * sum_below (λ j. length (slice_index_or B.states j no_state).edges) (length B.states)) (sym counted)
      ∙ ap (λ n. n * sum_below (λ j. length (slice_index_or B.states j no_state).edges) (length B.states)) (sum_list length A.edges [])
      ∙ ap (λ n. sum_by length A.edges * n) (sum_list (λ (s : State). length s.edges) B.states no_state)

  -- a count from nothing is at most that
  pub steps_most : length A.edges ≡ A.states → (before after c : ℕ) → before ≡ 0 → IsGrown before after c → c ≤ 2 * ((A.sets + 1 + 1) * sum_below (λ n. edge_pairs A B (pair_at A B n)) (pair_count A B))
      → after ≤ 2 * ((A.sets + 2) * (sum_by length A.edges * sum_by (λ (s : State). length s.edges) B.states))
  steps_most counted before after c z g l =
      let m = subst (λ n. c ≤ 2 * ((A.sets + 1 + 1) * n)) (all_pairs counted) l in
      let two : A.sets + 1 + 1 ≡ A.sets + 2 = omega arith in
      let m' : c ≤ 2 * ((A.sets + 2) * (sum_by length A.edges * sum_by (λ (s : State). length s.edges) B.states)) = subst (λ n. c ≤ 2 * (n * (sum_by length A.edges * sum_by (λ (s : State). length s.edges) B.states))) two m in
      let few = grown_few before after c z g in
      omega arith
    where
      grown_few : (before after c : ℕ) → before ≡ 0 → IsGrown before after c → after ≤ c
      grown_few before after c z (inl h) = let e = h.0 in let f = h.1 in omega arith
      grown_few before after c z (inr h) = let f = h in omega arith

-- and at least what was paid for
pub steps_least : (sum before after c : ℕ) → before ≡ 0 → IsGrown before after c → sum ≤ c → min sum (2 ^ 128 - 1) ≤ after
steps_least sum before after c z (inl h) l = let e = h.0 in let f = h.1 in omega arith
steps_least sum before after c z (inr h) l = omega arith
