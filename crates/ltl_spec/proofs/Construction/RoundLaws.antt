-- Merging by rounds ends: after as many rounds as there are states nothing changes.
use lib.Pointwise.{pointwise_decides}
use Rattle.std.proofs.Common.{◌≡◌, ℕ, zero, suc, ◌+◌, ◌-◌, ◌<◌, ◌≤◌, Bool, true, false, cond, not, ◌⊎◌, eqb, inl, inr, List, [], ◌∷◌, map, length, refl, sym, ◌∙◌, ap, subst, arith, eqb-true, eq-eqb}
use Rattle.std.specs.Prelude.{slice_index_or, slice_index}
use Rattle.std.specs.declared.cmp.Ordering.{Ordering}
use Rattle.std.specs.declared.cmp.Ordering.TheVariants.{Less, Equal, Greater}
use Rattle.std.specs.Bool.{Decides, beq}
use Rattle.std.specs.Cmp.Lexicographic.{pointwise}
use Rattle.std.specs.Ordering.{is_eq}
use Rattle.std.proofs.lemmas.Cmp.{tied_itself}
use Rattle.std.proofs.lemmas.Bool.{and_from, false≢true, cases_lt}
use Rattle.std.proofs.lemmas.List.{get_or-map, get_or_past, ext_get_or}
use Rattle.std.proofs.lemmas.List.FromFn.{length-range_with_len, get_or-range_with_len}
use Rattle.ltl_spec.specs.Collections.Sets.{Has, set_of}
use Rattle.ltl_spec.specs.Collections.Lists.{place_of}
use Rattle.ltl_spec.specs.Automata.Automaton.{Automaton, State, Edge, edge_cmp}
use Rattle.ltl_spec.specs.Construction.Merging.{same_edge, same_state, retargeted_edge, retargeted_state, class_names, IsMerged}
use Rattle.ltl_spec.proofs.Collections.SetLaws.{set_of_alike, set_of_cases, Has-set_of}
use Rattle.ltl_spec.proofs.Collections.ListLaws.{at_place, Has-at}
use Rattle.ltl_spec.proofs.Collections.Orders.{edge_linear}
use Rattle.ltl_spec.proofs.Collections.CaseLaws.{left_true, right_true, beq_true, beq_refl}
use Rattle.ltl_spec.proofs.Collections.MemberLaws.{Has-map, map_cases, map_length}
use Rattle.ltl_spec.proofs.Automata.ListedStates.{no_state}

-- equal edges and states

is_Equal : (o : Ordering) → is_eq o ≡ true → o ≡ Equal
is_Equal Less e = cc
is_Equal Equal e = refl
is_Equal Greater e = cc

pub same_edge_Decides : (e f : Edge) → Decides (same_edge e f) (e ≡ f)
same_edge_Decides e f = ((λ t. edge_linear.exact e f (is_Equal (edge_cmp e f) t)), λ p. ap (same_edge e) (sym p) ∙ ap is_eq (tied_itself edge_linear.total e))

pub same_state_Decides : (s t : State) → Decides (same_state s t) (s ≡ t)
same_state_Decides s t = (to, from)
  where
    edges : Decides (pointwise same_edge s.edges t.edges) (s.edges ≡ t.edges)
    edges = pointwise_decides same_edge_Decides s.edges t.edges

    to : same_state s t ≡ true → s ≡ t
    to h =
        let a = beq_true s.accepting t.accepting (left_true _ _ h) in
        let e = edges.0 (right_true (beq s.accepting t.accepting) _ h) in
        λ i. record { accepting = a i; edges = e i }

    from : s ≡ t → same_state s t ≡ true
    from p = and_from _ _ (ap (beq s.accepting) (sym (ap (λ (u : State). u.accepting) p)) ∙ beq_refl s.accepting) (edges.1 (ap (λ (u : State). u.edges) p))

-- lists

-- the place of an element is its first
pub place_first : {K : Type 0} (same : K → K → Bool) → ((x y : K) → Decides (same x y) (x ≡ y)) → (x : K) (xs : List K) (i : ℕ) (d : K) → i < length xs → slice_index_or xs i d ≡ x → place_of same x xs ≤ i
place_first same decides x [] i d l e = absurd (omega arith)
place_first same decides x (y ∷ ys) zero d l e =
    elim (same x y) as (λ b. Decides b (x ≡ y) → cond (not b) (1 + place_of same x ys) 0 ≤ 0) [
      | true ↦ λ c. omega arith
      | false ↦ λ c. absurd (false≢true (c.1 (sym e)))
    ] (decides x y)
place_first same decides x (y ∷ ys) (suc i) d l e =
    let rest : place_of same x ys ≤ i = place_first same decides x ys i d (omega arith) e in
    elim (same x y) as (λ b. cond (not b) (1 + place_of same x ys) 0 ≤ suc i) [ true ↦ omega arith | false ↦ omega arith ]

-- a state whose targets are renamed twice

-- renaming by f and then by g is renaming by h, where g after f is h
pub retargeted_twice : (f g h : ℕ → ℕ) → ((t : ℕ) → g (f t) ≡ h t) → (s : State) → retargeted_state g (retargeted_state f s) ≡ retargeted_state h s
retargeted_twice f g h same s = λ i. record { accepting = s.accepting; edges = edges i }
  where
    twice : (e : Edge) → retargeted_edge g (retargeted_edge f e) ≡ retargeted_edge h e
    twice e = λ i. record e { target = same e.target i }

    to : (z : Edge) → Has (map (retargeted_edge g) (set_of edge_cmp (map (retargeted_edge f) s.edges))) z → Has (map (retargeted_edge h) s.edges) z
    to z m =
        let (x, k, e) = map_cases (retargeted_edge g) (set_of edge_cmp (map (retargeted_edge f) s.edges)) z m in
        let (y, n, d) = map_cases (retargeted_edge f) s.edges x (set_of_cases edge_linear (map (retargeted_edge f) s.edges) x k) in
        subst (λ w. Has (map (retargeted_edge h) s.edges) w) (sym (e ∙ ap (retargeted_edge g) d ∙ twice y)) (Has-map (retargeted_edge h) s.edges y n)

    from : (z : Edge) → Has (map (retargeted_edge h) s.edges) z → Has (map (retargeted_edge g) (set_of edge_cmp (map (retargeted_edge f) s.edges))) z
    from z m =
        let (y, n, d) = map_cases (retargeted_edge h) s.edges z m in
        subst (λ w. Has (map (retargeted_edge g) (set_of edge_cmp (map (retargeted_edge f) s.edges))) w) (sym (d ∙ sym (twice y)))
        (Has-map (retargeted_edge g) (set_of edge_cmp (map (retargeted_edge f) s.edges)) (retargeted_edge f y) (Has-set_of edge_linear (map (retargeted_edge f) s.edges) (retargeted_edge f y) (Has-map (retargeted_edge f) s.edges y n)))

    edges : set_of edge_cmp (map (retargeted_edge g) (set_of edge_cmp (map (retargeted_edge f) s.edges))) ≡ set_of edge_cmp (map (retargeted_edge h) s.edges)
    edges = set_of_alike edge_linear (map (retargeted_edge g) (set_of edge_cmp (map (retargeted_edge f) s.edges))) (map (retargeted_edge h) s.edges) to from

-- the rounds of one automaton

module _ (A : Automaton) where
  abbrev count : ℕ
  count = length A.states

  -- the name of a state's class at round n
  abbrev name_at : ℕ → ℕ → ℕ
  name_at n i = slice_index (class_names A n) i

  -- the states with their targets named as at round n
  abbrev pub seen : ℕ → List State
  seen n = map (retargeted_state (slice_index (class_names A n))) A.states

  abbrev pub seen_at : ℕ → ℕ → State
  seen_at n i = slice_index_or (seen n) i no_state

  pub names_length : (n : ℕ) → length (class_names A n) ≡ count
  names_length zero = length-range_with_len 0 count
  names_length (suc n) = map_length (λ s. place_of same_state s (seen n)) (seen n) ∙ map_length (retargeted_state (slice_index (class_names A n))) A.states

  pub seen_length : (n : ℕ) → length (seen n) ≡ count
  seen_length n = map_length (retargeted_state (slice_index (class_names A n))) A.states

  pub name_first : (i : ℕ) → i < count → name_at zero i ≡ i
  name_first i l = let e = get_or-range_with_len 0 count i 0 l in omega arith

  pub name_next : (n i : ℕ) → i < count → name_at (suc n) i ≡ place_of same_state (seen_at n i) (seen n)
  name_next n i l = let e = seen_length n in get_or-map (λ s. place_of same_state s (seen n)) (seen n) i no_state 0 (omega arith)

  name_past : (n i : ℕ) → count ≤ i → name_at n i ≡ 0
  name_past n i l = let e = names_length n in get_or_past (class_names A n) i 0 (omega arith)

  pub has_seen : (n i : ℕ) → i < count → Has (seen n) (seen_at n i)
  has_seen n i l = let e = seen_length n in Has-at (seen n) i no_state (omega arith)

  -- a class is named by a state of it that isn't above its others
  pub name_low : (n i : ℕ) → i < count → name_at n i ≤ i
  name_low zero i l = let e = name_first i l in omega arith
  name_low (suc n) i l =
      let e = name_next n i l in
      let m = seen_length n in
      let p : place_of same_state (seen_at n i) (seen n) ≤ i = place_first same_state same_state_Decides (seen_at n i) (seen n) i no_state (omega arith) refl in
      omega arith

  -- equal at round n + 1 is: equal as seen at round n
  same_seen : (n i j : ℕ) → i < count → j < count → name_at (suc n) i ≡ name_at (suc n) j → seen_at n i ≡ seen_at n j
  same_seen n i j l m e =
      let x = has_seen n i l in
      let y = has_seen n j m in
      let p : place_of same_state (seen_at n i) (seen n) ≡ place_of same_state (seen_at n j) (seen n) = sym (name_next n i l) ∙ e ∙ name_next n j m in
      sym (at_place same_state same_state_Decides (seen_at n i) (seen n) no_state x) ∙ ap (λ k. slice_index_or (seen n) k no_state) p ∙ at_place same_state same_state_Decides (seen_at n j) (seen n) no_state y

  same_name : (n i j : ℕ) → i < count → j < count → seen_at n i ≡ seen_at n j → name_at (suc n) i ≡ name_at (suc n) j
  same_name n i j l m e = name_next n i l ∙ ap (λ s. place_of same_state s (seen n)) e ∙ sym (name_next n j m)

  -- the name of a class is in the class
  pub name_twice : (n i : ℕ) → i < count → name_at n (name_at n i) ≡ name_at n i
  name_twice zero i l = let e = name_first i l in ap (name_at zero) e
  name_twice (suc n) i l =
      let low : name_at (suc n) i ≤ i = name_low (suc n) i l in
      let inside : name_at (suc n) i < count = omega arith in
      same_name n (name_at (suc n) i) i inside l
      (ap (λ k. slice_index_or (seen n) k no_state) (name_next n i l) ∙ at_place same_state same_state_Decides (seen_at n i) (seen n) no_state (has_seen n i l))

  pub seen_is : (n i : ℕ) → i < count → seen_at n i ≡ retargeted_state (slice_index (class_names A n)) (slice_index_or A.states i no_state)
  seen_is n i l = get_or-map (retargeted_state (slice_index (class_names A n))) A.states i no_state no_state l

  -- what is equal at a round stays equal
  abbrev Grows : ℕ → Type 0
  Grows n = (i j : ℕ) → i < count → j < count → name_at n i ≡ name_at n j → name_at (suc n) i ≡ name_at (suc n) j

  renamed : (n : ℕ) → Grows n → (t : ℕ) → name_at (suc n) (name_at n t) ≡ name_at (suc n) t
  renamed n g t = elim (cases_lt t count) [
    | inl l ↦ let low : name_at n t ≤ t = name_low n t l in g (name_at n t) t (omega arith) l (name_twice n t l)
    | inr l ↦ ap (name_at (suc n)) (name_past n t l) ∙ zero_name (cases_lt 0 count) ∙ sym (name_past (suc n) t l)
  ]
    where
      zero_name : (0 < count) ⊎ (count ≤ 0) → name_at (suc n) 0 ≡ 0
      zero_name (inl m) = let low : name_at (suc n) 0 ≤ 0 = name_low (suc n) 0 m in omega arith
      zero_name (inr m) = name_past (suc n) 0 m

  seen_again : (n : ℕ) → ((t : ℕ) → name_at (suc n) (name_at n t) ≡ name_at (suc n) t) → (k : ℕ) → k < count → seen_at (suc n) k ≡ retargeted_state (slice_index (class_names A (suc n))) (seen_at n k)
  seen_again n same k h =
      seen_is (suc n) k h
      ∙ sym (retargeted_twice (slice_index (class_names A n)) (slice_index (class_names A (suc n))) (slice_index (class_names A (suc n))) same (slice_index_or A.states k no_state))
      ∙ ap (retargeted_state (slice_index (class_names A (suc n)))) (sym (seen_is n k h))

  grows : (n : ℕ) → Grows n
  grows zero i j l m e = ap (name_at 1) (sym (name_first i l) ∙ e ∙ name_first j m)
  grows (suc n) i j l m e =
      let before : seen_at n i ≡ seen_at n j = same_seen n i j l m e in
      let same = renamed n (grows n) in
      same_name (suc n) i j l m (seen_again n same i l ∙ ap (retargeted_state (slice_index (class_names A (suc n)))) before ∙ sym (seen_again n same j m))

  -- fewer classes, or none changed

  -- how many of the first k states name a class
  abbrev namers : ℕ → ℕ → ℕ
  namers n zero = 0
  namers n (suc k) = namers n k + cond (eqb (name_at n k) k) 1 0

  -- who names a class in the next round names one now
  was_namer : (n i : ℕ) → i < count → name_at (suc n) i ≡ i → name_at n i ≡ i
  was_namer n i l e =
      let low : name_at n i ≤ i = name_low n i l in
      let inside : name_at n i < count = omega arith in
      let same : name_at (suc n) (name_at n i) ≡ name_at (suc n) i = grows n (name_at n i) i inside l (name_twice n i l) in
      let lower : name_at (suc n) (name_at n i) ≤ name_at n i = name_low (suc n) (name_at n i) inside in
      omega arith

  abbrev KeepsNamers : ℕ → ℕ → Type 0
  KeepsNamers n k = (i : ℕ) → i < k → name_at n i ≡ i → name_at (suc n) i ≡ i

  fewer : (n k : ℕ) → k ≤ count → (namers (suc n) k < namers n k) ⊎ ((namers (suc n) k ≡ namers n k) × KeepsNamers n k)
  fewer n zero l = inr (refl, λ i h e. absurd (omega arith))
  fewer n (suc k) l = step (fewer n k (omega arith)) (eqb (name_at n k) k) (eqb (name_at (suc n) k) k) refl refl
    where
      below_last : (i : ℕ) → i < suc k → (i < k) ⊎ (i ≡ k)
      below_last i h = grind arith

      step : (namers (suc n) k < namers n k) ⊎ ((namers (suc n) k ≡ namers n k) × KeepsNamers n k) → (s t : Bool) → eqb (name_at n k) k ≡ s → eqb (name_at (suc n) k) k ≡ t
          → (namers (suc n) k + cond t 1 0 < namers n k + cond s 1 0) ⊎ ((namers (suc n) k + cond t 1 0 ≡ namers n k + cond s 1 0) × KeepsNamers n (suc k))
      step r false true p q =
          let e : name_at (suc n) k ≡ k = eqb-true _ _ q in
          absurd (false≢true (sym p ∙ eq-eqb _ _ (was_namer n k (omega arith) e)))
      step (inl r) true t p q = inl (small t)
        where
          small : (b : Bool) → namers (suc n) k + cond b 1 0 < namers n k + 1
          small true = omega arith
          small false = omega arith
      step (inl r) false false p q = inl (omega arith)
      step (inr r) true false p q = let e = r.0 in inl (omega arith)
      step (inr r) true true p q = let e = r.0 in inr (
        omega arith,
        λ i h d. elim (below_last i h) [
          | inl m ↦ r.1 i m d
          | inr m ↦ subst (λ j. name_at (suc n) j ≡ j) (sym m) (eqb-true _ _ q)
        ],
      )
      step (inr r) false false p q = let e = r.0 in inr (
        omega arith,
        λ i h d. elim (below_last i h) [
          | inl m ↦ r.1 i m d
          | inr m ↦ absurd (false≢true (sym p ∙ eq-eqb _ _ (subst (λ j. name_at n j ≡ j) m d)))
        ],
      )
        where
          false≢true : false ≡ true → ⊥
          false≢true d = cc

  -- where the same states name classes, the classes are the same
  settled : (n : ℕ) → KeepsNamers n count → class_names A (suc n) ≡ class_names A n
  settled n keep =
      let a = names_length n in
      let b = names_length (suc n) in
      ext_get_or 0 (class_names A (suc n)) (class_names A n) (omega arith) (λ i l. at i (omega arith))
    where
      at : (i : ℕ) → i < count → name_at (suc n) i ≡ name_at n i
      at i l =
          let low : name_at n i ≤ i = name_low n i l in
          let inside : name_at n i < count = omega arith in
          sym (grows n (name_at n i) i inside l (name_twice n i l)) ∙ keep (name_at n i) inside (name_twice n i l)

  after_settled : (n : ℕ) → class_names A (suc n) ≡ class_names A n → (k : ℕ) → class_names A (k + n) ≡ class_names A n
  after_settled n e zero = let z : 0 + n ≡ n = omega arith in ap (class_names A) z
  after_settled n e (suc k) =
      let z : suc k + n ≡ suc (k + n) = omega arith in
      ap (class_names A) z ∙ ap round_after (after_settled n e k) ∙ e
    where
      round_after : List ℕ → List ℕ
      round_after names = map (λ s. place_of same_state s (map (retargeted_state (slice_index names)) A.states)) (map (retargeted_state (slice_index names)) A.states)

  namers_most : (n k : ℕ) → namers n k ≤ k
  namers_most n zero = omega arith
  namers_most n (suc k) = one_more (eqb (name_at n k) k) (namers_most n k)
    where
      one_more : (b : Bool) → namers n k ≤ k → namers n k + cond b 1 0 ≤ suc k
      one_more true l = omega arith
      one_more false l = omega arith

  -- by round n the classes are settled, or n of them are gone
  progress : (n : ℕ) → ((m : ℕ) × (m ≤ n) × (class_names A (suc m) ≡ class_names A m)) ⊎ (namers n count + n ≤ count)
  progress zero = let l = namers_most zero count in inr (omega arith)
  progress (suc n) = go (progress n) (fewer n count (omega arith))
    where
      go : ((m : ℕ) × (m ≤ n) × (class_names A (suc m) ≡ class_names A m)) ⊎ (namers n count + n ≤ count)
          → (namers (suc n) count < namers n count) ⊎ ((namers (suc n) count ≡ namers n count) × KeepsNamers n count)
          → ((m : ℕ) × (m ≤ suc n) × (class_names A (suc m) ≡ class_names A m)) ⊎ (namers (suc n) count + suc n ≤ count)
      go (inl w) f = let l = w.1 in inl (w.0, omega arith, w.2)
      go (inr l) (inl f) = inr (omega arith)
      go (inr l) (inr f) = inl (n, omega arith, settled n f.1)

  -- as many rounds as there are states are enough
  pub rounds_end : (n : ℕ) → count ≤ n → class_names A n ≡ class_names A count
  rounds_end n l = go (progress count) (fewer count count (omega arith))
    where
      from : (m : ℕ) → m ≤ count → class_names A (suc m) ≡ class_names A m → class_names A n ≡ class_names A count
      from m h e =
          let a : (n - m) + m ≡ n = omega arith in
          let b : (count - m) + m ≡ count = omega arith in
          ap (class_names A) (sym a) ∙ after_settled m e (n - m) ∙ sym (after_settled m e (count - m)) ∙ ap (class_names A) b

      go : ((m : ℕ) × (m ≤ count) × (class_names A (suc m) ≡ class_names A m)) ⊎ (namers count count + count ≤ count)
          → (namers (suc count) count < namers count count) ⊎ ((namers (suc count) count ≡ namers count count) × KeepsNamers count count) → class_names A n ≡ class_names A count
      go (inl w) f = from w.0 w.1 w.2
      go (inr h) (inl f) = absurd (omega arith)
      go (inr h) (inr f) = from count (omega arith) (settled count f.1)

  -- equal at a round, equal at each later one
  grows_on : (n k i j : ℕ) → i < count → j < count → name_at n i ≡ name_at n j → name_at (k + n) i ≡ name_at (k + n) j
  grows_on n zero i j l m e = let z : 0 + n ≡ n = omega arith in subst (λ r. name_at r i ≡ name_at r j) (sym z) e
  grows_on n (suc k) i j l m e = let z : suc k + n ≡ suc (k + n) = omega arith in subst (λ r. name_at r i ≡ name_at r j) (sym z) (grows (k + n) i j l m (grows_on n k i j l m e))

  up_or_down : (n : ℕ) → (n ≤ count) ⊎ (count ≤ n)
  up_or_down n = grind arith

  -- equal at some round is equal at that round
  pub merged_at_end : (i j : ℕ) → IsMerged A i j → name_at count i ≡ name_at count j
  merged_at_end i j (l, m, w) = elim (up_or_down w.0) [
    | inl h ↦ let z : (count - w.0) + w.0 ≡ count = omega arith in subst (λ r. name_at r i ≡ name_at r j) z (grows_on w.0 (count - w.0) i j l m w.1)
    | inr h ↦ subst (λ names. slice_index names i ≡ slice_index names j) (rounds_end w.0 h) w.1
  ]

  -- states of one class have the same edges up to the classes of the targets, so any of them gives the edges of the class
  pub merged_alike : (i j : ℕ) → i < count → j < count → name_at count i ≡ name_at count j → seen_at count i ≡ seen_at count j
  merged_alike i j l m e = same_seen count i j l m (subst (λ names. slice_index names i ≡ slice_index names j) (sym (rounds_end (suc count) (omega arith))) e)
