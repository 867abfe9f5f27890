-- The automaton of a net while it is listed.
use Rattle.std.proofs.Common.{◌≡◌, ℕ, zero, suc, ◌+◌, ◌-◌, ◌<◌, ◌≤◌, Bool, true, inl, inr, List, [], ◌∷◌, ◌++◌, length, map, refl, sym, ◌∙◌, ap, subst, arith, length-append, Some, None}
use Rattle.std.specs.Prelude.{fold, slice_get, slice_index_or, take, drop, sum_by}
use Rattle.std.proofs.lemmas.List.Sums.{sum_by-cons}
use Rattle.std.specs.Bool.{Decides}
use Rattle.std.proofs.lemmas.Option.{get_or_from_slice_get, slice_get_within}
use Rattle.std.proofs.lemmas.List.{map-append, length-map, get_or-map, get_or-take, length-take-le, take-append-le}
use Rattle.ltl_spec.specs.Collections.Sets.{Has}
use Rattle.ltl_spec.specs.Collections.Lists.{with_new}
use Rattle.ltl_spec.specs.Automata.Automaton.{Automaton, Edge, State, state_at}
use Rattle.ltl_spec.specs.Automata.Listing.{listing, with_targets_of, IsComplete, PassesLimits}
use Rattle.ltl_spec.proofs.Automata.ListingLaws.{fold_behind}
use Rattle.ltl_spec.proofs.Automata.ListingReach.{listed_targets}
use Rattle.ltl_spec.proofs.Automata.CountsLaws.{sum_step, listing_later, never_passed}
use Rattle.ltl_automaton.specs.WorklistView.{WorklistView}
use Rattle.ltl_automaton.specs.Net.{Net, key_of, targets_of, HasSuccessorsOf, lengths_of, edges_behind, edges_in, moves_of, IsUnderWay}
use Rattle.ltl_spec.specs.Automata.Net.{state_in, IsReachable}
use Rattle.ltl_automaton.specs.SharedView.{with_state}
use Rattle.ltl_automaton.proofs.NetLaws.{map_agree, state_stays, fold_within}
pub use Rattle.std.proofs.lemmas.List.{take_all as take_whole}
pub use Rattle.ltl_spec.proofs.Collections.FoundLaws.{take_got}

-- the elements of a beginning stand at places before its end
pub Has_taken_at : {K : Type 0} (n : ℕ) (xs : List K) (x : K) → Has (take n xs) x → (i : ℕ) × (i < n) × (i < length xs) × (slice_index_or xs i x ≡ x)
Has_taken_at zero xs x h = absurd h
Has_taken_at (suc n) [] x h = absurd h
Has_taken_at (suc n) (y ∷ ys) x (inl e) = (0, omega arith, omega arith, sym e)
Has_taken_at (suc n) (y ∷ ys) x (inr h) = let w = Has_taken_at n ys x h in (suc w.0, omega (arith, w.1), omega (arith, w.2), w.3)

-- a thing with the same edges, seen alike
pub same_successors_here : {K : Type 0} (M N : Net K) (ks ls : List K) (i : ℕ) (k : K) → M ≡ N → ks ≡ ls → HasSuccessorsOf M ks i k → HasSuccessorsOf N ls i k
same_successors_here {K = K} M N ks ls i k p q t = subst (λ (n : Net K). HasSuccessorsOf n ls i k) p (subst (λ xs. HasSuccessorsOf M xs i k) q t)

-- a sum is that of a beginning and of what is behind it
sum_split : {K : Type 0} (f : K → ℕ) (n : ℕ) (xs : List K) → sum_by f xs ≡ sum_by f (take n xs) + sum_by f (drop n xs)
sum_split f zero xs = omega arith
sum_split f (suc n) [] = omega arith
sum_split f (suc n) (x ∷ xs) = let a = sum_by-cons f x xs in let b = sum_by-cons f x (take n xs) in let rest = sum_split f n xs in omega arith

-- what stands from a place on has the edges of the thing there, and of those behind it
behind_step : {K : Type 0} (net : Net K) (keys : List K) (n : ℕ) (k : K) → slice_get keys n ≡ Some k → edges_behind net keys n ≡ length (net.successors k) + edges_behind net keys (suc n)
behind_step net [] n k e = absurd (cc)
behind_step net (x ∷ xs) zero k e =
    let p : x ≡ k = cc in
    sum_by-cons (λ s. length (targets_of net s)) x xs ∙ ap (λ n. n + edges_behind net xs 0) (length-map (net.successors x) key_of ∙ ap (λ s. length (net.successors s)) p)
behind_step net (x ∷ xs) (suc n) k e = behind_step net xs n k e

pub behind_next : {K : Type 0} (net : Net K) (keys : List K) (n : ℕ) (k : K) → slice_get keys n ≡ Some k → edges_behind net keys n ≡ length (net.successors k) + edges_behind net keys (n + 1)
behind_next net keys n k e = let one : suc n ≡ n + 1 = omega arith in behind_step net keys n k e ∙ ap (λ m. length (net.successors k) + edges_behind net keys m) one

-- there is nothing past the end alone
past : {K : Type 0} (xs : List K) (n : ℕ) → slice_get xs n ≡ None → length xs ≤ n
past [] n e = omega arith
past (x ∷ xs) zero e = absurd (cc)
past (x ∷ xs) (suc n) e = let l = past xs n e in omega arith

module _ {K : Type 0} (same : K → K → Bool) (decides : (x y : K) → Decides (same x y) (x ≡ y)) (sorted : Bool) (net : Net K) (start : K) (sets : ℕ) where
  abbrev IsOnWay : WorklistView K → ℕ → Automaton → Type 0
  IsOnWay l count A = IsUnderWay same sorted net start sets l count A

  abbrev T : K → List K
  T = targets_of net

  abbrev st : List K → K → State
  st keys k = state_in same sorted (moves_of net) keys k

  abbrev successor_count : K → ℕ
  successor_count k = length (net.successors k)

  pub begins : (l : WorklistView K) (A : Automaton) → l ≡ record { keys = start ∷ []; explored = 0 } → A ≡ record { sets = sets; states = [] } → IsOnWay l 0 A
  begins l A e a = subst (λ m. IsOnWay m 0 A) (sym e) (record { listed = refl; states = a; counted = refl; within = omega arith })

  module _ (l : WorklistView K) (count : ℕ) (A : Automaton) (w : IsOnWay l count A) where
    -- there is a state for each thing that was taken, and a length
    pub states_count : length A.states ≡ l.explored
    states_count = ap (λ (X : Automaton). length X.states) w.states ∙ length-map (take l.explored l.keys) (st l.keys) ∙ length-take-le l.explored l.keys w.within

    module _ (k : K) (f : slice_get l.keys l.explored ≡ Some k) where
      abbrev next : List K
      next = fold (with_new same) l.keys (T k)

      inside : l.explored < length l.keys
      inside = slice_get_within l.keys l.explored k f

      listed_next : next ≡ listing same T start (suc l.explored)
      listed_next = ap (λ ks. fold (with_new same) ks (T k)) w.listed ∙ sym (ap (with_targets_of same T (listing same T start l.explored)) (ap (λ ks. slice_get ks l.explored) (sym w.listed) ∙ f))

      counted_next : count + length (net.successors k) ≡ sum_by (λ s. length (T s)) (take (suc l.explored) next)
      counted_next =
          let behind = fold_behind same (T k) l.keys in
          let step = ap (λ ks. sum_by (λ s. length (T s)) (take (suc l.explored) ks)) behind.1 ∙ sum_step (λ s. length (T s)) l.keys behind.0 l.explored k inside in
          let here : length (T (slice_index_or l.keys l.explored k)) ≡ length (net.successors k) = ap (λ s. length (T s)) (get_or_from_slice_get l.keys l.explored k k f) ∙ length-map (net.successors k) key_of in
          let old = w.counted in
          omega arith

      taken_next : take (suc l.explored) next ≡ take l.explored l.keys ++ k ∷ []
      taken_next =
          let behind = fold_behind same (T k) l.keys in
          let m = inside in
          ap (take (suc l.explored)) behind.1 ∙ take-append-le (suc l.explored) l.keys behind.0 (omega arith) ∙ take_got l.keys l.explored k f

      states_next : map (st next) (take (suc l.explored) next) ≡ map (st l.keys) (take l.explored l.keys) ++ st next k ∷ []
      states_next =
          let behind = fold_behind same (T k) l.keys in
          let grown : next ≡ l.keys ++ behind.0 = behind.1 in
          let there : (y : K) → Has (take l.explored l.keys) y → (z : K) → Has (T y) z → Has l.keys z = λ y h z t.
          let q = Has_taken_at l.explored l.keys y h in
          subst (λ ks. Has ks z) (sym w.listed)
          (listed_targets same decides T start l.explored q.0 y z q.1 (subst (λ ks. q.0 < length ks) w.listed q.2)
          (subst (λ v. Has (T v) z) (sym (ap (λ ks. slice_index_or ks q.0 y) (sym w.listed) ∙ q.3)) t)) in
          let old : map (st next) (take l.explored l.keys) ≡ map (st l.keys) (take l.explored l.keys) =
          ap (λ ks. map (st ks) (take l.explored l.keys)) grown ∙ map_agree (st (l.keys ++ behind.0)) (st l.keys) (take l.explored l.keys) (λ y h. state_stays same decides sorted net l.keys behind.0 y (there y h)) in
          ap (map (st next)) taken_next ∙ map-append (st next) (take l.explored l.keys) (k ∷ []) ∙ ap (λ ss. ss ++ st next k ∷ []) old

      -- also the lengths of its lists of edges
      pub lengths_next : (m : WorklistView K) (n : ℕ) (ns more : List ℕ) → m.keys ≡ next → m.explored ≡ l.explored + 1 → ns ≡ lengths_of net l → n ≡ length (net.successors k) → more ≡ ns ++ n ∷ [] → more ≡ lengths_of net m
      lengths_next m n ns more g t e q h =
          let one : m.explored ≡ suc l.explored = omega arith in
          let all : take m.explored m.keys ≡ take l.explored l.keys ++ k ∷ [] = (λ i. take (one i) (g i)) ∙ taken_next in
          h ∙ (λ i. e i ++ q i ∷ []) ∙ sym (map-append successor_count (take l.explored l.keys) (k ∷ [])) ∙ ap (map successor_count) (sym all)

      -- a thing that was taken has the same edges
      module _ (i : ℕ) (less : i < l.explored) (t : HasSuccessorsOf net l.keys i k) where
        within_keys : i < length l.keys
        within_keys = slice_get_within l.keys i t.0 t.1

        same_successors_at : (d : K) → slice_index_or (take l.explored l.keys) i d ≡ t.0
        same_successors_at d = get_or-take l.explored l.keys i d less ∙ get_or_from_slice_get l.keys i t.0 d t.1

        within_taken : i < length (take l.explored l.keys)
        within_taken = let a = length-take-le l.explored l.keys w.within in omega (arith, less)

        -- so its targets are there
        there_all : (z : K) → Has (T k) z → Has l.keys z
        there_all z h =
            subst (λ ks. Has ks z) (sym w.listed)
            (listed_targets same decides T start l.explored i k z less (subst (λ ks. i < length ks) w.listed within_keys)
            (subst (λ v. Has (T v) z) (sym (ap (λ ks. slice_index_or ks i k) (sym w.listed) ∙ get_or_from_slice_get l.keys i t.0 k t.1)) (subst (λ xs. Has (map key_of xs) z) (sym t.2) h)))

        pub keys_stay : next ≡ l.keys
        keys_stay = fold_within same decides (T k) l.keys there_all

        pub length_at : (ns : List ℕ) (d : ℕ) → ns ≡ lengths_of net l → slice_index_or ns i d ≡ length (net.successors k)
        length_at ns d e = ap (λ xs. slice_index_or xs i d) e ∙ get_or-map successor_count (take l.explored l.keys) i k d within_taken ∙ ap successor_count (same_successors_at k) ∙ ap length t.2

        edges_at : (state_at A i).edges ≡ edges_in same sorted l.keys (net.successors k)
        edges_at =
            ap (λ (X : Automaton). (state_at X i).edges) w.states
            ∙ ap (λ (s : State). s.edges) (get_or-map (st l.keys) (take l.explored l.keys) i k (record { accepting = true; edges = [] }) within_taken ∙ ap (st l.keys) (same_successors_at k))
            ∙ ap (edges_in same sorted l.keys) t.2

      grown_longer : length l.keys ≤ length next
      grown_longer = let b = fold_behind same (T k) l.keys in let e = ap length b.1 ∙ length-append l.keys b.0 in omega arith

      -- one more was taken
      pub goes_on : (m : WorklistView K) (more : ℕ) (edges : List Edge) (B : Automaton) → m.keys ≡ next → m.explored ≡ l.explored + 1 → more ≡ count + length (net.successors k) → edges ≡ edges_in same sorted m.keys (net.successors k)
          → B ≡ with_state A (net.accepts k) edges → IsOnWay m more B
      goes_on m more edges B g t c e b =
          let n : m.explored ≡ suc l.explored = omega arith in
          let is : m ≡ (let x : WorklistView K = record { keys = next; explored = suc l.explored } in x) = λ i. let x : WorklistView K = record { keys = g i; explored = n i } in x in
          let last : edges ≡ edges_in same sorted next (net.successors k) = e ∙ ap (λ ks. edges_in same sorted ks (net.successors k)) g in
          let long = grown_longer in
          let short = inside in
          subst (λ x. IsOnWay x more B) (sym is) (record {
            listed = listed_next;
            states = b ∙ (λ i. with_state (w.states i) (net.accepts k) (last i)) ∙ ap (λ ss. let X : Automaton = record { sets = sets; states = ss } in X) (sym states_next);
            counted = c ∙ counted_next;
            within = omega arith;
          })

      -- by a thing that was taken
      pub goes_on_like : (i : ℕ) (m : WorklistView K) (more : ℕ) (B : Automaton) → i < l.explored → HasSuccessorsOf net l.keys i k → m.keys ≡ l.keys → m.explored ≡ l.explored + 1 → more ≡ count + length (net.successors k)
          → B ≡ with_state A (net.accepts k) (state_at A i).edges → IsOnWay m more B
      goes_on_like i m more B less t g n c b = goes_on m more (state_at A i).edges B (g ∙ sym (keys_stay i less t)) n c (edges_at i less t ∙ ap (λ ks. edges_in same sorted ks (net.successors k)) (sym g)) b

      -- there are too many edges
      pub too_many_edges : (most_states most_edges : ℕ) → most_edges < count + length (net.successors k) → PassesLimits same T start most_states most_edges
      too_many_edges ms me p = (suc l.explored, inr (subst (λ s. me < s) (counted_next ∙ ap (λ ks. sum_by (λ s. length (T s)) (take (suc l.explored) ks)) listed_next) p))

      -- there are too many states
      pub too_many_states : (most_states most_edges : ℕ) (keys : List K) → keys ≡ next → most_states < length keys → PassesLimits same T start most_states most_edges
      too_many_states ms me keys g p = (suc l.explored, inl (subst (λ (ks : List K). ms < length ks) (g ∙ listed_next) p))

    -- there are too many edges with those of the things that are listed and not yet taken
    pub too_many_ahead : (most_states most_edges : ℕ) → most_edges < count + edges_behind net l.keys l.explored → PassesLimits same T start most_states most_edges
    too_many_ahead ms me p =
        let n = length l.keys in
        let edges : K → ℕ = λ s. length (T s) in
        let d : (n - l.explored) + l.explored ≡ n = let b = w.within in omega arith in
        let later = listing_later same T start l.explored (n - l.explored) in
        let grown : listing same T start n ≡ l.keys ++ later.0 = ap (listing same T start) (sym d) ∙ later.1 ∙ ap (λ ks. ks ++ later.0) (sym w.listed) in
        let all : take n (listing same T start n) ≡ l.keys = ap (take n) grown ∙ take-append-le n l.keys later.0 (omega arith) ∙ take_whole n l.keys (omega arith) in
        let sum = ap (sum_by edges) all in
        let split = sum_split edges l.explored l.keys in
        let old = w.counted in
        (n, inr (omega arith))

    module _ (f : slice_get l.keys l.explored ≡ None) where
      all : l.explored ≡ length l.keys
      all = let a = past l.keys l.explored f in let b = w.within in omega arith

      complete : IsComplete same T start l.explored
      complete = all ∙ ap length w.listed

      -- all were taken
      pub arrives : IsReachable same sorted (moves_of net) start sets A
      arrives =
          let whole = take_whole l.explored l.keys (past l.keys l.explored f) in
          (l.explored, complete, w.states ∙ ap (λ ss. let X : Automaton = record { sets = sets; states = ss } in X) (ap (map (st l.keys)) whole ∙ ap (λ ks. map (st ks) ks) w.listed))

      -- and no limit was passed
      pub fits_within : (most_states most_edges : ℕ) → length l.keys ≤ most_states → count ≤ most_edges → PassesLimits same T start most_states most_edges → ⊥
      fits_within ms me p q =
          never_passed same T start ms me l.explored complete (subst (λ (ks : List K). length ks ≤ ms) w.listed p)
          (subst (λ s. s ≤ me) (w.counted ∙ ap (λ ks. sum_by (λ s. length (T s)) (take l.explored ks)) w.listed) q)
