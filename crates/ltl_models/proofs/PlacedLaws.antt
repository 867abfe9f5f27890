-- The places of the edges by target.
use Rattle.std.proofs.Common.{◌≡◌, ℕ, zero, suc, Some, length-append, ◌+◌, ◌*◌, ◌%◌, ◌^◌, ◌<◌, ◌≤◌, inl, inr, List, [], ◌∷◌, ◌++◌, length, map, refl, sym, ◌∙◌, ap, subst, arith, IsPermutation}
use Rattle.std.specs.Prelude.{slice_get, slice_index_or, take, All}
use Rattle.std.specs.declared.cmp.Ordering.TheVariants.{Less}
use Rattle.std.specs.List.Sorted.{IsSorted}
use Rattle.std.specs.Ordering.{nat_cmp, on, ordering_then, then_cmp}
use Rattle.std.proofs.lemmas.List.{get_or-map, length-map, map_push, take_more}
use Rattle.std.proofs.lemmas.List.Sorted.{Contains-permutation, IsPermutation-sym}
use Rattle.std.proofs.lemmas.Bool.Decides.{nat_tests}
use Rattle.std.proofs.lemmas.Nat.{mod-mul-add}
use Rattle.ltl_spec.specs.Collections.Sets.{Has, IsRising}
use Rattle.ltl_spec.specs.Collections.Lists.{HasNoRepeats}
use Rattle.ltl_spec.specs.Automata.Automaton.{Edge}
use Rattle.ltl_spec.proofs.Collections.Orders.{nat_linear}
use Rattle.ltl_spec.proofs.Collections.SetLaws.{all_from, all_at, append_cases, append_left, append_right}
use Rattle.ltl_spec.proofs.Collections.MemberLaws.{Has-map, map_cases}
use Rattle.ltl_spec.proofs.Collections.ListLaws.{HasNoRepeats-push, Has-from_contains, Contains-from_has, Has-at, get_done, index_append, index_done}
use Rattle.ltl_spec.proofs.Collections.CaseLaws.{below_equal_above, below_or_last}
use Rattle.ltl_spec.proofs.Collections.SortedOnce.{once_permuted, sorted_rises}
use Rattle.std.proofs.lemmas.Option.{slice_get_within}
use Rattle.ltl_automaton.proofs.WayLaws.{take_got}
use Rattle.ltl_automaton.specs.CodedEdges.{coded_edge_of}
use Rattle.ltl_models.specs.BaView.{target_at, place_cmp, HaveOrders, IsTargetOrder}
use Rattle.ltl_automaton.specs.declared.coded_edge.CodedEdge as code

-- a target and a place as one number, and the place in it
abbrev pub key_of : ℕ → ℕ → ℕ
key_of target place = target * 2 ^ 32 + place

abbrev pub place_in : ℕ → ℕ
place_in key = key % 2 ^ 32

place_again : (t p : ℕ) → p < 2 ^ 32 → place_in (key_of t p) ≡ p
place_again t p l = mod-mul-add t (2 ^ 32) p l

-- such numbers are in the order of their targets, then of their places
key_order : (t p u q : ℕ) → p < 2 ^ 32 → q < 2 ^ 32 → nat_cmp (key_of t p) (key_of u q) ≡ Less → ordering_then (nat_cmp t u) (nat_cmp p q) ≡ Less
key_order t p u q l m e = grind (arith, nat_tests)

abbrev key_at : List Edge → ℕ → ℕ
key_at es k = key_of (target_at es k) k

-- the first n edges stand in the list, each once
pub record IsPlaced (es : List Edge) (n : ℕ) (keys : List ℕ) : Type 0 where
  pub places : (x : ℕ) → Has keys x → (k : ℕ) × (k < n) × (x ≡ key_at es k)
  pub whole : (k : ℕ) → k < n → Has keys (key_at es k)
  pub once : HasNoRepeats keys

pub placed_none : (es : List Edge) → IsPlaced es 0 []
placed_none es = record { places = λ x h. absurd h; whole = λ k l. absurd (omega arith); once = tt }

pub placed_next : (es : List Edge) (n : ℕ) (keys more : List ℕ) (x : ℕ) → n < 2 ^ 32 → IsPlaced es n keys → x ≡ key_at es n → more ≡ keys ++ x ∷ [] → IsPlaced es (n + 1) more
placed_next es n keys more x small w e p = subst (IsPlaced es (n + 1)) (sym (p ∙ ap (λ y. keys ++ y ∷ []) e)) (record {
  places = λ y h. elim (append_cases keys (key_at es n ∷ []) y h) [
    | inl i ↦ let (k, l, f) = w.places y i in (k, omega arith, f)
    | inr i ↦ elim i [ inl f ↦ (n, omega arith, f) | inr z ↦ absurd z ]
  ];
  whole = λ k l. elim (below_or_last k n l) [
    | inl m ↦ append_left keys (key_at es n ∷ []) (key_at es k) (w.whole k m)
    | inr i ↦ append_right keys (key_at es n ∷ []) (key_at es k) (inl (ap (key_at es) i))
  ];
  once = HasNoRepeats-push keys (key_at es n) w.once (λ h.
      let (k, l, f) = w.places (key_at es n) h in
      let same : n ≡ k = sym (place_again (target_at es n) n small) ∙ ap place_in f ∙ place_again (target_at es k) k (omega arith) in
      omega arith);
})

rising_places : (es : List Edge) (n : ℕ) (keys : List ℕ) → n ≤ 2 ^ 32 → ((x : ℕ) → Has keys x → (k : ℕ) × (k < n) × (x ≡ key_at es k)) → IsRising nat_cmp keys → IsRising (place_cmp es) (map place_in keys)
rising_places es n [] small t r = tt
rising_places es n (x ∷ keys) small t r = (
  all_from (λ k. place_cmp es (place_in x) k ≡ Less) (map place_in keys) (λ k h. let (y, i, e) = map_cases place_in keys k h in subst (λ j. place_cmp es (place_in x) j ≡ Less) (sym e) (before y i)),
  rising_places es n keys small (λ y h. t y (inr h)) r.1,
)
  where
    before : (y : ℕ) → Has keys y → place_cmp es (place_in x) (place_in y) ≡ Less
    before y i =
        let (k, l, e) = t x (inl refl) in
        let (j, m, f) = t y (inr i) in
        let here : place_in x ≡ k = ap place_in e ∙ place_again (target_at es k) k (omega arith) in
        let there : place_in y ≡ j = ap place_in f ∙ place_again (target_at es j) j (omega arith) in
        let less : nat_cmp (key_at es k) (key_at es j) ≡ Less = subst (λ z. nat_cmp z (key_at es j) ≡ Less) e (subst (λ z. nat_cmp x z ≡ Less) f (all_at (λ z. nat_cmp x z ≡ Less) keys y r.0 i)) in
        subst (λ z. place_cmp es z (place_in y) ≡ Less) (sym here) (subst (λ z. place_cmp es k z ≡ Less) (sym there) (key_order (target_at es k) k (target_at es j) j (omega arith) (omega arith) less))

-- sorted they are the places of all edges by target
pub placed_order : (es : List Edge) (n : ℕ) (xs ys : List ℕ) → n ≤ 2 ^ 32 → IsPlaced es n xs → n ≡ length es → IsPermutation xs ys → IsSorted nat_cmp ys → IsTargetOrder es (map place_in ys)
placed_order es n xs ys small w e p s =
    let places : (x : ℕ) → Has ys x → (k : ℕ) × (k < n) × (x ≡ key_at es k) = λ x h. w.places x (Has-from_contains xs x (Contains-permutation ys xs x (IsPermutation-sym xs ys p) (Contains-from_has ys x h))) in
    record {
      within = λ i d l.
          let (x, h, f) = map_cases place_in ys (slice_index_or (map place_in ys) i d) (Has-at (map place_in ys) i d l) in
          let (k, m, g) = places x h in
          let at : place_in x ≡ k = ap place_in g ∙ place_again (target_at es k) k (omega arith) in
          subst (λ j. j < length es) (sym (f ∙ at)) (omega arith);
      rising = rising_places es n ys small places (sorted_rises nat_linear ys s (once_permuted nat_linear xs ys p w.once));
      whole = λ k l.
          let h = Has-from_contains ys (key_at es k) (Contains-permutation xs ys (key_at es k) p (Contains-from_has xs (key_at es k) (w.whole k (omega arith)))) in
          subst (Has (map place_in ys)) (place_again (target_at es k) k (omega arith)) (Has-map place_in ys (key_at es k) h);
    }

-- an edge of the code at its place
pub placed_here : (edges : List code.CodedEdge) (k : ℕ) (d : code.CodedEdge) → k < length edges → key_of (slice_index_or edges k d).target k ≡ key_at (map coded_edge_of edges) k
placed_here edges k d l = ap (λ t. key_of t k) (sym (ap (λ (f : Edge). f.target) (get_or-map coded_edge_of edges k d (record { cube = []; target = 0; marks = [] }) l)))

-- edges with other labels have the same places by target
module _ (f : Edge → Edge) (keeps : (e : Edge) → (f e).target ≡ e.target) where
  same_target : (es : List Edge) (k : ℕ) → target_at (map f es) k ≡ target_at es k
  same_target [] k = refl
  same_target (e ∷ es) zero = keeps e
  same_target (e ∷ es) (suc k) = same_target es k

  pub order_kept : (es : List Edge) (ps : List ℕ) → IsTargetOrder es ps → IsTargetOrder (map f es) ps
  order_kept es ps o =
      let same : target_at (map f es) ≡ target_at es = λ i k. same_target es k i in
      let long = length-map es f in
      record {
        within = subst (λ n. All (λ k. k < n) ps) (sym long) o.within;
        rising = subst (λ (t : ℕ → ℕ). IsRising (then_cmp (on t nat_cmp) nat_cmp) ps) (sym same) o.rising;
        whole = λ k l. o.whole k (subst (λ n. k < n) long l);
      }

-- the places of one key more
pub places_more : (keys : List ℕ) (i : ℕ) (ps : List ℕ) (d : ℕ) → i < length keys → ps ≡ map place_in (take i keys) → ps ++ place_in (slice_index_or keys i d) ∷ [] ≡ map place_in (take (i + 1) keys)
places_more keys i ps d l e = ap (λ (w : List ℕ). w ++ place_in (slice_index_or keys i d) ∷ []) e ∙ sym (map_push place_in (take i keys) (slice_index_or keys i d)) ∙ ap (map place_in) (sym (take_more keys i d l))

-- the places of one list more
module _ (edges : List Edge) (ps : List ℕ) (o : IsTargetOrder edges ps) where
  orders_pushed : (ls : List (List Edge)) (xs : List (List ℕ)) → HaveOrders ls xs → HaveOrders (ls ++ edges ∷ []) (xs ++ ps ∷ [])
  orders_pushed ls xs w = record {
    long = let a = length-append xs (ps ∷ []) in let b = length-append ls (edges ∷ []) in let c = w.long in let d = one ps in let e = one edges in omega arith;
    orders = λ k es g. elim (below_equal_above k (length ls)) [
      | inl l ↦
          let before : slice_get ls k ≡ Some es = sym (get_front ls k l) ∙ g in
          let m = w.long in
          subst (IsTargetOrder es) (sym (index_append xs (ps ∷ []) k [] (omega arith))) (w.orders k es before)
      | inr r ↦ elim r [
        | inl q ↦
            let here : Some edges ≡ Some es = sym (get_done ls [] edges) ∙ ap (slice_get (ls ++ edges ∷ [])) (sym q) ∙ g in
            let m = w.long in
            let at : k ≡ length xs = omega arith in
            subst (IsTargetOrder es) (sym (ap (λ i. slice_index_or (xs ++ ps ∷ []) i []) at ∙ index_done xs [] ps [])) (subst (λ ds. IsTargetOrder ds ps) (Some_injective here) o)
        | inr m ↦ let s = slice_get_within (ls ++ edges ∷ []) k es g in let b = length-append ls (edges ∷ []) in let e = one edges in absurd (omega arith)
      ]
    ];
  }
    where
      one : {X : Type 0} (x : X) → length (x ∷ []) ≡ 1
      one x = refl

      Some_injective : {x y : List Edge} → Some x ≡ Some y → x ≡ y
      Some_injective e = cc

      get_front : (ys : List (List Edge)) (k : ℕ) → k < length ys → slice_get (ys ++ edges ∷ []) k ≡ slice_get ys k
      get_front [] k l = absurd (omega arith)
      get_front (y ∷ ys) zero l = refl
      get_front (y ∷ ys) (suc k) l = get_front ys k (omega arith)

  pub orders_next : (lists : List (List Edge)) (n : ℕ) (places more : List (List ℕ)) → HaveOrders (take n lists) places → slice_get lists n ≡ Some edges → more ≡ places ++ ps ∷ [] → HaveOrders (take (n + 1) lists) more
  orders_next lists n places more w g e =
      let z : suc n ≡ n + 1 = omega arith in
      subst (λ m. HaveOrders (take m lists) more) z (subst (λ ls. HaveOrders ls more) (sym (take_got lists n edges g)) (subst (HaveOrders (take n lists ++ edges ∷ [])) (sym e) (orders_pushed (take n lists) places w)))
