-- The steps of finding the classes of states.
use Rattle.std.proofs.Common.{◌≡◌, ℕ, Bool, ◌&&◌, true, zero, suc, ◌+◌, ◌<◌, ◌≤◌, ◌⊎◌, inl, inr, List, [], ◌∷◌, ◌++◌, map, length, refl, sym, subst, ◌∙◌, ap, arith, Some, None}
use Rattle.std.specs.Prelude.{nat_eq, slice_index, slice_index_or, slice_get, All}
use Rattle.std.specs.List.{range_with_len}
use Rattle.std.proofs.lemmas.List.{get_or-map, length-map}
use Rattle.ltl_spec.specs.Collections.Lists.{HasNoRepeats}
use Rattle.ltl_spec.proofs.Collections.CaseLaws.{below_equal_above, beq_true, beq_refl}
use Rattle.ltl_spec.proofs.Collections.ListLaws.{index_append, index_done}
use Rattle.ltl_automaton.proofs.SharedLaws.{got_once}
use Rattle.std.specs.Bool.{Decides, beq}
use Rattle.std.specs.Cmp.{first_so, second_so}
use Rattle.std.proofs.lemmas.Bool.Decides.{Decides-eqb}
use Rattle.std.proofs.lemmas.Option.{get_or_from_slice_get, slice_get_within}
use Rattle.ltl_spec.specs.Automata.Automaton.{Edge}
use Rattle.ltl_automaton.specs.CodedEdges.{coded_edge_of}
use Rattle.ltl_automaton.specs.declared.coded_edge.CodedEdge as made
use Rattle.ltl_automaton.specs.declared.shared.SharedState.{SharedState}
use Rattle.ltl_automaton.proofs.EdgeLaws.{All_from_map}
use Rattle.ltl_passes.proofs.TargetLaws.{pushed_longer}
use Rattle.ltl_passes.specs.Partition.{AreListsWithin, AreSignatures, IsFirstPlaces, IsLeastAlike, IsLeastPlaces, place_signature, list_view, retargeted_list}

-- one more number
range_more : (a n : ℕ) → range_with_len a (suc n) ≡ range_with_len a n ++ (a + n) ∷ []
range_more a zero = let e : a ≡ a + 0 = omega arith in λ i. e i ∷ []
range_more a (suc n) =
    let e : (a + 1) + n ≡ a + suc n = omega arith in
    ap (λ l. a ∷ l) (range_more (a + 1) n ∙ ap (λ m. range_with_len (a + 1) n ++ m ∷ []) e)

pub range_next : (n : ℕ) (xs ys : List ℕ) → xs ≡ range_with_len 0 n → ys ≡ xs ++ n ∷ [] → ys ≡ range_with_len 0 (n + 1)
range_next n xs ys e p =
    let a : 0 + n ≡ n = omega arith in
    let b : suc n ≡ n + 1 = omega arith in
    p ∙ ap (λ l. l ++ n ∷ []) e ∙ sym (ap (λ m. range_with_len 0 n ++ m ∷ []) a) ∙ sym (range_more 0 n) ∙ ap (range_with_len 0) b

-- what stands at a place stays there where more is put behind
pub get_more : {K : Type 0} (xs more : List K) (i : ℕ) (x : K) → slice_get xs i ≡ Some x → slice_get (xs ++ more) i ≡ Some x
get_more [] more i x e = absurd (never e)
  where
    never : None ≡ Some x → ⊥
    never q = cc
get_more (y ∷ ys) more zero x e = e
get_more (y ∷ ys) more (suc i) x e = get_more ys more i x e

-- first places

pub least_from : (signatures firsts names : List ℕ) (count : ℕ) → IsFirstPlaces signatures count 0 firsts → names ≡ map (slice_index firsts) signatures → IsLeastPlaces signatures names
least_from signatures firsts names count w e = record {
  long = ap length e ∙ length-map signatures (slice_index firsts);
  low = λ s l. let a = at s l in let b = w.low s (omega arith) l in omega arith;
  same = λ s l. ap (slice_index signatures) (at s l) ∙ w.same s (omega arith) l;
  once = λ s t l m c. at s l ∙ ap (slice_index firsts) c ∙ sym (at t m);
}
  where
    at : (s : ℕ) → s < length signatures → slice_index names s ≡ slice_index firsts (slice_index signatures s)
    at s l = ap (λ xs. slice_index xs s) e ∙ get_or-map (slice_index firsts) signatures s 0 0 l

-- signatures

module _ {K : Type 0} (count : ℕ) (view : ℕ → K) where
  -- one more signature
  pub coded_push : (keys more_keys : List K) (signatures more_signatures : List ℕ) (i : ℕ) → AreSignatures count view keys signatures → HasNoRepeats more_keys
      → ((more : List K) × (more_keys ≡ keys ++ more)) → more_signatures ≡ signatures ++ i ∷ [] → slice_get more_keys i ≡ Some (view count) → AreSignatures (count + 1) view more_keys more_signatures
  coded_push keys more_keys signatures more_signatures i w d grown e g = record {
    distinct = d;
    long = pushed_longer signatures more_signatures i e ∙ ap (λ n. n + 1) w.long;
    seen = λ s l. at s (below_equal_above s count) l;
  }
    where
      at : (s : ℕ) → (s < count) ⊎ ((s ≡ count) ⊎ (count < s)) → s < count + 1 → slice_get more_keys (slice_index more_signatures s) ≡ Some (view s)
      at s (inl l) m =
          let n = w.long in
          ap (slice_get more_keys) (ap (λ xs. slice_index xs s) e ∙ index_append signatures (i ∷ []) s 0 (omega arith)) ∙ ap (λ ks. slice_get ks (slice_index signatures s)) grown.1 ∙ get_more keys grown.0 (slice_index signatures s) (view s) (w.seen s l)
      at s (inr (inl q)) m =
          ap (λ t. slice_get more_keys (slice_index more_signatures t)) (q ∙ sym w.long) ∙ ap (slice_get more_keys) (ap (λ xs. slice_index xs (length signatures)) e ∙ index_done signatures [] i 0) ∙ g ∙ ap (λ t. Some (view t)) (sym q)
      at s (inr (inr q)) m = absurd (omega arith)

  index_at : (xs : List ℕ) (k d : ℕ) → k < length xs → slice_index_or xs k d ≡ slice_index xs k
  index_at [] k d l = absurd (omega arith)
  index_at (x ∷ xs) zero d l = refl
  index_at (x ∷ xs) (suc k) d l = index_at xs k d (omega arith)

  -- every signature is the place of a key
  pub signatures_within : (keys : List K) (signatures : List ℕ) → AreSignatures count view keys signatures → All (λ c. c < length keys) signatures
  signatures_within keys signatures c = λ k d l.
      let n = c.long in
      let m = slice_get_within keys (slice_index signatures k) (view k) (c.seen k (omega arith)) in
      let q = index_at signatures k d l in
      omega arith

  -- the least places of the signatures are the least things that are seen as equal
  pub least_alike : (keys : List K) (signatures names : List ℕ) → AreSignatures count view keys signatures → IsLeastPlaces signatures names → IsLeastAlike count view names
  least_alike keys signatures names c l = record {
    long = l.long ∙ c.long;
    low = λ s m. l.low s (here s m);
    same = λ s m.
        let p : slice_index names s ≤ s = l.low s (here s m) in
        Some_injective _ _ (sym (c.seen (slice_index names s) (omega arith)) ∙ ap (slice_get keys) (l.same s (here s m)) ∙ c.seen s m);
    once = λ s t m k e. l.once s t (here s m) (here t k) (got_once keys (slice_index signatures s) (slice_index signatures t) (view s) c.distinct (c.seen s m) (c.seen t k ∙ ap (λ x. Some x) (sym e)));
  }
    where
      here : (s : ℕ) → s < count → s < length signatures
      here s m = let n = c.long in omega arith

      Some_injective : (x y : K) → Some x ≡ Some y → x ≡ y
      Some_injective x y e = cc

-- equal places are one place
abbrev pub same_place : SharedState → SharedState → Bool
same_place p q = nat_eq p.list q.list && beq p.accepting q.accepting

pub place_Decides : (p q : SharedState) → Decides (same_place p q) (p ≡ q)
place_Decides p q = (
  (λ t.
      let l = (Decides-eqb p.list q.list).0 (first_so _ _ t) in
      let a = beq_true p.accepting q.accepting (second_so (nat_eq p.list q.list) _ t) in
      λ i. let r : SharedState = record { list = l i; accepting = a i } in r),
  (λ h. ap (λ b. b && beq p.accepting q.accepting) ((Decides-eqb p.list q.list).1 (ap (λ (r : SharedState). r.list) h)) ∙ ap (λ a. beq p.accepting a) (sym (ap (λ (r : SharedState). r.accepting) h)) ∙ beq_refl p.accepting),
)

-- the place that was read, by the signature of its list
pub place_with_signature : (places : List SharedState) (signatures : List ℕ) (s : ℕ) (p : SharedState) → slice_get places s ≡ Some p → (let q : SharedState = record { list = slice_index signatures p.list; accepting = p.accepting } in q) ≡ place_signature places signatures s
place_with_signature places signatures s p e = ap (λ (r : SharedState). let q : SharedState = record { list = slice_index signatures r.list; accepting = r.accepting } in q) (sym (get_or_from_slice_get places s p (record { list = 0; accepting = true }) e))

-- the list that was read
pub list_seen : (lists : List (List Edge)) (f : ℕ → ℕ) (k : ℕ) (es : List Edge) → slice_get lists k ≡ Some es → retargeted_list f es ≡ list_view lists f k
list_seen lists f k es e = ap (retargeted_list f) (sym (get_or_from_slice_get lists k es [] e))

-- the edges of a list lead where those of all lists do
pub list_within : (lists : List (List Edge)) (n k : ℕ) (edges : List made.CodedEdge) → AreListsWithin lists n → slice_get lists k ≡ Some (map coded_edge_of edges) → All (λ e. e.target < n) edges
list_within lists n k edges w e =
    let P : Edge → Type 0 = λ f. f.target < n in
    All_from_map P coded_edge_of edges (subst (All P) (get_or_from_slice_get lists k (map coded_edge_of edges) [] e) (w k [] (slice_get_within lists k (map coded_edge_of edges) e)))
