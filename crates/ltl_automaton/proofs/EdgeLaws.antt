-- Edges of the code that are seen as equal are equal.
use Rattle.std.proofs.Common.{◌≡◌, ℕ, Bool, List, [], ◌∷◌, ◌++◌, map, refl, sym, ◌∙◌, ap}
use Rattle.std.specs.Prelude.{fold, All}
use Rattle.std.specs.List.{flat_map}
use Rattle.std.specs.Cmp.Lexicographic.{pointwise, pointwise_decides}
use Rattle.std.specs.Hash as fed
use Rattle.std.proofs.lemmas.Bool.Decides.{same_from_decides}
use Rattle.std.proofs.lemmas.List.{length-map, map-append}
use Rattle.std.proofs.lemmas.List.Elements.{All-cons, All-head, All-tail, All-nil}
use Rattle.ltl_spec.specs.Automata.Automaton.{Edge, edge_cmp}
use Rattle.std.specs.Bool.{Decides}
use Rattle.std.specs.declared.cmp.Ordering.{Ordering}
use Rattle.ltl_spec.specs.Collections.Sets.{set_of}
use Rattle.ltl_spec.proofs.Collections.SortedSets.{set_of_keys}
use Rattle.ltl_automaton.specs.EdgeView.{same_edges, edges_Decides}

module _ {E : Type 0} (edge_of : E → Edge) where
  -- lists of edges that are seen as equal are equal
  edges_exact : ((e f : E) → edge_of e ≡ edge_of f → e ≡ f) → (xs ys : List E) → map edge_of xs ≡ map edge_of ys → xs ≡ ys
  edges_exact exact [] [] h = refl
  edges_exact exact [] (y ∷ ys) h = cc
  edges_exact exact (x ∷ xs) [] h = cc
  edges_exact exact (x ∷ xs) (y ∷ ys) h =
      let p : edge_of x ≡ edge_of y = cc in
      let q : map edge_of xs ≡ map edge_of ys = cc in
      let a = exact x y p in
      let b = edges_exact exact xs ys q in
      λ i. a i ∷ b i

  -- the test of lists
  pub list_same : (same : E → E → Bool) → ((e f : E) → Decides (same e f) (e ≡ f)) → ((e f : E) → edge_of e ≡ edge_of f → e ≡ f) → (r : Bool) (xs ys us vs : List E) (s t : List Edge) → r ≡ pointwise same us vs → us ≡ xs → vs ≡ ys → map edge_of xs ≡ s → map edge_of ys ≡ t
      → r ≡ same_edges s t
  list_same same decides exact r xs ys us vs s t e p q f g = e ∙ (λ i. pointwise same (p i) (q i)) ∙ test ∙ (λ i. same_edges (f i) (g i))
    where
      test : pointwise same xs ys ≡ same_edges (map edge_of xs) (map edge_of ys)
      test =
          same_from_decides (pointwise same xs ys) (same_edges (map edge_of xs) (map edge_of ys))
          ((λ h. ap (map edge_of) ((pointwise_decides decides xs ys).0 h)), λ h. (pointwise_decides decides xs ys).1 (edges_exact exact xs ys h)) (edges_Decides (map edge_of xs) (map edge_of ys))

  -- what is fed
  pub list_fed : {S : Type 0} (own : E → List (List ℕ)) (feed : Edge → List (List ℕ)) → ((e : E) → own e ≡ feed (edge_of e)) → (write : S → List ℕ → S) (t u : S) (xs : List E) → u ≡ fold write t (fed.slice own xs) → u ≡ fold write t (fed.slice feed (map edge_of xs))
  list_fed own feed feeds write t u xs q = fed.fed_along write t u (λ i. fed.usize (sym (length-map xs edge_of) i) ++ edges_fed xs i) q
    where
      edges_fed : (xs : List E) → flat_map own xs ≡ flat_map feed (map edge_of xs)
      edges_fed [] = refl
      edges_fed (x ∷ xs) = λ i. feeds x i ++ edges_fed xs i

  -- sorted edges without duplicates, as edges of the definitions
  pub edges_sorted : (order : E → E → Ordering) → ((e f : E) → order e f ≡ edge_cmp (edge_of e) (edge_of f)) → (es fs : List E) → es ≡ set_of order fs → map edge_of es ≡ set_of edge_cmp (map edge_of fs)
  edges_sorted order ordered es fs h = ap (map edge_of) (h ∙ (λ i. set_of (λ e f. ordered e f i) fs)) ∙ set_of_keys edge_cmp edge_of fs

-- one more on both sides
pub map_pushed : {X Y : Type 0} (f : X → Y) (xs ys : List X) (x : X) → ys ≡ xs ++ x ∷ [] → map f ys ≡ map f xs ++ f x ∷ []
map_pushed f xs ys x e = ap (map f) e ∙ map-append f xs (x ∷ [])

-- a function's values have it where each element's has
pub All_from_map : {X Y : Type 0} (P : Y → Type 0) (f : X → Y) (xs : List X) → All P (map f xs) → All (λ x. P (f x)) xs
All_from_map P f [] a = All-nil (λ x. P (f x))
All_from_map P f (x ∷ xs) a = All-cons (λ y. P (f y)) x xs (All-head P (f x) (map f xs) a) (All_from_map P f xs (All-tail P (f x) (map f xs) a))
