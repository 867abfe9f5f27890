-- The rows of a table made from nodes of a graph, one after the other.
use Rattle.std.proofs.Common.{◌≡◌, ℕ, zero, suc, ◌+◌, ◌<◌, Bool, true, false, inl, inr, List, [], ◌∷◌, ◌++◌, map, take, drop, length, refl, sym, ◌∙◌, ap, subst, arith, eqb, length-append, length-take, add-one, cond, append_assoc, drop-cons, get_or-set_other, get_or-set_same}
use Rattle.std.specs.Prelude.{slice_index_or, slice_index, slice_set}
use Rattle.std.proofs.lemmas.Bool.Decides.{Decides-eqb}
use Rattle.std.proofs.lemmas.List.{get_or-take, map_push}
use Rattle.ltl_spec.proofs.Collections.ListLaws.{index_append, place_again}
use Rattle.ltl_spec.specs.Collections.Sets.{Has}
use Rattle.ltl_spec.specs.Collections.Lists.{HasNoRepeats, place_of}
use Rattle.ltl_spec.specs.NormalForms.Normal.{Normal, Bottom}
use Rattle.ltl_spec.proofs.Collections.ListLaws.{Contains-from_has}
use Rattle.ltl_spec.proofs.Collections.MemberLaws.{at_map}
use Rattle.ltl_spec.proofs.NormalForms.SharedNodes.{Node, TopNode, BottomNode, LeafNode, NextNode, AndNode, OrNode, UntilNode, ReleaseNode, parts_of, tree_of, tree_in, trees, trees_push, tree_at, node_at, tree_of_alike, index_last, IsShared, AllBefore}
use Rattle.ltl_spec.proofs.Collections.CaseLaws.{below_or_last}
use Rattle.ltl_formula.specs.declared.row.Row.{Row}
use Rattle.ltl_formula.specs.SharedNodesView.{IsBelow, node_of}
use Rattle.ltl_formula.specs.PlacesView.{renumbered}
use Rattle.ltl_formula.specs.TableView.{AreOrdered, row_trees, places_by}
use Rattle.ltl_formula.specs.WalkView.{AreInOrder}
use Rattle.ltl_formula.proofs.SharedNodesLemmas.{below_of}

-- one element more of a list
take_next : (xs : List ℕ) (n : ℕ) → n < length xs → take (suc n) xs ≡ take n xs ++ slice_index xs n ∷ []
take_next [] n l = absurd (omega arith)
take_next (x ∷ xs) zero l = refl
take_next (x ∷ xs) (suc n) l = ap (λ ys. x ∷ ys) (take_next xs n (omega arith))

-- the tree of a node that is numbered anew
tree_renumbered : (F : ℕ → Normal) (f : ℕ → ℕ) (v : Node) → tree_of F (renumbered f v) ≡ tree_of (λ i. F (f i)) v
tree_renumbered F f TopNode = refl
tree_renumbered F f _ = refl

two : (n : ℕ) (f : ℕ → ℕ) (i k : ℕ) → f i < n → f k < n → (j : ℕ) → Has (f i ∷ f k ∷ []) j → j < n
two n f i k p q j (inl e) = subst (λ x. x < n) (sym e) p
two n f i k p q j (inr (inl e)) = subst (λ x. x < n) (sym e) q
two n f i k p q j (inr (inr h)) = absurd h

-- its operands
renumbered_before : (n : ℕ) (f : ℕ → ℕ) (v : Node) → ((i : ℕ) → Has (parts_of v) i → f i < n) → AllBefore n (renumbered f v)
renumbered_before n f TopNode b j h = absurd h
renumbered_before n f BottomNode b j h = absurd h
renumbered_before n f (LeafNode l) b j h = absurd h
renumbered_before n f (NextNode i) b j (inl e) = subst (λ k. k < n) (sym e) (b i (inl refl))
renumbered_before n f (NextNode i) b j (inr h) = absurd h
renumbered_before n f (AndNode i k) b j h = two n f i k (b i (inl refl)) (b k (inr (inl refl))) j h
renumbered_before n f (OrNode i k) b j h = two n f i k (b i (inl refl)) (b k (inr (inl refl))) j h
renumbered_before n f (UntilNode i k) b j h = two n f i k (b i (inl refl)) (b k (inr (inl refl))) j h
renumbered_before n f (ReleaseNode i k) b j h = two n f i k (b i (inl refl)) (b k (inr (inl refl))) j h

-- in a list in which nothing stands twice two places of one number are one
same_place : (xs : List ℕ) → HasNoRepeats xs → (i j : ℕ) → i < length xs → j < length xs → slice_index xs i ≡ slice_index xs j → i ≡ j
same_place xs r i j l m e = sym (place_again eqb Decides-eqb xs i 0 r l) ∙ ap (λ x. place_of eqb x xs) e ∙ place_again eqb Decides-eqb xs j 0 r m

module _ (nodes : List Node) (shared : IsShared nodes) (numbers : List ℕ) (o : AreInOrder nodes numbers) (n : ℕ) (l : n < length numbers)
    (places : List ℕ) (placed : (j : ℕ) → j < n → slice_index places (slice_index numbers j) ≡ j)
    (rows : List Row) (count : length rows ≡ n) (made : row_trees rows ≡ map (tree_at nodes) (take n numbers)) (ordered : AreOrdered rows)
    (v new : Row) (here : node_of v ≡ node_at nodes (slice_index numbers n)) (is : node_of new ≡ renumbered (slice_index places) (node_of v)) where
  abbrev number : ℕ
  number = slice_index numbers n

  number_inside : number < length nodes
  number_inside = o.inside n 0 l

  -- an operand has its place among the rows, which stands for the same tree
  part_placed : (i : ℕ) → Has (parts_of (node_of v)) i → (slice_index places i < n) × (tree_at (map node_of rows) (slice_index places i) ≡ tree_at nodes i)
  part_placed i h =
      let taken = length-take n numbers in
      let found = Contains-from_has (take n numbers) i (o.operands n l i (subst (λ (u : Node). Has (parts_of u) i) here h)) in
      let j = found.0 in
      let within : j < length (take n numbers) = found.1 in
      let below : j < n = omega arith in
      let number_is : slice_index numbers j ≡ i = sym (get_or-take n numbers j 0 below) ∙ zero_default (take n numbers) j i within found.2 in
      let place : slice_index places i ≡ j = ap (slice_index places) (sym number_is) ∙ placed j below in
      let tree : tree_at (map node_of rows) j ≡ tree_at nodes i =
      ap (λ ts. tree_in ts j) made ∙ at_map (tree_at nodes) (take n numbers) j i Bottom within ∙ ap (tree_at nodes) found.2 in
      (subst (λ k. k < n) (sym place) below, ap (tree_at (map node_of rows)) place ∙ tree)
    where
      zero_default : (xs : List ℕ) (j i : ℕ) → j < length xs → slice_index_or xs j i ≡ i → slice_index_or xs j 0 ≡ i
      zero_default [] j i m e = absurd (omega arith)
      zero_default (x ∷ xs) zero i m e = e
      zero_default (x ∷ xs) (suc j) i m e = zero_default xs j i (omega arith) e

  -- the new row stands for the tree of its node
  new_tree : tree_of (tree_at (map node_of rows)) (node_of new) ≡ tree_at nodes number
  new_tree =
      ap (tree_of (tree_at (map node_of rows))) is
      ∙ tree_renumbered (tree_at (map node_of rows)) (slice_index places) (node_of v)
      ∙ tree_of_alike (λ i. tree_at (map node_of rows) (slice_index places i)) (tree_at nodes) (node_of v) (λ i h. (part_placed i h).1)
      ∙ ap (tree_of (tree_at nodes)) here
      ∙ sym (shared.stands number number_inside)

  pub trees_next : (more : List Row) → more ≡ rows ++ new ∷ [] → row_trees more ≡ map (tree_at nodes) (take (n + 1) numbers)
  trees_next more e =
      ap row_trees e
      ∙ ap trees (map_push node_of rows new)
      ∙ trees_push (map node_of rows) (node_of new)
      ∙ (λ t. made t ++ new_tree t ∷ [])
      ∙ sym (ap (map (tree_at nodes)) (rw add-one (take_next numbers n l)) ∙ map_push (tree_at nodes) (take n numbers) number)

  new_below : IsBelow n new
  new_below = below_of n new (subst (AllBefore n) (sym is) (renumbered_before n (slice_index places) (node_of v) (λ i h. (part_placed i h).0)))

  pub ordered_next : (more : List Row) → more ≡ rows ++ new ∷ [] → AreOrdered more
  ordered_next more e = subst AreOrdered (sym e) (λ i d m. elim (below_or_last i (length rows) (let a = length-append rows (new ∷ []) in omega arith)) [
    | inl k ↦ subst (IsBelow i) (sym (index_append rows (new ∷ []) i d k)) (ordered i d k)
    | inr k ↦ subst (IsBelow i) (sym (ap (λ j. slice_index_or (rows ++ new ∷ []) j d) k ∙ index_last rows new d)) (subst (λ j. IsBelow j new) (sym (k ∙ count)) new_below)
  ])

  pub placed_next : (long : length places ≡ length nodes) (more : List ℕ) → more ≡ slice_set places number n → (j : ℕ) → j < n + 1 → slice_index more (slice_index numbers j) ≡ j
  placed_next long more e j m = ap (λ xs. slice_index xs (slice_index numbers j)) e ∙ (elim (below_or_last j n m) [
    | inl k ↦ get_or-set_other places number (slice_index numbers j) n 0 (λ s. not_below j n k (same_place numbers o.distinct j n (omega arith) l s)) ∙ placed j k
    | inr k ↦ ap (λ i. slice_index (slice_set places number n) (slice_index numbers i)) k ∙ get_or-set_same places number n 0 (let b = number_inside in omega arith) ∙ sym k
  ])
    where
      not_below : (j n : ℕ) → j < n → j ≡ n → ⊥
      not_below j n k s = omega arith

-- ---- the places of some rows

by_test : (p : ℕ → Row → Bool) (n : ℕ) (rs : List Row) (d : Row) → n < length rs → places_by p n (drop n rs) ≡ cond (p n (slice_index_or rs n d)) (n ∷ places_by p (n + 1) (drop (n + 1) rs)) (places_by p (n + 1) (drop (n + 1) rs))
by_test p n rs d l = rw (drop-cons rs n d, add-one)

-- a row that passes
pub places_keep : (p : ℕ → Row → Bool) (n : ℕ) (rs : List Row) (d : Row) (done more all : List ℕ) → n < length rs → p n (slice_index_or rs n d) ≡ true → more ≡ done ++ n ∷ [] → done ++ places_by p n (drop n rs) ≡ all
    → more ++ places_by p (n + 1) (drop (n + 1) rs) ≡ all
places_keep p n rs d done more all l t e h =
    ap (λ xs. xs ++ places_by p (n + 1) (drop (n + 1) rs)) e
    ∙ append_assoc done (n ∷ []) (places_by p (n + 1) (drop (n + 1) rs))
    ∙ sym (ap (λ xs. done ++ xs) (by_test p n rs d l ∙ ap (λ b. cond b (n ∷ places_by p (n + 1) (drop (n + 1) rs)) (places_by p (n + 1) (drop (n + 1) rs))) t))
    ∙ h

-- one that does not
pub places_skip : (p : ℕ → Row → Bool) (n : ℕ) (rs : List Row) (d : Row) (done more all : List ℕ) → n < length rs → p n (slice_index_or rs n d) ≡ false → more ≡ done → done ++ places_by p n (drop n rs) ≡ all → more ++ places_by p (n + 1) (drop (n + 1) rs) ≡ all
places_skip p n rs d done more all l t e h =
    ap (λ xs. xs ++ places_by p (n + 1) (drop (n + 1) rs)) e
    ∙ sym (ap (λ xs. done ++ xs) (by_test p n rs d l ∙ ap (λ b. cond b (n ∷ places_by p (n + 1) (drop (n + 1) rs)) (places_by p (n + 1) (drop (n + 1) rs))) t))
    ∙ h

-- one row more
pub one_more : (rows more : List Row) (new : Row) (n : ℕ) → more ≡ rows ++ new ∷ [] → length rows ≡ n → length more ≡ n + 1
one_more rows more new n e l = let a = length-append rows (new ∷ []) in let b = ap length e in omega arith
