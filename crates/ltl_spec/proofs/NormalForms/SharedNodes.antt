-- Formulas in normal form as a list of shared nodes, in which each node comes after its operands, and no node occurs twice.
use Rattle.std.proofs.Common.{◌≡◌, ℕ, ◌+◌, ◌<◌, ◌⊎◌, inl, inr, List, [], ◌∷◌, ◌++◌, map, length, refl, sym, ◌∙◌, ap, subst, arith, length-append}
use Rattle.std.specs.Prelude.{fold, slice_index_or}
use Rattle.std.proofs.lemmas.List.Sums.{fold-append}
use Rattle.std.proofs.lemmas.List.{get_or_append_left}
use Rattle.ltl_spec.specs.Collections.Sets.{Has}
use Rattle.ltl_spec.specs.NormalForms.Normal.{Normal, Bottom, Next, And, Or, Until, Release}
use Rattle.ltl_spec.proofs.Collections.ListLaws.{Has-at, index_done}
use Rattle.ltl_spec.proofs.NormalForms.RowsCollected.{operands, IsGraph}
use Rattle.ltl_spec.proofs.Collections.CaseLaws.{last_or_below}
pub use Rattle.ltl_spec.specs.NormalForms.SharedNodes.{Node, TopNode, BottomNode, LeafNode, NextNode, AndNode, OrNode, UntilNode, ReleaseNode, parts_of, tree_in, tree_of, with_tree, trees, tree_at, node_at, AllBefore, IsShared}

-- lists of nodes

-- what is put behind a list stands last
pub index_last : {K : Type 0} (xs : List K) (x d : K) → slice_index_or (xs ++ x ∷ []) (length xs) d ≡ x
index_last xs x d = index_done xs [] x d

-- one tree for each node
fold_length : (nodes : List Node) (ts : List Normal) → length (fold with_tree ts nodes) ≡ length ts + length nodes
fold_length [] ts = omega arith
fold_length (v ∷ nodes) ts =
    let e = fold_length nodes (with_tree ts v) in
    let d : length (with_tree ts v) ≡ length ts + 1 = length-append ts (tree_of (tree_in ts) v ∷ []) in
    omega arith

-- there are as many trees as nodes
pub trees_length : (nodes : List Node) → length (trees nodes) ≡ length nodes
trees_length nodes = let e = fold_length nodes [] in omega arith

-- one more node brings its tree
pub trees_push : (nodes : List Node) (v : Node) → trees (nodes ++ v ∷ []) ≡ trees nodes ++ tree_of (tree_at nodes) v ∷ []
trees_push nodes v = fold-append with_tree [] nodes (v ∷ [])

-- the numbers that were there stand for what they stood for
pub tree_old : (nodes : List Node) (v : Node) (k : ℕ) → k < length nodes → tree_at (nodes ++ v ∷ []) k ≡ tree_at nodes k
tree_old nodes v k l = let e = trees_length nodes in ap (λ ts. tree_in ts k) (trees_push nodes v) ∙ get_or_append_left (trees nodes) (tree_of (tree_at nodes) v ∷ []) Bottom k (omega arith)

-- the new one stands for its tree
pub tree_new : (nodes : List Node) (v : Node) → tree_at (nodes ++ v ∷ []) (length nodes) ≡ tree_of (tree_at nodes) v
tree_new nodes v =
    ap (λ ts. tree_in ts (length nodes)) (trees_push nodes v)
    ∙ ap (tree_in (trees nodes ++ tree_of (tree_at nodes) v ∷ [])) (sym (trees_length nodes))
    ∙ index_last (trees nodes) (tree_of (tree_at nodes) v) Bottom

-- the tree of a node depends on the trees of its operands alone
pub tree_of_alike : (f g : ℕ → Normal) (v : Node) → ((j : ℕ) → Has (parts_of v) j → f j ≡ g j) → tree_of f v ≡ tree_of g v
tree_of_alike f g TopNode same = refl
tree_of_alike f g BottomNode same = refl
tree_of_alike f g (LeafNode l) same = refl
tree_of_alike f g (NextNode i) same = ap Next (same i (inl refl))
tree_of_alike f g (AndNode i j) same = let p = same i (inl refl) in let q = same j (inr (inl refl)) in λ t. And (p t) (q t)
tree_of_alike f g (OrNode i j) same = let p = same i (inl refl) in let q = same j (inr (inl refl)) in λ t. Or (p t) (q t)
tree_of_alike f g (UntilNode i j) same = let p = same i (inl refl) in let q = same j (inr (inl refl)) in λ t. Until (p t) (q t)
tree_of_alike f g (ReleaseNode i j) same = let p = same i (inl refl) in let q = same j (inr (inl refl)) in λ t. Release (p t) (q t)

-- and so for a node over them
pub tree_of_old : (nodes : List Node) (v w : Node) → AllBefore (length nodes) w → tree_of (tree_at (nodes ++ v ∷ [])) w ≡ tree_of (tree_at nodes) w
tree_of_old nodes v w before = tree_of_alike (tree_at (nodes ++ v ∷ [])) (tree_at nodes) w (λ j h. tree_old nodes v j (before j h))

-- the operands of a node's tree are the trees of its operands
pub tree_operands : (f : ℕ → Normal) (v : Node) → operands (tree_of f v) ≡ map f (parts_of v)
tree_operands f TopNode = refl
tree_operands f _ = refl

both : (f : ℕ → Normal) (n : ℕ) → ((i j : ℕ) → i < n → j < n → f i ≡ f j → i ≡ j) → (node : ℕ → ℕ → Node) (i j k l : ℕ)
    → ((m : ℕ) → Has (i ∷ j ∷ []) m → m < n) → ((m : ℕ) → Has (k ∷ l ∷ []) m → m < n) → f i ≡ f k → f j ≡ f l → node i j ≡ node k l
both f n apart node i j k l a b p q =
    let r = apart i k (a i (inl refl)) (b k (inl refl)) p in
    let s = apart j l (a j (inr (inl refl))) (b l (inr (inl refl))) q in
    λ t. node (r t) (s t)

-- where no two numbers stand for one tree, no two nodes do
pub tree_of_apart : (f : ℕ → Normal) (n : ℕ) → ((i j : ℕ) → i < n → j < n → f i ≡ f j → i ≡ j) → (u v : Node) → AllBefore n u → AllBefore n v → tree_of f u ≡ tree_of f v → u ≡ v
tree_of_apart f n apart TopNode TopNode a b e = refl
tree_of_apart f n apart BottomNode BottomNode a b e = refl
tree_of_apart f n apart (LeafNode l) (LeafNode m) a b e = let p : l ≡ m = cc in ap LeafNode p
tree_of_apart f n apart (NextNode i) (NextNode j) a b e = let p : f i ≡ f j = cc in ap NextNode (apart i j (a i (inl refl)) (b j (inl refl)) p)
tree_of_apart f n apart (AndNode i j) (AndNode k l) a b e =
    let p : f i ≡ f k = cc in
    let q : f j ≡ f l = cc in
    both f n apart AndNode i j k l a b p q
tree_of_apart f n apart (OrNode i j) (OrNode k l) a b e =
    let p : f i ≡ f k = cc in
    let q : f j ≡ f l = cc in
    both f n apart OrNode i j k l a b p q
tree_of_apart f n apart (UntilNode i j) (UntilNode k l) a b e =
    let p : f i ≡ f k = cc in
    let q : f j ≡ f l = cc in
    both f n apart UntilNode i j k l a b p q
tree_of_apart f n apart (ReleaseNode i j) (ReleaseNode k l) a b e =
    let p : f i ≡ f k = cc in
    let q : f j ≡ f l = cc in
    both f n apart ReleaseNode i j k l a b p q
tree_of_apart f n apart _ _ a b e = cc

-- sharing

-- the operands of a node are there
pub nodes_before : (nodes : List Node) → IsShared nodes → (k : ℕ) → k < length nodes → AllBefore (length nodes) (node_at nodes k)
nodes_before nodes s k l j h = let m = s.ordered k l j h in omega arith

module _ (nodes : List Node) (s : IsShared nodes) (v : Node) (before : AllBefore (length nodes) v) where
  -- the nodes with the new one
  abbrev more : List Node
  more = nodes ++ v ∷ []

  -- one more
  more_length : length more ≡ length nodes + 1
  more_length = length-append nodes (v ∷ [])

  -- the old nodes stay
  node_old : (k : ℕ) → k < length nodes → node_at more k ≡ node_at nodes k
  node_old k l = get_or_append_left nodes (v ∷ []) BottomNode k l

  -- the new one comes last
  node_new : node_at more (length nodes) ≡ v
  node_new = index_last nodes v BottomNode

  -- a node that stands for a tree that a number stands for is there
  pub found_by_tree : (k : ℕ) → k < length nodes → tree_at nodes k ≡ tree_of (tree_at nodes) v → Has nodes v
  found_by_tree k l e =
      let same = tree_of_apart (tree_at nodes) (length nodes) s.apart (node_at nodes k) v (nodes_before nodes s k l) before (sym (s.stands k l) ∙ e) in
      subst (Has nodes) same (Has-at nodes k BottomNode l)

  -- a new node keeps the nodes shared
  pub shared_push : ¬ (Has nodes v) → IsShared more
  shared_push new = record {
    ordered = λ k l. elim (at k l) [
      | inl m ↦ subst (AllBefore k) (sym (node_old k m)) (s.ordered k m)
      | inr e ↦ subst (λ i. AllBefore i (node_at more i)) (sym e) (subst (AllBefore (length nodes)) (sym node_new) before)
    ];
    stands = λ k l. elim (at k l) [
      | inl m ↦ tree_old nodes v k m ∙ s.stands k m ∙ sym (tree_of_old nodes v (node_at nodes k) (nodes_before nodes s k m)) ∙ ap (tree_of (tree_at more)) (sym (node_old k m))
      | inr e ↦ subst (λ i. tree_at more i ≡ tree_of (tree_at more) (node_at more i)) (sym e) (tree_new nodes v ∙ sym (tree_of_old nodes v v before) ∙ ap (tree_of (tree_at more)) (sym node_new))
    ];
    apart = λ i j l m e. elim (at i l) [
      | inl o ↦ elim (at j m) [
        | inl p ↦ s.apart i j o p (sym (tree_old nodes v i o) ∙ e ∙ tree_old nodes v j p)
        | inr d ↦ absurd (new (found_by_tree i o (sym (tree_old nodes v i o) ∙ e ∙ ap (tree_at more) d ∙ tree_new nodes v)))
      ]
      | inr c ↦ elim (at j m) [
        | inl p ↦ absurd (new (found_by_tree j p (sym (tree_old nodes v j p) ∙ sym e ∙ ap (tree_at more) c ∙ tree_new nodes v)))
        | inr d ↦ c ∙ sym d
      ]
    ];
  }
    where
      at : (k : ℕ) → k < length more → (k < length nodes) ⊎ (k ≡ length nodes)
      at k l = let e = more_length in last_or_below k (length nodes) (omega arith)

-- shared nodes are a graph, as the walks of RowsCollected take it
pub shared_graph : (nodes : List Node) → IsShared nodes → IsGraph (tree_at nodes) (λ k. parts_of (node_at nodes k)) (length nodes)
shared_graph nodes s = record {
  stands = λ k l. ap operands (s.stands k l) ∙ tree_operands (tree_at nodes) (node_at nodes k);
  before = s.ordered;
  apart = s.apart;
}
