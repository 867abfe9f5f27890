-- Rewriting over shared nodes: the number or node of the rewritten tree, decided by numbers alone.
use Rattle.std.proofs.Common.{◌≡◌, ℕ, ◌<◌, Bool, true, false, cond, eqb, inl, List, [], ◌∷◌, ◌++◌, length, refl, sym, ◌∙◌, ap, arith, length-append}
use Rattle.std.specs.Prelude.{◌==◌, ◌||◌, ◌&&◌, if◌then◌else◌}
use Rattle.ltl_spec.specs.NormalForms.Normal.{Normal, Top, Bottom, And, Or, Until, Release, same}
use Rattle.ltl_spec.specs.NormalForms.NormalForm.{is_eventually, is_always, simple_and, simple_or, simple_until, simple_release}
use Rattle.ltl_spec.proofs.NormalForms.RowsCollected.{same_number}
use Rattle.ltl_spec.proofs.NormalForms.SharedNodes.{Node, AndNode, OrNode, UntilNode, ReleaseNode, parts_of, tree_of, tree_at, node_at, AllBefore, IsShared, tree_old, shared_graph, nodes_before}
use Rattle.ltl_spec.proofs.NormalForms.BothPolarities.{made_and, made_or, made_until, made_release}
pub use Rattle.ltl_spec.specs.NormalForms.SharedRewriting.{IsMore, StandsFor, Choice, Old, New, choice_tree, is_eventually_node, is_always_node, choose_next, choose_and, choose_or, choose_until, choose_release, HasConstants}

-- more nodes

-- the nodes themselves
pub more_same : (nodes : List Node) → IsMore nodes nodes
more_same nodes = record { longer = omega arith; old = λ k l. refl }

-- more than more
pub more_on : (nodes more most : List Node) → IsMore nodes more → IsMore more most → IsMore nodes most
more_on nodes more most m n = record {
  longer = let a = m.longer in let b = n.longer in omega arith;
  old = λ k l. let a = m.longer in n.old k (omega arith) ∙ m.old k l;
}

-- one more
pub more_push : (nodes : List Node) (v : Node) → IsMore nodes (nodes ++ v ∷ [])
more_push nodes v = record { longer = let e = length-append nodes (v ∷ []) in omega arith; old = tree_old nodes v }

-- choices

-- more nodes have the constants too
pub constants_more : (nodes more : List Node) (top bottom : ℕ) → HasConstants nodes top bottom → IsMore nodes more → IsShared more → HasConstants more top bottom
constants_more nodes more top bottom c m s =
    let l = m.longer in
    let a = c.top_inside in
    let b = c.bottom_inside in
    record {
      shared = s;
      top_inside = omega arith;
      bottom_inside = omega arith;
      top_is = m.old top a ∙ c.top_is;
      bottom_is = m.old bottom b ∙ c.bottom_is;
    }

-- the test looks at the left operand
until_top : (a b : Normal) → is_eventually (Until a b) ≡ same a Top
until_top Top b = refl
until_top _ b = refl

-- and so does the other
release_bottom : (a b : Normal) → is_always (Release a b) ≡ same a Bottom
release_bottom Top b = refl
release_bottom _ b = refl

module _ (nodes : List Node) (top bottom : ℕ) (c : HasConstants nodes top bottom) where
  -- the tree of a number
  abbrev tree : ℕ → Normal
  tree k = tree_at nodes k

  -- the tests of the table, by numbers
  pub same_test : (i j : ℕ) → i < length nodes → j < length nodes → eqb i j ≡ same (tree i) (tree j)
  same_test i j l m = sym (same_number tree (λ k. parts_of (node_at nodes k)) (length nodes) (shared_graph nodes c.shared) i j l m)

  -- a number is that of the constant exactly where its tree is it
  pub top_test : (i : ℕ) → i < length nodes → eqb i top ≡ same (tree i) Top
  top_test i l = same_test i top l c.top_inside ∙ ap (same (tree i)) c.top_is

  -- the same for the other constant
  pub bottom_test : (i : ℕ) → i < length nodes → eqb i bottom ≡ same (tree i) Bottom
  bottom_test i l = same_test i bottom l c.bottom_inside ∙ ap (same (tree i)) c.bottom_is

  -- the test on a node is that on its tree
  eventually_of : (v : Node) → AllBefore (length nodes) v → is_eventually_node top v ≡ is_eventually (tree_of (tree_at nodes) v)
  eventually_of (UntilNode i j) b = top_test i (b i (inl refl)) ∙ sym (until_top (tree i) (tree j))
  eventually_of _ b = refl

  -- the same for the other
  always_of : (v : Node) → AllBefore (length nodes) v → is_always_node bottom v ≡ is_always (tree_of (tree_at nodes) v)
  always_of (ReleaseNode i j) b = bottom_test i (b i (inl refl)) ∙ sym (release_bottom (tree i) (tree j))
  always_of _ b = refl

  -- the test on the node of a number is that on its tree
  pub eventually_test : (j : ℕ) → j < length nodes → is_eventually_node top (node_at nodes j) ≡ is_eventually (tree j)
  eventually_test j l = eventually_of (node_at nodes j) (nodes_before nodes c.shared j l) ∙ ap is_eventually (sym (c.shared.stands j l))

  -- the same for the other
  pub always_test : (j : ℕ) → j < length nodes → is_always_node bottom (node_at nodes j) ≡ is_always (tree j)
  always_test j l = always_of (node_at nodes j) (nodes_before nodes c.shared j l) ∙ ap is_always (sym (c.shared.stands j l))

  -- choosing by a test
  either_tree : (b : Bool) (x y : Choice) → choice_tree nodes (cond b x y) ≡ cond b (choice_tree nodes x) (choice_tree nodes y)
  either_tree true x y = refl
  either_tree false x y = refl

  -- choosing by three tests
  by_tests : (s t u : Bool) (x y z w : Choice) → choice_tree nodes (cond s x (cond t y (cond u z w))) ≡ cond s (choice_tree nodes x) (cond t (choice_tree nodes y) (cond u (choice_tree nodes z) (choice_tree nodes w)))
  by_tests s t u x y z w =
      either_tree s x (cond t y (cond u z w))
      ∙ ap (cond s (choice_tree nodes x)) (either_tree t y (cond u z w) ∙ ap (cond t (choice_tree nodes y)) (either_tree u z w))

  module _ (i j : ℕ) (l : i < length nodes) (m : j < length nodes) where
    -- and
    pub and_choice : choice_tree nodes (choose_and top bottom i j) ≡ simple_and (tree i) (tree j)
    and_choice =
        let ti = top_test i l in
        let tj = top_test j m in
        let bi = bottom_test i l in
        let bj = bottom_test j m in
        let e = same_test i j l m in
        let b = c.bottom_is in
        by_tests (i == top) (j == top) (i == bottom || j == bottom) (Old j) (Old i) (Old bottom) (if i == j then Old i else New (AndNode i j))
        ∙ ap (λ F. cond (i == top) (tree j) (cond (j == top) (tree i) (cond (i == bottom || j == bottom) (tree bottom) F))) (either_tree (i == j) (Old i) (New (AndNode i j)))
        ∙ (λ k. cond (ti k) (tree j) (cond (tj k) (tree i) (cond (bi k || bj k) (b k) (cond (e k) (tree i) (And (tree i) (tree j))))))

    -- or
    pub or_choice : choice_tree nodes (choose_or top bottom i j) ≡ simple_or (tree i) (tree j)
    or_choice =
        let ti = top_test i l in
        let tj = top_test j m in
        let bi = bottom_test i l in
        let bj = bottom_test j m in
        let e = same_test i j l m in
        let t = c.top_is in
        by_tests (i == bottom) (j == bottom) (i == top || j == top) (Old j) (Old i) (Old top) (if i == j then Old i else New (OrNode i j))
        ∙ ap (λ F. cond (i == bottom) (tree j) (cond (j == bottom) (tree i) (cond (i == top || j == top) (tree top) F))) (either_tree (i == j) (Old i) (New (OrNode i j)))
        ∙ (λ k. cond (bi k) (tree j) (cond (bj k) (tree i) (cond (ti k || tj k) (t k) (cond (e k) (tree i) (Or (tree i) (tree j))))))

    -- `U`
    pub until_choice : choice_tree nodes (choose_until top bottom i j (node_at nodes j)) ≡ simple_until (tree i) (tree j)
    until_choice =
        let ti = top_test i l in
        let tj = top_test j m in
        let bi = bottom_test i l in
        let bj = bottom_test j m in
        let e = same_test i j l m in
        let v = eventually_test j m in
        by_tests (j == top || j == bottom) (i == bottom || i == j) (i == top && is_eventually_node top (node_at nodes j)) (Old j) (Old j) (Old j) (New (UntilNode i j))
        ∙ (λ k. cond (tj k || bj k) (tree j) (cond (bi k || e k) (tree j) (cond (ti k && v k) (tree j) (Until (tree i) (tree j)))))

    -- `V`
    pub release_choice : choice_tree nodes (choose_release top bottom i j (node_at nodes j)) ≡ simple_release (tree i) (tree j)
    release_choice =
        let ti = top_test i l in
        let tj = top_test j m in
        let bi = bottom_test i l in
        let bj = bottom_test j m in
        let e = same_test i j l m in
        let v = always_test j m in
        by_tests (j == top || j == bottom) (i == top || i == j) (i == bottom && is_always_node bottom (node_at nodes j)) (Old j) (Old j) (Old j) (New (ReleaseNode i j))
        ∙ (λ k. cond (tj k || bj k) (tree j) (cond (ti k || e k) (tree j) (cond (bi k && v k) (tree j) (Release (tree i) (tree j)))))

-- with rewriting or without it
module _ (nodes : List Node) (top bottom : ℕ) (c : HasConstants nodes top bottom) (rewrite : Bool) where
  -- one of two choices
  either_made : (x y : Choice) (F : Normal) → choice_tree nodes x ≡ F → choice_tree nodes (if rewrite then x else y) ≡ (if rewrite then F else choice_tree nodes y)
  either_made x y F e = either_tree nodes top bottom c rewrite x y ∙ ap (λ G. cond rewrite G (choice_tree nodes y)) e

  module _ (i j : ℕ) (l : i < length nodes) (m : j < length nodes) where
    -- and
    pub made_and_choice : choice_tree nodes (if rewrite then choose_and top bottom i j else New (AndNode i j)) ≡ made_and rewrite (tree_at nodes i) (tree_at nodes j)
    made_and_choice = either_made (choose_and top bottom i j) (New (AndNode i j)) (simple_and (tree_at nodes i) (tree_at nodes j)) (and_choice nodes top bottom c i j l m)

    -- or
    pub made_or_choice : choice_tree nodes (if rewrite then choose_or top bottom i j else New (OrNode i j)) ≡ made_or rewrite (tree_at nodes i) (tree_at nodes j)
    made_or_choice = either_made (choose_or top bottom i j) (New (OrNode i j)) (simple_or (tree_at nodes i) (tree_at nodes j)) (or_choice nodes top bottom c i j l m)

    -- `U`
    pub made_until_choice : choice_tree nodes (if rewrite then choose_until top bottom i j (node_at nodes j) else New (UntilNode i j)) ≡ made_until rewrite (tree_at nodes i) (tree_at nodes j)
    made_until_choice =
        either_made (choose_until top bottom i j (node_at nodes j)) (New (UntilNode i j)) (simple_until (tree_at nodes i) (tree_at nodes j)) (until_choice nodes top bottom c i j l m)

    -- `V`
    pub made_release_choice : choice_tree nodes (if rewrite then choose_release top bottom i j (node_at nodes j) else New (ReleaseNode i j)) ≡ made_release rewrite (tree_at nodes i) (tree_at nodes j)
    made_release_choice =
        either_made (choose_release top bottom i j (node_at nodes j)) (New (ReleaseNode i j)) (simple_release (tree_at nodes i) (tree_at nodes j)) (release_choice nodes top bottom c i j l m)
