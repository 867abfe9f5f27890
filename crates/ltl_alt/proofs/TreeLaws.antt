-- The tree of a row is made of those of its operands.
use Rattle.std.proofs.Common.{◌≡◌, ℕ, zero, suc, ◌<◌, inl, inr, List, [], ◌∷◌, ◌++◌, length, map, refl, sym, ◌∙◌, ap, subst, arith, Some, append_assoc, length-append}
use Rattle.std.specs.Prelude.{slice_get}
use Rattle.std.proofs.lemmas.List.{append-nil}
use Rattle.ltl_spec.specs.Collections.Sets.{Has}
use Rattle.ltl_formula.specs.SharedNodesView.{node_of, IsBelow}
use Rattle.ltl_formula.specs.TableView.{TableView, row_tree}
use Rattle.ltl_formula.specs.declared.row.Row.{Row}
use Rattle.ltl_formula.specs.declared.row.Row.TheVariants as row
use Rattle.ltl_spec.proofs.NormalForms.SharedNodes.{Node, AllBefore, tree_at, tree_of, tree_old, tree_new, tree_of_alike}

-- more nodes behind a list change no tree
tree_behind : (more nodes : List Node) (k : ℕ) → k < length nodes → tree_at (nodes ++ more) k ≡ tree_at nodes k
tree_behind [] nodes k l = ap (λ ns. tree_at ns k) (append-nil nodes)
tree_behind (v ∷ more) nodes k l =
    let e : nodes ++ (v ∷ more) ≡ (nodes ++ v ∷ []) ++ more = sym (append_assoc nodes (v ∷ []) more) in
    let c = length-append nodes (v ∷ []) in
    ap (λ ns. tree_at ns k) e ∙ tree_behind more (nodes ++ v ∷ []) k (omega arith) ∙ tree_old nodes v k l

-- a list around the node at a place
record IsSplit (nodes : List Node) (k : ℕ) (v : Node) : Type 0 where
  front : List Node
  back : List Node
  long : length front ≡ k
  is : nodes ≡ (front ++ v ∷ []) ++ back

split : (nodes : List Node) (k : ℕ) (v : Node) → slice_get nodes k ≡ Some v → IsSplit nodes k v
split [] k v e = cc
split (x ∷ nodes) zero v e = record { front = []; back = nodes; long = refl; is = ap (λ y. y ∷ nodes) cc }
split (x ∷ nodes) (suc k) v e =
    let s = split nodes k v e in
    record { front = x ∷ s.front; back = s.back; long = (let l = s.long in omega arith); is = ap (λ ns. x ∷ ns) s.is }

pub tree_is : (nodes : List Node) (k : ℕ) (v : Node) → slice_get nodes k ≡ Some v → AllBefore k v → tree_at nodes k ≡ tree_of (tree_at nodes) v
tree_is nodes k v e before =
    let s = split nodes k v e in
    let c = length-append s.front (v ∷ []) in
    let l = s.long in
    let here : k < length (s.front ++ v ∷ []) = omega arith in
    let first : tree_at nodes k ≡ tree_at (s.front ++ v ∷ []) k = ap (λ ns. tree_at ns k) s.is ∙ tree_behind s.back (s.front ++ v ∷ []) k here in
    let made : tree_at (s.front ++ v ∷ []) k ≡ tree_of (tree_at s.front) v = ap (tree_at (s.front ++ v ∷ [])) (sym l) ∙ tree_new s.front v in
    let conjuncts : tree_of (tree_at s.front) v ≡ tree_of (tree_at nodes) v = tree_of_alike (tree_at s.front) (tree_at nodes) v (λ j h.
    let b : j < k = before j h in
    let inside : j < length s.front = omega arith in
    sym (ap (λ ns. tree_at ns j) (s.is ∙ append_assoc s.front (v ∷ []) s.back) ∙ tree_behind ((v ∷ []) ++ s.back) s.front j inside)) in
    first ∙ made ∙ conjuncts

-- ---- rows

node_found : (rs : List Row) (k : ℕ) (r : Row) → slice_get rs k ≡ Some r → slice_get (map node_of rs) k ≡ Some (node_of r)
node_found [] k r e = cc
node_found (x ∷ rs) zero r e = let d : x ≡ r = cc in ap (λ y. Some (node_of y)) d
node_found (x ∷ rs) (suc k) r e = node_found rs k r e

one_before : (n i j : ℕ) → i < n → Has (i ∷ []) j → j < n
one_before n i j l (inl e) = subst (λ m. m < n) (sym e) l
one_before n i j l (inr h) = absurd h

two_before : (n a b j : ℕ) → a < n → b < n → Has (a ∷ b ∷ []) j → j < n
two_before n a b j l m (inl e) = subst (λ x. x < n) (sym e) l
two_before n a b j l m (inr (inl e)) = subst (λ x. x < n) (sym e) m
two_before n a b j l m (inr (inr h)) = absurd h

all_before : (k : ℕ) (r : Row) → IsBelow k r → AllBefore k (node_of r)
all_before k row.True l j h = absurd h
all_before k row.False l j h = absurd h
all_before k (row.Literal m) l j h = absurd h
all_before k (row.Next i) l j h = one_before k i j l h
all_before k (row.And a b) l j h = two_before k a b j l.0 l.1 h
all_before k (row.Or a b) l j h = two_before k a b j l.0 l.1 h
all_before k (row.Until a b) l j h = two_before k a b j l.0 l.1 h
all_before k (row.Release a b) l j h = two_before k a b j l.0 l.1 h

pub row_tree_is : (t : TableView) (k : ℕ) (r : Row) → slice_get t.rows k ≡ Some r → IsBelow k r → row_tree t k ≡ tree_of (row_tree t) (node_of r)
row_tree_is t k r e l = tree_is (map node_of t.rows) k (node_of r) (node_found t.rows k r e) (all_before k r l)
