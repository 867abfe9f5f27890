-- The trees of nodes.
use Rattle.std.proofs.Common.{◌≡◌, ◌∙◌, ap, ap₂, sym, refl, subst, ℕ, zero, suc, ◌+◌, ◌<◌, List, [], ◌∷◌, ◌++◌, fold, length, arith, slice_index_or, false}
use Rattle.std.proofs.lemmas.List.Sums.{fold-append}
use Rattle.ltl_spec.specs.Formulas.Formula as spec
use Rattle.ltl_syntax.specs.declared.operators.Node.{Node}
use Rattle.ltl_syntax.specs.declared.operators.Node.TheVariants.{Constant, Proposition, Unary, Binary}
use Rattle.ltl_syntax.specs.FormulaView.{StandsAt, tree_in, tree_of, with_tree, trees, unary_of, binary_of}
use Rattle.ltl_syntax.specs.CanonicalWork.{HasOperands}

-- one element more
pub push_length : {X : Type 0} (xs : List X) (x : X) → length (xs ++ x ∷ []) ≡ suc (length xs)
push_length [] x = refl
push_length (y ∷ ys) x = ap suc (push_length ys x)

-- the elements before it stay
pub push_before : {X : Type 0} (xs : List X) (x : X) (i : ℕ) (d : X) → i < length xs → slice_index_or (xs ++ x ∷ []) i d ≡ slice_index_or xs i d
push_before [] x i d l = absurd (omega arith)
push_before (y ∷ ys) x zero d l = refl
push_before (y ∷ ys) x (suc i) d l = let k : i < length ys = omega arith in push_before ys x i d k

-- and it stands behind them
pub push_at : {X : Type 0} (xs : List X) (x : X) (d : X) → slice_index_or (xs ++ x ∷ []) (length xs) d ≡ x
push_at [] x d = refl
push_at (y ∷ ys) x d = push_at ys x d

-- the tree of one node more
pub trees_push : (ns : List Node) (n : Node) → trees (ns ++ n ∷ []) ≡ trees ns ++ tree_of (trees ns) n ∷ []
trees_push ns n = fold-append with_tree [] ns (n ∷ [])

trees_from_length : (ts : List spec.Formula) (ns : List Node) → length (fold with_tree ts ns) ≡ length ts + length ns
trees_from_length ts [] = omega arith
trees_from_length ts (n ∷ ns) =
    let l = push_length ts (tree_of ts n) in
    let m = trees_from_length (with_tree ts n) ns in
    omega arith

-- a node has a tree
pub trees_length : (ns : List Node) → length (trees ns) ≡ length ns
trees_length ns = let l = trees_from_length [] ns in omega arith

-- the trees of operands before i decide that of a node at i
tree_of_alike : (ts us : List spec.Formula) (count i : ℕ) (n : Node) → StandsAt count i n → ((j : ℕ) → j < i → tree_in ts j ≡ tree_in us j) → tree_of ts n ≡ tree_of us n
tree_of_alike ts us count i (Constant b) h same = refl
tree_of_alike ts us count i (Proposition p) h same = refl
tree_of_alike ts us count i (Unary op a) h same = ap (spec.Unary (unary_of op)) (same a h)
tree_of_alike ts us count i (Binary op a b) h same = ap₂ (spec.Binary (binary_of op)) (same a h.0) (same b h.1)

-- trees stay when nodes follow
trees_stay : (ts : List spec.Formula) (ns : List Node) (j : ℕ) → j < length ts → tree_in (fold with_tree ts ns) j ≡ tree_in ts j
trees_stay ts [] j l = refl
trees_stay ts (n ∷ ns) j l =
    let longer = push_length ts (tree_of ts n) in
    let k : j < length (with_tree ts n) = omega arith in
    trees_stay (with_tree ts n) ns j k ∙ push_before ts (tree_of ts n) j (spec.Constant false) l

-- the tree of a node by those of its operands
tree_from : (count : ℕ) (ts : List spec.Formula) (ns : List Node) → ((k : ℕ) → k < length ns → StandsAt count (length ts + k) (slice_index_or ns k (Constant false)))
    → (k : ℕ) → k < length ns → tree_in (fold with_tree ts ns) (length ts + k) ≡ tree_of (fold with_tree ts ns) (slice_index_or ns k (Constant false))
tree_from count ts [] o k l = absurd (omega arith)
tree_from count ts (n ∷ ns) o zero l =
    let longer = push_length ts (tree_of ts n) in
    let e : length ts + 0 ≡ length ts = omega arith in
    let k : length ts < length (with_tree ts n) = omega arith in
    let stands : StandsAt count (length ts) n = subst (λ i. StandsAt count i n) e (o 0 (omega arith)) in
    ap (tree_in (fold with_tree ts (n ∷ ns))) e ∙ trees_stay (with_tree ts n) ns (length ts) k ∙ push_at ts (tree_of ts n) (spec.Constant false)
    ∙ tree_of_alike ts (fold with_tree ts (n ∷ ns)) count (length ts) n stands (λ j b. sym (trees_stay ts (n ∷ ns) j b))
tree_from count ts (n ∷ ns) o (suc k) l =
    let longer = push_length ts (tree_of ts n) in
    let e : (m : ℕ) → length (with_tree ts n) + m ≡ length ts + suc m = λ m. omega (arith, longer) in
    let within : k < length ns = omega arith in
    ap (tree_in (fold with_tree ts (n ∷ ns))) (sym (e k))
    ∙ tree_from count (with_tree ts n) ns (λ m b. subst (λ i. StandsAt count i (slice_index_or ns m (Constant false))) (sym (e m)) (o (suc m) (omega arith))) k within

-- the tree of a node by those of its operands
pub tree_at : (count : ℕ) (ns : List Node) → HasOperands count ns → (i : ℕ) → i < length ns → tree_in (trees ns) i ≡ tree_of (trees ns) (slice_index_or ns i (Constant false))
tree_at count ns o i l =
    let e : (k : ℕ) → 0 + k ≡ k = λ k. omega arith in
    ap (tree_in (trees ns)) (sym (e i)) ∙ tree_from count [] ns (λ k b. subst (λ j. StandsAt count j (slice_index_or ns k (Constant false))) (sym (e k)) (o k b)) i l
