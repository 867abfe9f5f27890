-- Nodes that are put into a graph, over plain variables.
use Rattle.std.proofs.Common.{◌≡◌, ◌∙◌, ◌<◌, ℕ, zero, suc, Bool, true, false, cond, ◌&&◌, ◌||◌, List, [], ◌∷◌, ◌++◌, map, length, Some, slice_get, refl, sym, ap, subst, eqb, eq-eqb, inl, inr}
use Rattle.std.specs.Bool.{beq}
use Rattle.std.specs.List.{list_any}
use Rattle.std.proofs.lemmas.Bool.{eqb-true}
use Rattle.std.proofs.lemmas.List.{map_push}
use Rattle.std.proofs.lemmas.Option.{slice_get_within}
use Rattle.indexmap.specs.IndexSet.{insert_key}
use Rattle.ltl_spec.specs.Collections.Sets.{Has}
use Rattle.ltl_spec.specs.Transitions.Cubes as cubes
use Rattle.ltl_spec.proofs.Collections.CaseLaws.{beq_refl, beq_true, false_is_true}
use Rattle.ltl_spec.proofs.Collections.MemberLaws.{map_length}
use Rattle.ltl_spec.proofs.NormalForms.SharedNodes.{AllBefore, node_at, tree_at, tree_of, tree_of_alike, shared_push}
use Rattle.ltl_spec.proofs.NormalForms.SharedRewriting.{HasConstants, IsMore, more_same, more_push, constants_more}
use Rattle.ltl_sets.specs.declared.literal.Literal.{Literal}
use Rattle.ltl_sets.specs.Literals.{literal_of}
use Rattle.ltl_formula.specs.declared.row.Row.{Row}
use Rattle.ltl_formula.specs.declared.row.Row.TheVariants as row
use Rattle.ltl_formula.specs.contracts.row.RowPartialEq.TheImpl.{ghosts}
use Rattle.ltl_formula.specs.SharedNodesView.{SharedNodesView, IsBelow, Makes, shared_nodes_of, node_of}

-- ---- equality

both_true : (a b : Bool) → (a && b) ≡ true → (a ≡ true) × (b ≡ true)
both_true true true e = (refl, refl)
both_true true false e = cc
both_true false b e = cc

numbers_same : (i j : ℕ) → eqb i j ≡ true → i ≡ j
numbers_same i j e = eqb-true i j e

same_parts : (l m : Literal) → l.proposition ≡ m.proposition → l.positive ≡ m.positive → l ≡ m
same_parts l m p q = λ i. record { proposition = p i; positive = q i }

-- nodes that compare as equal are equal
pub row_same : (u v : Row) → ghosts.eq u v ≡ true → u ≡ v
row_same row.True row.True e = refl
row_same row.False row.False e = refl
row_same (row.Literal l) (row.Literal m) e =
    let w = both_true (eqb l.proposition m.proposition) (beq l.positive m.positive) e in
    ap row.Literal (same_parts l m (numbers_same l.proposition m.proposition w.0) (beq_true l.positive m.positive w.1))
row_same (row.Next i) (row.Next j) e = ap row.Next (numbers_same i j e)
row_same (row.And i j) (row.And k l) e = let w = both_true (eqb i k) (eqb j l) e in let p = numbers_same i k w.0 in let q = numbers_same j l w.1 in cc
row_same (row.Or i j) (row.Or k l) e = let w = both_true (eqb i k) (eqb j l) e in let p = numbers_same i k w.0 in let q = numbers_same j l w.1 in cc
row_same (row.Until i j) (row.Until k l) e = let w = both_true (eqb i k) (eqb j l) e in let p = numbers_same i k w.0 in let q = numbers_same j l w.1 in cc
row_same (row.Release i j) (row.Release k l) e = let w = both_true (eqb i k) (eqb j l) e in let p = numbers_same i k w.0 in let q = numbers_same j l w.1 in cc
row_same _ _ e = cc

both_hold : (a b : Bool) → a ≡ true → b ≡ true → (a && b) ≡ true
both_hold true true e f = refl
both_hold true false e f = f
both_hold false b e f = e

number_self : (i : ℕ) → eqb i i ≡ true
number_self i = eq-eqb i i refl

-- each compares as equal to itself
pub row_self : (v : Row) → ghosts.eq v v ≡ true
row_self row.True = refl
row_self row.False = refl
row_self (row.Literal l) = both_hold (eqb l.proposition l.proposition) (beq l.positive l.positive) (number_self l.proposition) (beq_refl l.positive)
row_self (row.Next i) = number_self i
row_self (row.And i j) = both_hold (eqb i i) (eqb j j) (number_self i) (number_self j)
row_self (row.Or i j) = both_hold (eqb i i) (eqb j j) (number_self i) (number_self j)
row_self (row.Until i j) = both_hold (eqb i i) (eqb j j) (number_self i) (number_self j)
row_self (row.Release i j) = both_hold (eqb i i) (eqb j j) (number_self i) (number_self j)

-- different nodes stay different
pub node_of_same : (u v : Row) → node_of u ≡ node_of v → u ≡ v
node_of_same row.True row.True e = refl
node_of_same row.False row.False e = refl
node_of_same (row.Literal l) (row.Literal m) e =
    let r : literal_of l ≡ literal_of m = cc in
    let a : l.proposition ≡ m.proposition = ap (λ (x : cubes.Literal). x.proposition) r in
    let b : l.positive ≡ m.positive = ap (λ (x : cubes.Literal). x.positive) r in
    ap row.Literal (same_parts l m a b)
node_of_same (row.Next i) (row.Next j) e = cc
node_of_same (row.And i j) (row.And k l) e = cc
node_of_same (row.Or i j) (row.Or k l) e = cc
node_of_same (row.Until i j) (row.Until k l) e = cc
node_of_same (row.Release i j) (row.Release k l) e = cc
node_of_same _ _ e = cc

-- ---- operands

-- operands before a number, by cases over the nodes of the code
pub below_of : (n : ℕ) (v : Row) → AllBefore n (node_of v) → IsBelow n v
below_of n row.True b = tt
below_of n row.False b = tt
below_of n (row.Literal l) b = tt
below_of n (row.Next i) b = b i (inl refl)
below_of n (row.And i j) b = (b i (inl refl), b j (inr (inl refl)))
below_of n (row.Or i j) b = (b i (inl refl), b j (inr (inl refl)))
below_of n (row.Until i j) b = (b i (inl refl), b j (inr (inl refl)))
below_of n (row.Release i j) b = (b i (inl refl), b j (inr (inl refl)))

-- ---- the set of rows

-- one of two that are both false
last_false : (a b : Bool) → (a || b) ≡ false → b ≡ false
last_false true b e = cc
last_false false b e = e

-- a row that compares as equal to none has a node of its own
absent : (v : Row) (ks : List Row) → list_any (ghosts.eq v) ks ≡ false → ¬ Has (map node_of ks) (node_of v)
absent v [] e h = absurd h
absent v (k ∷ ks) e (inl f) =
    let here = subst (λ x. ghosts.eq v x ≡ true) (node_of_same v k f) (row_self v) in
    false_is_true (sym e ∙ ap (λ b. b || list_any (ghosts.eq v) ks) here)
absent v (k ∷ ks) e (inr h) = absent v ks (last_false (ghosts.eq v k) (list_any (ghosts.eq v) ks) e) h

-- the node at a place where a row stands
pub node_there : (ks : List Row) (k : ℕ) (v : Row) → slice_get ks k ≡ Some v → node_at (map node_of ks) k ≡ node_of v
node_there [] k v e = cc
node_there (u ∷ ks) zero v e = let f : u ≡ v = cc in ap node_of f
node_there (u ∷ ks) (suc k) v e = node_there ks k v e

-- the rows of a graph
module _ (ks : List Row) (rewrite : Bool) (old : SharedNodesView) (view : shared_nodes_of ks rewrite ≡ old) (c : HasConstants (map node_of ks) 0 1) where
  -- each node stands behind its operands
  pub node_below : (k : ℕ) (v : Row) → slice_get ks k ≡ Some v → k < length old.nodes → IsBelow k v
  node_below k v e l =
      let m : k < length (map node_of ks) = subst (λ (g : SharedNodesView). k < length g.nodes) (sym view) l in
      below_of k v (subst (AllBefore k) (node_there ks k v e) (c.shared.ordered k m))

  -- a row is put in
  module _ (v : Row) (before : AllBefore (length old.nodes) (node_of v)) where
    inside_before : AllBefore (length (map node_of ks)) (node_of v)
    inside_before = subst (λ (g : SharedNodesView). AllBefore (length g.nodes) (node_of v)) (sym view) before

    -- nodes that have those of the graph, and have the constants
    abbrev IsGrown : List Row → Type 0
    IsGrown new = IsMore (map node_of ks) (map node_of new) × HasConstants (map node_of new) 0 1

    grown : (b : Bool) → list_any (ghosts.eq v) ks ≡ b → IsGrown (cond b ks (ks ++ v ∷ []))
    grown true e = (more_same (map node_of ks), c)
    grown false e =
        let nodes = map node_of ks in
        let more = more_push nodes (node_of v) in
        subst (λ ns. IsMore nodes ns × HasConstants ns 0 1) (sym (map_push node_of ks v))
        (more, constants_more nodes (nodes ++ node_of v ∷ []) 0 1 c more (shared_push nodes c.shared (node_of v) inside_before (absent v ks e)))

    put_grown : (new : List Row) → new ≡ insert_key ghosts.eq ks v → IsGrown new
    put_grown new e = subst IsGrown (sym e) (grown (list_any (ghosts.eq v) ks) refl)

    pub put_constants : (new : List Row) → new ≡ insert_key ghosts.eq ks v → HasConstants (map node_of new) 0 1
    put_constants new e = (put_grown new e).1

    -- and stands where it is stored
    pub put_makes : (new : List Row) → new ≡ insert_key ghosts.eq ks v → (k : ℕ) → ((u : Row) × (slice_get new k ≡ Some u) × (ghosts.eq v u ≡ true))
        → Makes old (shared_nodes_of new rewrite) k (tree_of (tree_at old.nodes) (node_of v))
    put_makes new e k stored =
        let w = put_grown new e in
        let nodes = map node_of new in
        let here : node_at nodes k ≡ node_of v = node_there new k stored.0 stored.1 ∙ sym (ap node_of (row_same v stored.0 stored.2)) in
        let inside : k < length nodes = subst (λ n. k < n) (sym (map_length node_of new)) (slice_get_within new k stored.0 stored.1) in
        subst (λ (g : SharedNodesView). Makes g (shared_nodes_of new rewrite) k (tree_of (tree_at g.nodes) (node_of v))) view (record {
          rewrite = refl;
          keeps = w.0;
          stands = record {
            inside = inside;
            tree = w.1.shared.stands k inside ∙ ap (tree_of (tree_at nodes)) here ∙ tree_of_alike (tree_at nodes) (tree_at (map node_of ks)) (node_of v) (λ j h. w.0.old j (inside_before j h));
          };
        })
