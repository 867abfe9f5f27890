-- In the list of the rows each row stands behind its operands, and the last one is the whole formula.
use Rattle.std.proofs.Common.{◌≡◌, ℕ, zero, suc, ◌<◌, true, false, ◌⊎◌, inl, inr, List, [], ◌∷◌, ◌++◌, map, take, length, refl, sym, ◌∙◌, ap, subst, arith, length-append}
use Rattle.std.specs.Prelude.{All, fold, slice_index_or, slice_index}
use Rattle.std.specs.Bool.{Decides}
use Rattle.std.specs.List.{list_any}
use Rattle.std.proofs.lemmas.List.{take-append-le, take-map}
use Rattle.ltl_spec.proofs.Collections.ListLaws.{All-at_has, index_append}
use Rattle.ltl_spec.specs.Collections.Sets.{Has}
use Rattle.ltl_spec.specs.NormalForms.Normal.{Normal, same}
use Rattle.ltl_spec.specs.NormalForms.NormalForm.{postorder, rows}
use Rattle.ltl_spec.proofs.Collections.ListLaws.{any_Decides, Has-at}
use Rattle.ltl_spec.proofs.Collections.MemberLaws.{at_map, map_length, Has-map}
use Rattle.ltl_spec.proofs.NormalForms.NormalLaws.{same_Decides}
use Rattle.ltl_spec.proofs.NormalForms.RowsCollected.{operands, by_operands, collect, collect_seen, collect_new, collect_closed, collect_has, collect_last, postorder_self, rows_collected, HasOperands, IsGraph, number_seen, listed_no_repeats}
use Rattle.ltl_spec.proofs.NormalForms.SharedNodes.{Node, parts_of, tree_at, node_at, index_last, IsShared, shared_graph}
use Rattle.ltl_spec.proofs.Collections.CaseLaws.{below_or_last}
use Rattle.ltl_formula.specs.WalkView.{AreInOrder}

-- each tree stands behind its operands
abbrev pub AreFirst : List Normal → Type 0
AreFirst xs = (k : ℕ) (d : Normal) → k < length xs → (a : Normal) → Has (operands (slice_index_or xs k d)) a → Has (take k xs) a

take_whole : {X : Type 0} (xs ys : List X) → take (length xs) (xs ++ ys) ≡ xs
take_whole [] ys = refl
take_whole (x ∷ xs) ys = ap (λ zs. x ∷ zs) (take_whole xs ys)

-- one more whose operands are there
first_push : (xs : List Normal) (F : Normal) → AreFirst xs → ((a : Normal) → Has (operands F) a → Has xs a) → AreFirst (xs ++ F ∷ [])
first_push xs F first there k d l a h = elim (below_or_last k (length xs) (let e = length-append xs (F ∷ []) in omega arith)) [
  | inl m ↦ subst (λ ys. Has ys a) (sym (take-append-le k xs (F ∷ []) (omega arith))) (first k d m a (subst (λ (G : Normal). Has (operands G) a) (index_append xs (F ∷ []) k d m) h))
  | inr e ↦ subst (λ j. Has (take j (xs ++ F ∷ [])) a) (sym e) (subst (λ ys. Has ys a) (sym (take_whole xs (F ∷ []))) (there a (subst (λ (G : Normal). Has (operands G) a) (ap (λ j. slice_index_or (xs ++ F ∷ []) j d) e ∙ index_last xs F d) h)))
]

-- what a walk leaves
pub record AreClosed (xs : List Normal) : Type 0 where
  pub closed : HasOperands xs
  pub first : AreFirst xs

-- the walk keeps the order
module _ where
  abbrev Keeps : Normal → Type 0
  Keeps F = (seen : List Normal) → AreClosed seen → AreClosed (collect seen F)

  all_closed : (os : List Normal) → ((a : Normal) → Has os a → Keeps a) → (seen : List Normal) → AreClosed seen → AreClosed (fold collect seen os)
  all_closed [] each seen c = c
  all_closed (o ∷ os) each seen c = all_closed os (λ a h. each a (inr h)) (collect seen o) (each o (inl refl) seen c)

  all_there : (os : List Normal) → ((a : Normal) → Has os a → Keeps a) → (seen : List Normal) → AreClosed seen → (a : Normal) → Has seen a ⊎ Has os a → Has (fold collect seen os) a
  all_there [] each seen c a (inl h) = h
  all_there [] each seen c a (inr h) = absurd h
  all_there (o ∷ os) each seen c a h = all_there os (λ b k. each b (inr k)) (collect seen o) (each o (inl refl) seen c) a (here h)
    where
      here : Has seen a ⊎ Has (o ∷ os) a → Has (collect seen o) a ⊎ Has os a
      here (inl k) = inl (collect_has seen o c.closed a (inl k))
      here (inr (inl e)) = inl (collect_has seen o c.closed a (inr (subst (λ (b : Normal). Has (postorder o) b) (sym e) (postorder_self o))))
      here (inr (inr k)) = inr k

  pub collect_first : (F : Normal) → Keeps F
  collect_first F = by_operands Keeps each F
    where
      each : (F : Normal) → ((a : Normal) → Has (operands F) a → Keeps a) → Keeps F
      each F h seen c = record { closed = collect_closed seen F c.closed; first = at (any_Decides same same_Decides F seen) }
        where
          no_way : false ≡ true → ⊥
          no_way d = cc

          at : Decides (list_any (same F) seen) (Has seen F) → AreFirst (collect seen F)
          at d = elim (list_any (same F) seen) as (λ b. Decides b (Has seen F) → AreFirst (collect seen F)) [
            | true ↦ λ t. subst AreFirst (sym (collect_seen seen F (t.0 refl))) c.first
            | false ↦ λ t. subst AreFirst (sym (collect_new seen F (λ k. no_way (t.1 k))))
                (first_push (fold collect seen (operands F)) F (all_closed (operands F) h seen c).first (λ a k. all_there (operands F) h seen c a (inr k)))
          ] d

-- so each row stands behind its operands
pub rows_first : (F : Normal) → AreFirst (rows F)
rows_first F = subst AreFirst (rows_collected F) (collect_first F [] (record { closed = λ G a h k. absurd h; first = λ k d l. absurd (omega arith) })).first

-- and the last row is the whole formula
pub rows_last : (F : Normal) → (before : List Normal) × (rows F ≡ before ++ F ∷ [])
rows_last F = let (before, e) = collect_last [] F (λ h. h) in (before, sym (rows_collected F) ∙ e)

-- ---- numbers of nodes

Has-take : (ks : List ℕ) (n k : ℕ) → Has (take n ks) k → Has ks k
Has-take [] zero k h = h
Has-take [] (suc n) k h = h
Has-take (x ∷ ks) zero k h = absurd h
Has-take (x ∷ ks) (suc n) k (inl e) = inl e
Has-take (x ∷ ks) (suc n) k (inr h) = inr (Has-take ks n k h)

-- numbers that stand for the rows are in order
pub numbers_in_order : (nodes : List Node) (root : ℕ) → IsShared nodes → root < length nodes → (ks : List ℕ) → All (λ k. k < length nodes) ks → map (tree_at nodes) ks ≡ rows (tree_at nodes root) → AreInOrder nodes ks
numbers_in_order nodes root shared l ks inside e = record {
  inside = inside;
  distinct = listed_no_repeats (tree_at nodes) (λ k. parts_of (node_at nodes k)) (length nodes) graph root l ks each e;
  operands = λ n m i h.
      let k = slice_index ks n in
      let k_inside : k < length nodes = each k (Has-at ks n 0 m) in
      let long : length (map (tree_at nodes) ks) ≡ length ks = map_length (tree_at nodes) ks in
      let rows_long : length (rows (tree_at nodes root)) ≡ length ks = sym (ap length e) ∙ long in
      let here : slice_index_or (rows (tree_at nodes root)) n (tree_at nodes 0) ≡ tree_at nodes k = ap (λ xs. slice_index_or xs n (tree_at nodes 0)) (sym e) ∙ at_map (tree_at nodes) ks n 0 (tree_at nodes 0) m in
      let operand : Has (operands (tree_at nodes k)) (tree_at nodes i) = subst (λ os. Has os (tree_at nodes i)) (sym (graph.stands k k_inside)) (Has-map (tree_at nodes) (parts_of (node_at nodes k)) i h) in
      let found : Has (take n (rows (tree_at nodes root))) (tree_at nodes i) = rows_first (tree_at nodes root) n (tree_at nodes 0) (omega arith) (tree_at nodes i) (subst (λ (F : Normal). Has (operands F) (tree_at nodes i)) (sym here) operand) in
      let mapped : Has (map (tree_at nodes) (take n ks)) (tree_at nodes i) = subst (λ xs. Has xs (tree_at nodes i)) (ap (take n) (sym e) ∙ take-map (tree_at nodes) n ks) found in
      let i_inside : i < length nodes = (let o = graph.before k k_inside i h in omega arith) in
      number_seen (tree_at nodes) (λ k. parts_of (node_at nodes k)) (length nodes) graph (take n ks) i (λ j t. each j (Has-take ks n j t)) i_inside mapped;
}
  where
    graph : IsGraph (tree_at nodes) (λ k. parts_of (node_at nodes k)) (length nodes)
    graph = shared_graph nodes shared

    each : (k : ℕ) → Has ks k → k < length nodes
    each = All-at_has (λ k. k < length nodes) ks inside
