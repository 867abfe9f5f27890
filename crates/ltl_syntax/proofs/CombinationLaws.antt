-- A formula made of two formulas: its names, the words on which it holds, its nodes and their tree.
use Rattle.std.proofs.Common.{◌≡◌, ◌∙◌, ap, sym, refl, subst, ℕ, suc, ◌+◌, ◌-◌, ◌<◌, ◌≤◌, ◌↔◌, ◌⊎◌, Bool, true, false, cond, not, inl, inr, List, [], ◌∷◌, ◌++◌, fold, length, map, arith, slice_index_or, append_assoc, append-nil, nat_le, nat_lt, drop, slice_get, Option, Some, None, Bor}
use Rattle.std.specs.List.{flat_map, list_any, position, position_or_len}
use Rattle.std.specs.Option.{unwrap_or}
use Rattle.std.specs.Prelude.{Result, Ok, Err, IfOk, MatchResult}
use Rattle.std.specs.Bool.{Decides}
use Rattle.std.proofs.lemmas.Bool.Decides.{nat_tests}
use Rattle.std.proofs.lemmas.List.{get_or_append_left, get_or-append-add, get_or-map, get_or_past, length-append, drop_more, drop_all}
use Rattle.std.proofs.lemmas.Option.{get_or_from_slice_get}
use Rattle.std.proofs.lemmas.List.Sums.{fold-append, prefix_len-le-length}
use Rattle.ltl_spec.specs.Collections.Sets.{Has, has}
use Rattle.ltl_spec.specs.Collections.Lists.{first_occurrences, place_of, with_new}
use Rattle.ltl_spec.specs.Semantics.Word.{Name, Lasso, is_true_at, letter_at, name_cmp, next}
use Rattle.ltl_spec.specs.Semantics.Satisfaction.{HoldsRelease, HoldsUntil, Satisfied, Satisfies}
use Rattle.ltl_spec.specs.Formulas.Formula as spec
use Rattle.ltl_spec.specs.Formulas.Tokens.{same_name}
use Rattle.ltl_spec.specs.Formulas.Names.{IsNamed, IsNameWord, names_in, unified}
use Rattle.ltl_spec.proofs.Collections.ListLaws.{Has-at, Has-first_occurrences, any_Decides, at_place, first_occurrences_cases, fold_new, place_below}
use Rattle.ltl_spec.proofs.Collections.MemberLaws.{map_length}
use Rattle.ltl_spec.proofs.Collections.SetLaws.{all_at, all_from, append_cases, append_left, append_right}
use Rattle.ltl_spec.proofs.Formulas.NameLaws.{same_name_Decides}
use Rattle.ltl_syntax.specs.declared.operators.Node.{Node}
use Rattle.ltl_syntax.specs.declared.operators.Node.TheVariants.{Constant, Proposition, Unary, Binary}
use Rattle.ltl_syntax.specs.declared.operators.BinaryOperator.{BinaryOperator}
use Rattle.ltl_syntax.specs.declared.fault.ReadFault.{ReadFault}
use Rattle.ltl_syntax.specs.FormulaView.{FormulaView, IsFormula, StandsAt, binary_of, operands_of, reading_of, times, tree_in, tree_of, trees, unary_of, whole_tree, with_tree}
use Rattle.ltl_syntax.specs.CanonicalWork.{HasOperands}
use Rattle.ltl_syntax.specs.CombinationView.{HoldsOn, IsEquivalence, IsImplication, combination, joint_nodes, moved, number_among, renumbered}
use Rattle.ltl_syntax.specs.ParserView.{AreUsedOnce}
use Rattle.ltl_syntax.proofs.NameLemmas.{same_place}
use Rattle.ltl_syntax.proofs.ParserLemmas.{operands_push}
use Rattle.ltl_syntax.proofs.TreeLemmas.{push_at, push_length, trees_length, trees_push}

-- ---- what the code does step by step

-- the place of an element, where none is one behind the last
found_or_len : {K : Type 0} (test : K → Bool) (ks : List K) → unwrap_or (position test ks) (length ks) ≡ position_or_len test ks
found_or_len test ks =
    elim (nat_lt (position_or_len test ks) (length ks)) as (λ b. nat_lt (position_or_len test ks) (length ks) ≡ b → unwrap_or (cond b (Some (position_or_len test ks)) None) (length ks) ≡ position_or_len test ks) [
      | true ↦ λ e. refl
      | false ↦ λ e. past (position_or_len test ks) (length ks) (prefix_len-le-length (λ k. not (test k)) ks) e
    ] refl
  where
    past : (i n : ℕ) → i ≤ n → nat_lt i n ≡ false → n ≡ i
    past i n l e = grind (arith, nat_tests, l, e)

-- the place of a name in a set of names
pub place_found : (name : Bor Name) (ks : List (Bor Name)) (found : Option ℕ) (len place : ℕ) → found ≡ position (λ k. same_name name.now k.now) ks → len ≡ length ks → place ≡ unwrap_or found len
    → place ≡ place_of same_name name.now (map (λ k. k.now) ks)
place_found name ks found len place e f g =
    g ∙ (λ i. unwrap_or (e i) (f i)) ∙ found_or_len (λ k. same_name name.now k.now) ks ∙ same_place (λ k. k.now) (λ x y. same_name x.now y.now) (λ x y. refl) name ks

module _ (base : ℕ) (number : ℕ → ℕ) (ns whole : List Node) where
  -- one node more is put
  pub node_put : (i : ℕ) (v w : Node) (xs ys : List Node) → i < length ns → slice_get ns i ≡ Some v → w ≡ moved base number v → ys ≡ xs ++ w ∷ []
      → xs ++ map (moved base number) (drop i ns) ≡ whole → ys ++ map (moved base number) (drop (i + 1) ns) ≡ whole
  node_put i v w xs ys l e f p h =
      ap (λ zs. zs ++ map (moved base number) (drop (i + 1) ns)) p
      ∙ append_assoc xs (w ∷ []) (map (moved base number) (drop (i + 1) ns))
      ∙ ap (λ u. xs ++ u ∷ map (moved base number) (drop (i + 1) ns)) (f ∙ ap (moved base number) (sym (get_or_from_slice_get ns i v (Constant false) e)))
      ∙ ap (λ zs. xs ++ map (moved base number) zs) (sym (drop_more ns i (Constant false) l))
      ∙ h

  -- all nodes were put
  pub nodes_put : (i : ℕ) (xs : List Node) → length ns ≤ i → xs ++ map (moved base number) (drop i ns) ≡ whole → xs ≡ whole
  nodes_put i xs l h = sym (append-nil xs) ∙ ap (λ zs. xs ++ map (moved base number) zs) (sym (drop_all i ns l)) ∙ h

-- ---- names

module _ {K : Type 0} (same : K → K → Bool) (decides : (x y : K) → Decides (same x y) (x ≡ y)) where
  -- a thing is put into a list, and this list behind another one
  put_inside : (zs acc : List K) (y : K) → fold (with_new same) acc (with_new same zs y) ≡ with_new same (fold (with_new same) acc zs) y
  put_inside zs acc y =
      elim (list_any (same y) zs) as (λ b. Decides b (Has zs y) → fold (with_new same) acc (cond b zs (zs ++ y ∷ [])) ≡ with_new same (fold (with_new same) acc zs) y) [
        | true ↦ λ d. sym (ap (λ b. cond b (fold (with_new same) acc zs) (fold (with_new same) acc zs ++ y ∷ []))
            ((any_Decides same decides y (fold (with_new same) acc zs)).1 (fold_new same decides zs acc y (d.0 refl))))
        | false ↦ λ d. fold-append (with_new same) acc zs (y ∷ [])
      ] (any_Decides same decides y zs)

  -- the same for many things
  fold_inside : (ys zs acc : List K) → fold (with_new same) acc (fold (with_new same) zs ys) ≡ fold (with_new same) (fold (with_new same) acc zs) ys
  fold_inside [] zs acc = refl
  fold_inside (y ∷ ys) zs acc = fold_inside ys (with_new same zs y) acc ∙ ap (λ l. fold (with_new same) l ys) (put_inside zs acc y)

  -- the different elements of two lists are those of their different elements
  first_occurrences_twice : (xs ys : List K) → first_occurrences same (first_occurrences same xs ++ first_occurrences same ys) ≡ first_occurrences same (xs ++ ys)
  first_occurrences_twice xs ys =
      fold-append (with_new same) [] (first_occurrences same xs) (first_occurrences same ys)
      ∙ ap (λ l. fold (with_new same) l (first_occurrences same ys)) (fold_inside xs [] [])
      ∙ fold_inside ys [] (first_occurrences same xs)
      ∙ sym (fold-append (with_new same) [] xs ys)

-- at a name's place there is the name, or nothing
at_or : (x : Name) (xs : List Name) → slice_index_or xs (place_of same_name x xs) x ≡ x
at_or x [] = refl
at_or x (y ∷ ys) =
    elim (same_name x y) as (λ b. Decides b (x ≡ y) → slice_index_or (y ∷ ys) (cond (not b) (1 + place_of same_name x ys) 0) x ≡ x) [
      | true ↦ λ d. sym (d.0 refl)
      | false ↦ λ d. let e : 1 + place_of same_name x ys ≡ suc (place_of same_name x ys) = omega arith in ap (λ n. slice_index_or (y ∷ ys) n x) e ∙ at_or x ys
    ] (same_name_Decides x y)

-- each proposition has the same name among all names, and none where it had none
abbrev AreAmong : List Name → List Name → Type 0
AreAmong all names = (p : ℕ) → slice_index_or all (number_among all names p) [] ≡ slice_index_or names p []

are_among : (all names : List Name) → ((n : Name) → Has names n → Has all n) → AreAmong all names
are_among all names sub p = elim (inside_or_past p (length names)) [
  | inl l ↦ at_place same_name same_name_Decides (slice_index_or names p []) all [] (sub (slice_index_or names p []) (Has-at names p [] l))
  | inr l ↦ let e = get_or_past names p [] l in ap (λ n. slice_index_or all (place_of same_name n all) []) e ∙ at_or [] all ∙ sym e
]
  where
    inside_or_past : (i n : ℕ) → (i < n) ⊎ (n ≤ i)
    inside_or_past i n = grind arith

-- the names of both are among all of them
pub first_among : (xs ys : List Name) → AreAmong (unified xs ys) xs
first_among xs ys = are_among (unified xs ys) xs (λ n h. Has-first_occurrences same_name same_name_Decides (xs ++ ys) n (append_left xs ys n h))

pub second_among : (xs ys : List Name) → AreAmong (unified xs ys) ys
second_among xs ys = are_among (unified xs ys) ys (λ n h. Has-first_occurrences same_name same_name_Decides (xs ++ ys) n (append_right xs ys n h))

-- so a renumbered formula has the same names
renumbered_names : (all names : List Name) → AreAmong all names → (F : spec.Formula) → names_in all (renumbered (number_among all names) F) ≡ names_in names F
renumbered_names all names a (spec.Constant b) = refl
renumbered_names all names a (spec.Proposition p) = ap (λ n. n ∷ []) (a p)
renumbered_names all names a (spec.Unary op F) = renumbered_names all names a F
renumbered_names all names a (spec.Binary op F G) = λ i. renumbered_names all names a F i ++ renumbered_names all names a G i

-- and the names of a combination are proper and in order
pub combination_named : (op : spec.BinaryOperator) (R S : spec.Reading) → IsNamed R → IsNamed S → IsNamed (combination op R S)
combination_named op R S d e = record {
  words = all_from IsNameWord (unified R.names S.names) (λ n h. elim (append_cases R.names S.names n (first_occurrences_cases same_name same_name_Decides (R.names ++ S.names) n h)) [
    | inl m ↦ all_at IsNameWord R.names n d.words m
    | inr m ↦ all_at IsNameWord S.names n e.words m
  ]);
  numbered =
      (λ i. first_occurrences same_name (d.numbered i ++ e.numbered i))
      ∙ first_occurrences_twice same_name same_name_Decides (names_in R.names R.formula) (names_in S.names S.formula)
      ∙ sym (λ i. first_occurrences same_name
      (renumbered_names (unified R.names S.names) R.names (first_among R.names S.names) R.formula i
      ++ renumbered_names (unified R.names S.names) S.names (second_among R.names S.names) S.formula i));
}

-- ---- the words on which it holds

-- a renumbered formula holds where the formula does
satisfied_renumbered : (truth : ℕ → ℕ → Bool) (step : ℕ → ℕ) (number : ℕ → ℕ) (F : spec.Formula) → Satisfied truth step (renumbered number F) ≡ Satisfied (λ i p. truth i (number p)) step F
satisfied_renumbered t s f (spec.Constant b) = refl
satisfied_renumbered t s f (spec.Proposition p) = refl
satisfied_renumbered t s f (spec.Unary spec.Not a) = λ j i. ¬ (satisfied_renumbered t s f a j i)
satisfied_renumbered t s f (spec.Unary spec.Next a) = λ j i. satisfied_renumbered t s f a j (s i)
satisfied_renumbered t s f (spec.Unary spec.Always a) = λ j i. HoldsRelease s (λ _. ⊥) (satisfied_renumbered t s f a j) i
satisfied_renumbered t s f (spec.Unary spec.Eventually a) = λ j i. HoldsUntil s (λ _. Unit {0}) (satisfied_renumbered t s f a j) i
satisfied_renumbered t s f (spec.Binary spec.And a b) = λ j i. satisfied_renumbered t s f a j i × satisfied_renumbered t s f b j i
satisfied_renumbered t s f (spec.Binary spec.Or a b) = λ j i. satisfied_renumbered t s f a j i ⊎ satisfied_renumbered t s f b j i
satisfied_renumbered t s f (spec.Binary spec.Implies a b) = λ j i. satisfied_renumbered t s f a j i → satisfied_renumbered t s f b j i
satisfied_renumbered t s f (spec.Binary spec.Iff a b) = λ j i. satisfied_renumbered t s f a j i ↔ satisfied_renumbered t s f b j i
satisfied_renumbered t s f (spec.Binary spec.Until a b) = λ j i. HoldsUntil s (satisfied_renumbered t s f a j) (satisfied_renumbered t s f b j) i
satisfied_renumbered t s f (spec.Binary spec.Release a b) = λ j i. HoldsRelease s (satisfied_renumbered t s f a j) (satisfied_renumbered t s f b j) i

same_holds : (all names : List Name) → AreAmong all names → (w : Lasso) (F : spec.Formula) → Satisfies all w 0 (renumbered (number_among all names) F) ≡ Satisfies names w 0 F
same_holds all names a w F =
    (λ j. satisfied_renumbered (is_true_at all w) (next w) (number_among all names) F j 0)
    ∙ (λ j. Satisfied (λ i p. has name_cmp (a p j) (letter_at w i)) (next w) F 0)

-- each operand holds under all names where it holds under its own
first_holds : (R S : spec.Reading) (w : Lasso) → Satisfies (unified R.names S.names) w 0 (renumbered (number_among (unified R.names S.names) R.names) R.formula) ≡ HoldsOn w R
first_holds R S w = same_holds (unified R.names S.names) R.names (first_among R.names S.names) w R.formula

second_holds : (R S : spec.Reading) (w : Lasso) → Satisfies (unified R.names S.names) w 0 (renumbered (number_among (unified R.names S.names) S.names) S.formula) ≡ HoldsOn w S
second_holds R S w = same_holds (unified R.names S.names) S.names (second_among R.names S.names) w S.formula

pub is_implication : (R S T : spec.Reading) → T ≡ combination spec.Implies R S → IsImplication R S T
is_implication R S T e = subst (IsImplication R S) (sym e)
    (λ w. subst (λ X. X ↔ (HoldsOn w R → HoldsOn w S)) (sym (λ j. first_holds R S w j → second_holds R S w j)) ((λ h. h), λ h. h))

pub is_equivalence : (R S T : spec.Reading) → T ≡ combination spec.Iff R S → IsEquivalence R S T
is_equivalence R S T e = subst (IsEquivalence R S) (sym e)
    (λ w. subst (λ X. X ↔ (HoldsOn w R ↔ HoldsOn w S)) (sym (λ j. first_holds R S w j ↔ second_holds R S w j)) ((λ h. h), λ h. h))

-- ---- trees

module _ (f : ℕ → ℕ) where
  -- the tree of a moved node
  tree_moved : (ts us : List spec.Formula) (count : ℕ) (m : Node) → StandsAt count (length us) m
      → tree_of (ts ++ map (renumbered f) us) (moved (length ts) f m) ≡ renumbered f (tree_of us m)
  tree_moved ts us count (Constant b) h = refl
  tree_moved ts us count (Proposition p) h = refl
  tree_moved ts us count (Unary op i) h = ap (spec.Unary (unary_of op)) (operand ts us i h)
    where
      operand : (ts us : List spec.Formula) (i : ℕ) → i < length us → tree_in (ts ++ map (renumbered f) us) (length ts + i) ≡ renumbered f (tree_in us i)
      operand ts us i l = get_or-append-add ts (map (renumbered f) us) i (spec.Constant false) ∙ get_or-map (renumbered f) us i (spec.Constant false) (spec.Constant false) l
  tree_moved ts us count (Binary op i j) h = λ k. spec.Binary (binary_of op) (operand ts us i h.0 k) (operand ts us j h.1 k)
    where
      operand : (ts us : List spec.Formula) (i : ℕ) → i < length us → tree_in (ts ++ map (renumbered f) us) (length ts + i) ≡ renumbered f (tree_in us i)
      operand ts us i l = get_or-append-add ts (map (renumbered f) us) i (spec.Constant false) ∙ get_or-map (renumbered f) us i (spec.Constant false) (spec.Constant false) l

  map_push : (us : List spec.Formula) (u : spec.Formula) → map (renumbered f) (us ++ u ∷ []) ≡ map (renumbered f) us ++ renumbered f u ∷ []
  map_push [] u = refl
  map_push (v ∷ us) u = ap (λ l. renumbered f v ∷ l) (map_push us u)

  -- the trees of moved nodes
  trees_moved : (count : ℕ) (ts us : List spec.Formula) (ms : List Node) → ((k : ℕ) → k < length ms → StandsAt count (length us + k) (slice_index_or ms k (Constant false)))
      → fold with_tree (ts ++ map (renumbered f) us) (map (moved (length ts) f) ms) ≡ ts ++ map (renumbered f) (fold with_tree us ms)
  trees_moved count ts us [] o = refl
  trees_moved count ts us (m ∷ ms) o =
      let here : length us + 0 ≡ length us = omega arith in
      let stands : StandsAt count (length us) m = subst (λ i. StandsAt count i m) here (o 0 (omega arith)) in
      let longer = push_length us (tree_of us m) in
      let at : (k : ℕ) → length (with_tree us m) + k ≡ length us + suc k = λ k. omega (arith, longer) in
      ap (λ l. fold with_tree l (map (moved (length ts) f) ms)) (
      ap (λ t. (ts ++ map (renumbered f) us) ++ t ∷ []) (tree_moved ts us count m stands)
      ∙ append_assoc ts (map (renumbered f) us) (renumbered f (tree_of us m) ∷ [])
      ∙ ap (λ l. ts ++ l) (sym (map_push us (tree_of us m)))
      )
      ∙ trees_moved count ts (with_tree us m) ms (λ k l. subst (λ i. StandsAt count i (slice_index_or ms k (Constant false))) (sym (at k)) (o (suc k) (omega arith)))

  -- behind other nodes
  trees_behind : (count : ℕ) (ns ms : List Node) → HasOperands count ms → trees (ns ++ map (moved (length ns) f) ms) ≡ trees ns ++ map (renumbered f) (trees ms)
  trees_behind count ns ms o =
      let zero_plus : (k : ℕ) → 0 + k ≡ k = λ k. omega arith in
      fold-append with_tree [] ns (map (moved (length ns) f) ms)
      ∙ ap (λ n. fold with_tree (trees ns) (map (moved n f) ms)) (sym (trees_length ns))
      ∙ ap (λ l. fold with_tree l (map (moved (length (trees ns)) f) ms)) (sym (append-nil (trees ns)))
      ∙ trees_moved count (trees ns) [] ms (λ k l. subst (λ i. StandsAt count i (slice_index_or ms k (Constant false))) (sym (zero_plus k)) (o k l))

  -- the last one is the whole formula's
  whole_behind : (count : ℕ) (ns ms : List Node) → HasOperands count ms → 0 < length ms
      → whole_tree (ns ++ map (moved (length ns) f) ms) ≡ renumbered f (whole_tree ms)
  whole_behind count ns ms o l =
      let long = length-append ns (map (moved (length ns) f) ms) in
      let same = map_length (moved (length ns) f) ms in
      let nl = trees_length ns in
      let ml = trees_length ms in
      let at : length (ns ++ map (moved (length ns) f) ms) - 1 ≡ length (trees ns) + (length ms - 1) = omega (arith, long, same, nl, l) in
      ap (tree_in (trees (ns ++ map (moved (length ns) f) ms))) at
      ∙ ap (λ ts. tree_in ts (length (trees ns) + (length ms - 1))) (trees_behind count ns ms o)
      ∙ get_or-append-add (trees ns) (map (renumbered f) (trees ms)) (length ms - 1) (spec.Constant false)
      ∙ get_or-map (renumbered f) (trees ms) (length ms - 1) (spec.Constant false) (spec.Constant false) (omega (arith, ml, l))

  -- the trees before them stay
  whole_before : (count : ℕ) (ns ms : List Node) → HasOperands count ms → 0 < length ns → tree_in (trees (ns ++ map (moved (length ns) f) ms)) (length ns - 1) ≡ whole_tree ns
  whole_before count ns ms o l =
      let nl = trees_length ns in
      ap (λ ts. tree_in ts (length ns - 1)) (trees_behind count ns ms o)
      ∙ get_or_append_left (trees ns) (map (renumbered f) (trees ms)) (spec.Constant false) (length ns - 1) (omega (arith, nl, l))

-- the nodes of both formulas, and the last node on top
module _ (op : BinaryOperator) (f g : ℕ → ℕ) (ns ms : List Node) where
  abbrev first_nodes : List Node
  first_nodes = map (moved 0 f) ns

  abbrev both_nodes : List Node
  both_nodes = first_nodes ++ map (moved (length first_nodes) g) ms

  abbrev top_node : Node
  top_node = Binary op (length first_nodes - 1) (length both_nodes - 1)

  pub joint_tree : (m n : ℕ) → HasOperands m ns → HasOperands n ms → 0 < length ns → 0 < length ms
      → whole_tree (both_nodes ++ top_node ∷ []) ≡ spec.Binary (binary_of op) (renumbered f (whole_tree ns)) (renumbered g (whole_tree ms))
  joint_tree m n o p l k =
      let long = map_length (moved 0 f) ns in
      let pushed = push_length both_nodes top_node in
      let bl = trees_length both_nodes in
      let at : length (both_nodes ++ top_node ∷ []) - 1 ≡ length (trees both_nodes) = omega (arith, pushed, bl) in
      let some : 0 < length first_nodes = omega (arith, long, l) in
      ap (tree_in (trees (both_nodes ++ top_node ∷ []))) at
      ∙ ap (λ ts. tree_in ts (length (trees both_nodes))) (trees_push both_nodes top_node)
      ∙ push_at (trees both_nodes) (tree_of (trees both_nodes) top_node) (spec.Constant false)
      ∙ (λ i. spec.Binary (binary_of op)
      ((whole_before g n first_nodes ms p some ∙ whole_behind f m [] ns o l) i)
      (whole_behind g n first_nodes ms p k i))

-- ---- operands

-- a moved node stands behind its operands
moved_stands : (count total base i : ℕ) (f : ℕ → ℕ) (m : Node) → ((p : ℕ) → p < count → f p < total) → StandsAt count i m → StandsAt total (base + i) (moved base f m)
moved_stands count total base i f (Constant b) within h = tt
moved_stands count total base i f (Proposition p) within h = within p h
moved_stands count total base i f (Unary op a) within h = omega arith
moved_stands count total base i f (Binary op a b) within h = let l = h.0 in let m = h.1 in (omega arith, omega arith)

operands_behind : (count total : ℕ) (f : ℕ → ℕ) (ns ms : List Node) → ((p : ℕ) → p < count → f p < total) → HasOperands total ns → HasOperands count ms
    → HasOperands total (ns ++ map (moved (length ns) f) ms)
operands_behind count total f ns ms within o p i l = by (grind arith)
  where
    by : (i < length ns) ⊎ (length ns ≤ i) → StandsAt total i (slice_index_or (ns ++ map (moved (length ns) f) ms) i (Constant false))
    by (inl h) = subst (StandsAt total i) (sym (get_or_append_left ns (map (moved (length ns) f) ms) (Constant false) i h)) (o i h)
    by (inr h) =
        let long = length-append ns (map (moved (length ns) f) ms) in
        let same = map_length (moved (length ns) f) ms in
        let k : i - length ns < length ms = omega (arith, long, same, l, h) in
        let at : length ns + (i - length ns) ≡ i = omega (arith, h) in
        subst (λ j. StandsAt total j (slice_index_or (ns ++ map (moved (length ns) f) ms) j (Constant false))) at
        (subst (StandsAt total (length ns + (i - length ns)))
        (sym (get_or-append-add ns (map (moved (length ns) f) ms) (i - length ns) (Constant false) ∙ get_or-map (moved (length ns) f) ms (i - length ns) (Constant false) (Constant false) k))
        (moved_stands count total (length ns) (i - length ns) f _ within (p (i - length ns) k)))

-- ---- how often each node is an operand

-- how often the number is an operand
abbrev uses_in : List Node → ℕ → ℕ
uses_in ns k = times k (flat_map operands_of ns)

times_append : (k : ℕ) (xs ys : List ℕ) → times k (xs ++ ys) ≡ times k xs + times k ys
times_append k [] ys = omega arith
times_append k (x ∷ xs) ys = omega (arith, times_append k xs ys)

uses_append : (ns ms : List Node) (k : ℕ) → uses_in (ns ++ ms) k ≡ uses_in ns k + uses_in ms k
uses_append [] ms k = omega arith
uses_append (n ∷ ns) ms k = omega (arith, uses_append ns ms k, times_append k (operands_of n) (flat_map operands_of (ns ++ ms)), times_append k (operands_of n) (flat_map operands_of ns))

-- a number is as often an operand of moved nodes as it was
moved_operand : (base k a : ℕ) → times (base + k) ((base + a) ∷ []) ≡ times k (a ∷ [])
moved_operand base k a = grind (arith, nat_tests)

moved_operands : (base k : ℕ) (f : ℕ → ℕ) (m : Node) → times (base + k) (operands_of (moved base f m)) ≡ times k (operands_of m)
moved_operands base k f (Constant b) = refl
moved_operands base k f (Proposition p) = refl
moved_operands base k f (Unary op a) = moved_operand base k a
moved_operands base k f (Binary op a b) =
    omega (
      arith,
      moved_operand base k a,
      moved_operand base k b,
      times_append (base + k) ((base + a) ∷ []) ((base + b) ∷ []),
      times_append k (a ∷ []) (b ∷ []),
    )

moved_uses : (base k : ℕ) (f : ℕ → ℕ) (ms : List Node) → uses_in (map (moved base f) ms) (base + k) ≡ uses_in ms k
moved_uses base k f [] = refl
moved_uses base k f (m ∷ ms) =
    omega (
      arith,
      moved_uses base k f ms,
      moved_operands base k f m,
      times_append (base + k) (operands_of (moved base f m)) (flat_map operands_of (map (moved base f) ms)),
      times_append k (operands_of m) (flat_map operands_of ms),
    )

-- and a lower number never
lower_operand : (base k a : ℕ) → k < base → times k ((base + a) ∷ []) ≡ 0
lower_operand base k a l = grind (arith, nat_tests, l)

lower_operands : (base k : ℕ) (f : ℕ → ℕ) (m : Node) → k < base → times k (operands_of (moved base f m)) ≡ 0
lower_operands base k f (Constant b) l = refl
lower_operands base k f (Proposition p) l = refl
lower_operands base k f (Unary op a) l = lower_operand base k a l
lower_operands base k f (Binary op a b) l = omega (arith, lower_operand base k a l, lower_operand base k b l, times_append k ((base + a) ∷ []) ((base + b) ∷ []))

lower_uses : (base k : ℕ) (f : ℕ → ℕ) (ms : List Node) → k < base → uses_in (map (moved base f) ms) k ≡ 0
lower_uses base k f [] l = refl
lower_uses base k f (m ∷ ms) l =
    omega (arith, lower_uses base k f ms l, lower_operands base k f m l, times_append k (operands_of (moved base f m)) (flat_map operands_of (map (moved base f) ms)))

-- nor is a number that no node's place is above
higher_operand : (k a i : ℕ) → a < i → i ≤ k → times k (a ∷ []) ≡ 0
higher_operand k a i l h = grind (arith, nat_tests, l, h)

higher_operands : (count k i : ℕ) (m : Node) → StandsAt count i m → i ≤ k → times k (operands_of m) ≡ 0
higher_operands count k i (Constant b) s h = refl
higher_operands count k i (Proposition p) s h = refl
higher_operands count k i (Unary op a) s h = higher_operand k a i s h
higher_operands count k i (Binary op a b) s h = omega (arith, higher_operand k a i s.0 h, higher_operand k b i s.1 h, times_append k (a ∷ []) (b ∷ []))

higher_uses : (count k base : ℕ) (ns : List Node) → ((j : ℕ) → j < length ns → StandsAt count (base + j) (slice_index_or ns j (Constant false))) → base + length ns ≤ suc k → uses_in ns k ≡ 0
higher_uses count k base [] s l = refl
higher_uses count k base (n ∷ ns) s l =
    let here : base + 0 ≡ base = omega arith in
    let at : (j : ℕ) → suc base + j ≡ base + suc j = λ j. omega arith in
    let first = higher_operands count k base n (subst (λ i. StandsAt count i n) here (s 0 (omega arith))) (omega (arith, l)) in
    let rest = higher_uses count k (suc base) ns (λ j m. subst (λ i. StandsAt count i (slice_index_or ns j (Constant false))) (sym (at j)) (s (suc j) (omega arith))) (omega (arith, l)) in
    omega (arith, first, rest, times_append k (operands_of n) (flat_map operands_of ns))

-- the last node of a formula is no operand, and each other one is once
pub used_once : (count : ℕ) (ns : List Node) → 0 < length ns → HasOperands count ns → ((k : ℕ) → suc k < length ns → times k (flat_map operands_of ns) ≡ 1) → AreUsedOnce ns [] true
used_once count ns l o once k = by (grind arith)
  where
    none : length ns ≤ suc k → uses_in ns k ≡ 0
    none h =
        let zero_plus : (j : ℕ) → 0 + j ≡ j = λ j. omega arith in
        higher_uses count k 0 ns (λ j m. subst (λ i. StandsAt count i (slice_index_or ns j (Constant false))) (sym (zero_plus j)) (o j m)) (omega (arith, h))

    below : suc k < length ns → uses_in ns k ≡ 1 → uses_in ns k + (0 + times k ((length ns - 1) ∷ [])) ≡ cond (nat_le (suc k) (length ns)) 1 0
    below h e = grind (arith, nat_tests, h, e)

    above : length ns ≤ suc k → uses_in ns k ≡ 0 → uses_in ns k + (0 + times k ((length ns - 1) ∷ [])) ≡ cond (nat_le (suc k) (length ns)) 1 0
    above h e = grind (arith, nat_tests, h, e, l)

    by : (suc k < length ns) ⊎ (length ns ≤ suc k) → uses_in ns k + (0 + times k ((length ns - 1) ∷ [])) ≡ cond (nat_le (suc k) (length ns)) 1 0
    by (inl h) = below h (once k h)
    by (inr h) = above h (none h)

-- 1 for a number that is below another one
abbrev below : ℕ → ℕ → ℕ
below k n = cond (nat_le (suc k) n) 1 0

-- below the nodes of the first formula
once_below : (k n m u : ℕ) → k < n → 0 < m → u + (0 + times k ((n - 1) ∷ [])) ≡ below k n
    → u + times k ((n - 1) ∷ (n + m - 1) ∷ []) + (0 + times k ((n + m) ∷ [])) ≡ below k (suc (n + m))
once_below k n m u l h e = grind (arith, nat_tests, l, h, e)

-- among those of the second one
once_above : (k n m u v : ℕ) → n ≤ k → 0 < n → 0 < m → u + (0 + times k ((n - 1) ∷ [])) ≡ below k n
    → v + (0 + times (k - n) ((m - 1) ∷ [])) ≡ below (k - n) m
    → u + v + times k ((n - 1) ∷ (n + m - 1) ∷ []) + (0 + times k ((n + m) ∷ [])) ≡ below k (suc (n + m))
once_above k n m u v l h i e f = grind (arith, nat_tests, l, h, i, e, f)

-- the same of two formulas and a node on top
module _ (op : BinaryOperator) (f g : ℕ → ℕ) (ns ms : List Node) where
  pub joint_once : 0 < length ns → 0 < length ms → AreUsedOnce ns [] true → AreUsedOnce ms [] true → AreUsedOnce (both_nodes op f g ns ms ++ top_node op f g ns ms ∷ []) [] true
  joint_once l m a b k =
      let firsts = first_nodes op f g ns ms in
      let others = map (moved (length firsts) g) ms in
      let both = both_nodes op f g ns ms in
      let top = top_node op f g ns ms in
      let first_long : length firsts ≡ length ns = map_length (moved 0 f) ns in
      let other_long : length others ≡ length ms = map_length (moved (length firsts) g) ms in
      let apart = length-append firsts others in
      let both_long : length both ≡ length ns + length ms = omega (arith, first_long, other_long, apart) in
      let pushed = push_length both top in
      let whole_long : length (both ++ top ∷ []) ≡ suc (length ns + length ms) = omega (arith, both_long, pushed) in
      let last_at : length (both ++ top ∷ []) - 1 ≡ length ns + length ms = omega (arith, whole_long) in
      let last : times k ((length (both ++ top ∷ []) - 1) ∷ []) ≡ times k ((length ns + length ms) ∷ []) = ap (λ j. times k (j ∷ [])) last_at in
      let tops : uses_in (top ∷ []) k ≡ times k ((length ns - 1) ∷ (length ns + length ms - 1) ∷ []) = λ i. times k ((first_long i - 1) ∷ (both_long i - 1) ∷ []) in
      let most : below k (length (both ++ top ∷ [])) ≡ below k (suc (length ns + length ms)) = ap (below k) whole_long in
      let zero_plus : k ≡ 0 + k = omega arith in
      let first : uses_in firsts k ≡ uses_in ns k = ap (uses_in firsts) zero_plus ∙ moved_uses 0 k f ns in
      let whole_uses = uses_append both (top ∷ []) k in
      let both_uses = uses_append firsts others k in
      elim (order k (length ns)) [
        | inl h ↦
            let none : uses_in others k ≡ 0 = lower_uses (length firsts) k g ms (omega (arith, first_long, h)) in
            omega (arith, last, tops, most, first, whole_uses, both_uses, none, once_below k (length ns) (length ms) (uses_in ns k) h m (a k))
        | inr h ↦
            let at : k ≡ length firsts + (k - length ns) = omega (arith, first_long, h) in
            let other : uses_in others k ≡ uses_in ms (k - length ns) = ap (uses_in others) at ∙ moved_uses (length firsts) (k - length ns) g ms in
            omega (
              arith,
              last,
              tops,
              most,
              first,
              whole_uses,
              both_uses,
              other,
              once_above k (length ns) (length ms) (uses_in ns k) (uses_in ms (k - length ns)) h l m (a k) (b (k - length ns)),
            )
      ]
    where
      order : (i n : ℕ) → (i < n) ⊎ (n ≤ i)
      order i n = grind arith

  -- and operands stand before their nodes
  pub joint_operands : (m n total : ℕ) → ((p : ℕ) → p < m → f p < total) → ((p : ℕ) → p < n → g p < total) → 0 < length ns → 0 < length ms → HasOperands m ns → HasOperands n ms
      → HasOperands total (both_nodes op f g ns ms ++ top_node op f g ns ms ∷ [])
  joint_operands m n total within other l k o p =
      let firsts = first_nodes op f g ns ms in
      let both = both_nodes op f g ns ms in
      let first_long : length firsts ≡ length ns = map_length (moved 0 f) ns in
      let other_long = map_length (moved (length firsts) g) ms in
      let apart = length-append firsts (map (moved (length firsts) g) ms) in
      let first : HasOperands total firsts = operands_behind m total f [] ns within (λ i h. absurd (omega arith)) o in
      operands_push total both (top_node op f g ns ms) (operands_behind n total g firsts ms other first p)
      (omega (arith, first_long, other_long, apart, l, k), omega (arith, first_long, other_long, apart, l, k))

-- ---- the whole formula

-- the number of a name is below the number of all names
module _ (xs ys : List Name) where
  pub first_number : (p : ℕ) → p < length xs → number_among (unified xs ys) xs p < length (unified xs ys)
  first_number p l = place_below same_name same_name_Decides (slice_index_or xs p []) (unified xs ys)
      (Has-first_occurrences same_name same_name_Decides (xs ++ ys) (slice_index_or xs p []) (append_left xs ys (slice_index_or xs p []) (Has-at xs p [] l)))

  pub second_number : (p : ℕ) → p < length ys → number_among (unified xs ys) ys p < length (unified xs ys)
  second_number p l = place_below same_name same_name_Decides (slice_index_or ys p []) (unified xs ys)
      (Has-first_occurrences same_name same_name_Decides (xs ++ ys) (slice_index_or ys p []) (append_right xs ys (slice_index_or ys p []) (Has-at ys p [] l)))

-- what a reader of the nodes of two formulas needs
module _ (op : BinaryOperator) (f g : FormulaView) (F : IsFormula f.nodes f.names) (G : IsFormula g.nodes g.names) (all : List Name) (e : all ≡ unified f.names g.names) where
  pub joint_stand : HasOperands (length all) (joint_nodes op all f g)
  joint_stand = subst (λ a. HasOperands (length a) (joint_nodes op a f g)) (sym e)
      (joint_operands op (number_among (unified f.names g.names) f.names) (number_among (unified f.names g.names) g.names) f.nodes g.nodes
      (length f.names) (length g.names) (length (unified f.names g.names)) (first_number f.names g.names) (second_number f.names g.names) F.some G.some F.operands G.operands)

  pub joint_used : AreUsedOnce (joint_nodes op all f g) [] true
  joint_used = joint_once op (number_among all f.names) (number_among all g.names) f.nodes g.nodes F.some G.some
      (used_once (length f.names) f.nodes F.some F.operands F.once) (used_once (length g.names) g.nodes G.some G.operands G.once)

  pub joint_reading : reading_of (record { nodes = joint_nodes op all f g; names = all }) ≡ combination (binary_of op) (reading_of f) (reading_of g)
  joint_reading = ap (λ a. reading_of (record { nodes = joint_nodes op a f g; names = a })) e
      ∙ ap (λ t. record { formula = t; names = unified f.names g.names })
      (joint_tree op (number_among (unified f.names g.names) f.names) (number_among (unified f.names g.names) g.names) f.nodes g.nodes
      (length f.names) (length g.names) F.operands G.operands F.some G.some)

  pub joint_named : IsNamed (reading_of (record { nodes = joint_nodes op all f g; names = all }))
  joint_named = subst IsNamed (sym joint_reading) (combination_named (binary_of op) (reading_of f) (reading_of g) F.named G.named)

  -- so has the formula that is made of them
  pub joint_made : (nodes : List Node) (P : FormulaView → Type 0) (Q : ReadFault → Type 0) → nodes ≡ joint_nodes op all f g → (r : Result FormulaView ReadFault)
      → MatchResult r (λ h. (h.nodes ≡ nodes) × (h.names ≡ all) × P h) Q → IfOk r (λ h. reading_of h ≡ combination (binary_of op) (reading_of f) (reading_of g))
  joint_made nodes P Q n (Ok h) w = (λ i. reading_of (record { nodes = (w.0 ∙ n) i; names = w.1 i })) ∙ joint_reading
  joint_made nodes P Q n (Err x) w = tt
