-- The table of rows that stand for the rows of a normal form.
use Rattle.std.proofs.Common.{◌≡◌, ℕ, zero, suc, ◌+◌, ◌-◌, ◌<◌, ◌≤◌, Bool, true, false, cond, ◌||◌, ◌==◌, inl, inr, List, [], ◌∷◌, map, filter, length, refl, sym, ◌∙◌, ap, subst, arith, length-append}
use Rattle.std.specs.Prelude.{All, fold, slice_index_or, Result, Ok, Err, IfOk}
use Rattle.std.specs.Bool.{Decides}
use Rattle.std.proofs.lemmas.Bool.Decides.{Decides-eqb}
use Rattle.std.proofs.lemmas.List.Elements.{All-push}
use Rattle.ltl_spec.proofs.Collections.ListLaws.{index_append, place_again}
use Rattle.ltl_spec.specs.Semantics.Word.{Name}
use Rattle.ltl_spec.specs.Checking.Bounds.{HasPropositionsBelow}
use Rattle.ltl_spec.specs.Collections.Sets.{Has}
use Rattle.ltl_spec.specs.Collections.Lists.{HasNoRepeats, place_of, places_from}
use Rattle.ltl_spec.specs.Formulas.Formula as spec
use Rattle.ltl_spec.specs.NormalForms.Normal.{Normal, Top, Bottom, Leaf, Next, And, Or, Until, Release, same}
use Rattle.ltl_spec.specs.NormalForms.NormalForm as normal
use Rattle.ltl_spec.specs.Tools.Limits.{stated_limits}
use Rattle.ltl_spec.proofs.Checking.BelowLaws.{HasLeavesBelow}
use Rattle.ltl_spec.proofs.Collections.ListLaws.{Has-at, HasNoRepeats-first_occurrences, first_occurrences_cases}
use Rattle.ltl_spec.proofs.Collections.MemberLaws.{at_map, map_length}
use Rattle.ltl_spec.proofs.NormalForms.NormalLaws.{same_Decides}
use Rattle.ltl_spec.proofs.NormalForms.RowsCollected.{operands, by_operands, postorder_cases}
use Rattle.ltl_spec.proofs.NormalForms.SharedNodes.{Node, BottomNode, tree_of, tree_in, trees_length, tree_at, node_at, with_tree, tree_of_alike, index_last, AllBefore}
use Rattle.ltl_syntax.specs.declared.operators.Node as code
use Rattle.ltl_formula.specs.declared.row.Row.{Row}
use Rattle.ltl_formula.specs.declared.row.Row.TheVariants as row
use Rattle.ltl_syntax.specs.FormulaView as formula
use Rattle.ltl_formula.specs.SharedNodesView.{IsBelow, node_of}
use Rattle.ltl_formula.specs.TableView.{TableView, AreOrdered, IsTable, IsTableOf, IsNamedBelow, row_trees, core_of, places_by, is_until_row, is_elementary_row, is_elementary_of}
use Rattle.ltl_formula.proofs.OrderLemmas.{rows_last}

-- ---- the tree of a row by those of its operands

one_of : (n i k : ℕ) → i < n → k < n → (j : ℕ) → Has (i ∷ k ∷ []) j → j < n
one_of n i k p q j (inl e) = subst (λ x. x < n) (sym e) p
one_of n i k p q j (inr (inl e)) = subst (λ x. x < n) (sym e) q
one_of n i k p q j (inr (inr h)) = absurd h

-- operands before a number, as the laws say it
pub before_of : (n : ℕ) (v : Row) → IsBelow n v → AllBefore n (node_of v)
before_of n row.True b j h = absurd h
before_of n row.False b j h = absurd h
before_of n (row.Literal l) b j h = absurd h
before_of n (row.Next i) b j (inl e) = subst (λ k. k < n) (sym e) b
before_of n (row.Next i) b j (inr h) = absurd h
before_of n (row.And i k) b j h = one_of n i k b.0 b.1 j h
before_of n (row.Or i k) b j h = one_of n i k b.0 b.1 j h
before_of n (row.Until i k) b j h = one_of n i k b.0 b.1 j h
before_of n (row.Release i k) b j h = one_of n i k b.0 b.1 j h

-- trees that are there stay
fold_keeps : (nodes : List Node) (ts : List Normal) (j : ℕ) → j < length ts → tree_in (fold with_tree ts nodes) j ≡ tree_in ts j
fold_keeps [] ts j l = refl
fold_keeps (v ∷ nodes) ts j l =
    fold_keeps nodes (with_tree ts v) j (let a = length-append ts (tree_of (tree_in ts) v ∷ []) in omega arith)
    ∙ index_append ts (tree_of (tree_in ts) v ∷ []) j Bottom l

fold_next : (nodes : List Node) (ts : List Normal) (k : ℕ) → k < length nodes → (F : ℕ → Normal) → ((j : ℕ) → j < length ts + k → F j ≡ tree_in (fold with_tree ts nodes) j) → AllBefore (length ts + k) (node_at nodes k)
    → tree_in (fold with_tree ts nodes) (length ts + k) ≡ tree_of F (node_at nodes k)
fold_next [] ts k l F same before = absurd (omega arith)
fold_next (v ∷ nodes) ts zero l F same before =
    let a : length (with_tree ts v) ≡ length ts + 1 = length-append ts (tree_of (tree_in ts) v ∷ []) in
    let here : length ts + 0 ≡ length ts = omega arith in
    fold_keeps nodes (with_tree ts v) (length ts + 0) (omega arith)
    ∙ ap (tree_in (with_tree ts v)) here
    ∙ index_last ts (tree_of (tree_in ts) v) Bottom
    ∙ sym (tree_of_alike F (tree_in ts) v (λ j h. let b = before j h in
    same j b ∙ fold_keeps nodes (with_tree ts v) j (omega arith) ∙ index_append ts (tree_of (tree_in ts) v ∷ []) j Bottom (omega arith)))
fold_next (v ∷ nodes) ts (suc k) l F same before =
    let a : length (with_tree ts v) ≡ length ts + 1 = length-append ts (tree_of (tree_in ts) v ∷ []) in
    let e : length (with_tree ts v) + k ≡ length ts + suc k = omega arith in
    ap (tree_in (fold with_tree (with_tree ts v) nodes)) (sym e)
    ∙ fold_next nodes (with_tree ts v) k (omega arith) F (λ j m. same j (omega arith)) (λ j h. let b = before j h in omega arith)

-- each row stands for its operator over what its operands stand for
pub row_stands : (rs : List Row) → AreOrdered rs → (i : ℕ) (d : Row) → i < length rs → tree_at (map node_of rs) i ≡ tree_of (tree_at (map node_of rs)) (node_of (slice_index_or rs i d))
row_stands rs ordered i d l =
    let long = map_length node_of rs in
    let here : node_at (map node_of rs) i ≡ node_of (slice_index_or rs i d) = at_map node_of rs i d BottomNode l in
    let at : length {A = Normal} [] + i ≡ i = omega arith in
    ap (tree_at (map node_of rs)) (sym at)
    ∙ fold_next (map node_of rs) [] i (omega arith) (tree_at (map node_of rs)) (λ j m. refl)
    (subst (λ k. AllBefore k (node_at (map node_of rs) i)) (sym at) (subst (AllBefore i) (sym here) (before_of i (slice_index_or rs i d) (ordered i d l))))
    ∙ ap (tree_of (tree_at (map node_of rs))) here

-- ---- places

-- tests that agree pass at the same places
places_agree : (p : ℕ → Row → Bool) (q : Normal → Bool) (n : ℕ) (rs : List Row) (ts : List Normal) → length rs ≡ length ts
    → ((i : ℕ) → i < length rs → (d : Row) (e : Normal) → p (n + i) (slice_index_or rs i d) ≡ q (slice_index_or ts i e)) → places_by p n rs ≡ places_from q n ts
places_agree p q n [] [] e same = refl
places_agree p q n [] (t ∷ ts) e same = absurd (omega arith)
places_agree p q n (r ∷ rs) [] e same = absurd (omega arith)
places_agree p q n (r ∷ rs) (t ∷ ts) e same =
    let zero_more : n + 0 ≡ n = omega arith in
    let first : p n r ≡ q t = ap (λ i. p i r) (sym zero_more) ∙ same 0 (omega arith) r t in
    let rest : places_by p (n + 1) rs ≡ places_from q (n + 1) ts = places_agree p q (n + 1) rs ts (omega arith) (λ i l d f.
    let one_more : n + 1 + i ≡ n + suc i = omega arith in ap (λ j. p j (slice_index_or rs i d)) one_more ∙ same (suc i) (omega arith) d f) in
    λ i. cond (first i) (n ∷ rest i) (rest i)

-- as many places as elements that pass
pub places_length : (q : Normal → Bool) (n : ℕ) (ts : List Normal) → length (places_from q n ts) ≡ length (filter q ts)
places_length q n [] = refl
places_length q n (t ∷ ts) = elim (q t) as (λ b. length (cond b (n ∷ places_from q (n + 1) ts) (places_from q (n + 1) ts)) ≡ length (cond b (t ∷ filter q ts) (filter q ts))) [
  | true ↦ ap suc (places_length q (n + 1) ts)
  | false ↦ places_length q (n + 1) ts
]

until_same : (f : ℕ → Normal) (r : Row) → is_until_row r ≡ normal.is_until (tree_of f (node_of r))
until_same f row.True = refl
until_same f _ = refl

pub elementary_same : (f : ℕ → Normal) (r : Row) → is_elementary_row r ≡ normal.is_elementary (tree_of f (node_of r))
elementary_same f row.True = refl
elementary_same f _ = refl

-- ---- literals

below_in : (n : ℕ) (ts : List spec.Formula) → All (HasPropositionsBelow n) ts → (k : ℕ) → HasPropositionsBelow n (formula.tree_in ts k)
below_in n [] all zero = tt
below_in n [] all (suc k) = tt
below_in n (t ∷ ts) all zero = all 0 t (omega arith)
below_in n (t ∷ ts) all (suc k) = below_in n ts (λ j d l. all (suc j) d (omega arith)) k

tree_below : (n i : ℕ) (ts : List spec.Formula) → All (HasPropositionsBelow n) ts → (v : code.Node) → formula.StandsAt n i v → HasPropositionsBelow n (formula.tree_of ts v)
tree_below n i ts all (code.TheVariants.Constant b) s = tt
tree_below n i ts all (code.TheVariants.Proposition p) s = s
tree_below n i ts all (code.TheVariants.Unary op j) s = below_in n ts all j
tree_below n i ts all (code.TheVariants.Binary op j k) s = (below_in n ts all j, below_in n ts all k)

trees_below : (n : ℕ) (nodes : List code.Node) (ts : List spec.Formula) → All (HasPropositionsBelow n) ts → ((i : ℕ) → i < length nodes → (j : ℕ) × formula.StandsAt n j (slice_index_or nodes i (code.TheVariants.Constant false)))
    → All (HasPropositionsBelow n) (fold formula.with_tree ts nodes)
trees_below n [] ts all each = all
trees_below n (v ∷ nodes) ts all each =
    let here = each 0 (omega arith) in
    trees_below n nodes (formula.with_tree ts v) (All-push (HasPropositionsBelow n) ts (formula.tree_of ts v) all (tree_below n here.0 ts all v here.1)) (λ i l. each (suc i) (omega arith))

-- the propositions of a formula have names
pub whole_below : (nodes : List code.Node) (names : List Name) → formula.IsFormula nodes names → HasPropositionsBelow (length names) (formula.whole_tree nodes)
whole_below nodes names f = below_in (length names) (formula.trees nodes) (trees_below (length names) nodes [] (λ k d l. absurd (omega arith)) (λ i l. (i, f.operands i l))) (length nodes - 1)

of_both : (n : ℕ) (c d a : Normal) → Has (c ∷ d ∷ []) a → HasLeavesBelow n c → HasLeavesBelow n d → HasLeavesBelow n a
of_both n c d a (inl e) p q = subst (HasLeavesBelow n) (sym e) p
of_both n c d a (inr (inl e)) p q = subst (HasLeavesBelow n) (sym e) q
of_both n c d a (inr (inr z)) p q = absurd z

operand_below : (n : ℕ) (F a : Normal) → Has (operands F) a → HasLeavesBelow n F → HasLeavesBelow n a
operand_below n Top a h b = absurd h
operand_below n Bottom a h b = absurd h
operand_below n (Leaf l) a h b = absurd h
operand_below n (Next c) a (inl e) b = subst (HasLeavesBelow n) (sym e) b
operand_below n (Next c) a (inr h) b = absurd h
operand_below n (And c d) a h b = of_both n c d a h b.0 b.1
operand_below n (Or c d) a h b = of_both n c d a h b.0 b.1
operand_below n (Until c d) a h b = of_both n c d a h b.0 b.1
operand_below n (Release c d) a h b = of_both n c d a h b.0 b.1

part_below : (n : ℕ) (x F : Normal) → Has (normal.postorder F) x → HasLeavesBelow n F → HasLeavesBelow n x
part_below n x F = by_operands (λ G. Has (normal.postorder G) x → HasLeavesBelow n G → HasLeavesBelow n x) each F
  where
    each : (G : Normal) → ((a : Normal) → Has (operands G) a → Has (normal.postorder a) x → HasLeavesBelow n a → HasLeavesBelow n x) → Has (normal.postorder G) x → HasLeavesBelow n G → HasLeavesBelow n x
    each G h m b = elim (postorder_cases G x m) [
      | inl e ↦ subst (HasLeavesBelow n) (sym e) b
      | inr w ↦ h w.0 w.1 w.2 (operand_below n G w.0 w.1 b)
    ]

row_below : (n : ℕ) (f : ℕ → Normal) (r : Row) → HasLeavesBelow n (tree_of f (node_of r)) → IsNamedBelow n r
row_below n f (row.Literal l) b = b
row_below n f _ b = tt

-- and so have the literals of its rows
pub rows_below : (n : ℕ) (F : Normal) (rs : List Row) → row_trees rs ≡ normal.rows F → AreOrdered rs → HasLeavesBelow n F → All (IsNamedBelow n) rs
rows_below n F rs made ordered b = λ i d l.
    let m = trees_length (map node_of rs) in
    let k = map_length node_of rs in
    let has : Has (normal.rows F) (tree_at (map node_of rs) i) = subst (λ ts. Has ts (tree_at (map node_of rs) i)) made (Has-at (row_trees rs) i Bottom (omega arith)) in
    let part = part_below n (tree_at (map node_of rs) i) F (first_occurrences_cases same same_Decides (normal.postorder F) (tree_at (map node_of rs) i) has) b in
    row_below n (tree_at (map node_of rs)) (slice_index_or rs i d) (subst (HasLeavesBelow n) (row_stands rs ordered i d l) part)

-- ---- the table

module _ (F : Normal) (rs : List Row) (made : row_trees rs ≡ normal.rows F) (ordered : AreOrdered rs) where
  pub rows_long : length rs ≡ length (normal.rows F)
  rows_long = sym (map_length node_of rs) ∙ sym (trees_length (map node_of rs)) ∙ ap length made

  -- the last row is the whole formula
  last_is : (length rs ≡ length (rows_last F).0 + 1) × (tree_at (map node_of rs) (length rs - 1) ≡ F)
  last_is =
      let (before, e) = rows_last F in
      let long : length rs ≡ length before + 1 = rows_long ∙ ap length e ∙ length-append before (F ∷ []) in
      let place : length rs - 1 ≡ length before = omega arith in
      (long, (λ t. tree_in ((made ∙ e) t) (place t)) ∙ index_last before F Bottom)

  pub some_row : 0 < length rs
  some_row = let l = last_is.0 in omega arith

  pub last_tree : tree_at (map node_of rs) (length rs - 1) ≡ F
  last_tree = last_is.1

  tree_is : (i : ℕ) (e : Normal) → i < length rs → slice_index_or (normal.rows F) i e ≡ tree_at (map node_of rs) i
  tree_is i e l =
      let m = rows_long in
      past_default (normal.rows F) i e Bottom (omega arith) ∙ ap (λ ts. slice_index_or ts i Bottom) (sym made)
    where
      past_default : (ts : List Normal) (i : ℕ) (d e : Normal) → i < length ts → slice_index_or ts i d ≡ slice_index_or ts i e
      past_default [] i d e l = absurd (omega arith)
      past_default (t ∷ ts) zero d e l = refl
      past_default (t ∷ ts) (suc i) d e l = past_default ts i d e (omega arith)

  pub untils_are : places_by (λ _ r. is_until_row r) 0 rs ≡ places_from normal.is_until 0 (normal.rows F)
  untils_are = places_agree (λ _ r. is_until_row r) normal.is_until 0 rs (normal.rows F) rows_long (λ i l d e.
      until_same (tree_at (map node_of rs)) (slice_index_or rs i d) ∙ ap normal.is_until (sym (tree_is i e l ∙ row_stands rs ordered i d l)))

  -- the last row and no other is the whole formula
  root_same : (i : ℕ) → i < length rs → (i + 1 == length rs) ≡ same (tree_at (map node_of rs) i) F
  root_same i l = at (i + 1 == length rs) (same (tree_at (map node_of rs) i) F) (Decides-eqb (i + 1) (length rs)) (same_Decides (tree_at (map node_of rs) i) F)
    where
      distinct : HasNoRepeats (normal.rows F)
      distinct = HasNoRepeats-first_occurrences same same_Decides (normal.postorder F)

      back : tree_at (map node_of rs) i ≡ F → i + 1 ≡ length rs
      back e =
          let m = rows_long in
          let s = some_row in
          let last : length rs - 1 < length rs = omega arith in
          let same_tree : slice_index_or (normal.rows F) i F ≡ slice_index_or (normal.rows F) (length rs - 1) F = tree_is i F l ∙ e ∙ sym (tree_is (length rs - 1) F last ∙ last_tree) in
          let same_place : i ≡ length rs - 1 =
          sym (place_again same same_Decides (normal.rows F) i F distinct (omega arith)) ∙ ap (λ (x : Normal). place_of same x (normal.rows F)) same_tree ∙ place_again same same_Decides (normal.rows F) (length rs - 1) F distinct (omega arith) in
          omega arith

      forth : i + 1 ≡ length rs → tree_at (map node_of rs) i ≡ F
      forth e = let p : i ≡ length rs - 1 = omega arith in ap (tree_at (map node_of rs)) p ∙ last_tree

      at : (s t : Bool) → Decides s (i + 1 ≡ length rs) → Decides t (tree_at (map node_of rs) i ≡ F) → s ≡ t
      at true t c d = sym (d.1 (forth (c.0 refl)))
      at false true c d = c.1 (back (d.0 refl))
      at false false c d = refl

  pub elementary_are : places_by (is_elementary_of (length rs)) 0 rs ≡ places_from (λ a. normal.is_elementary a || same a F) 0 (normal.rows F)
  elementary_are = places_agree (is_elementary_of (length rs)) (λ a. normal.is_elementary a || same a F) 0 rs (normal.rows F) rows_long (λ i l d e.
      let zero_more : 0 + i ≡ i = omega arith in
      let t = tree_is i e l in
      let own = elementary_same (tree_at (map node_of rs)) (slice_index_or rs i d) ∙ ap normal.is_elementary (sym (row_stands rs ordered i d l)) in
      let root = ap (λ j. j + 1 == length rs) zero_more ∙ root_same i l in
      (λ k. own k || root k) ∙ ap (λ (a : Normal). normal.is_elementary a || same a F) (sym t))

  -- all of it
  module _ (untils elementary : List ℕ) (u : untils ≡ places_by (λ _ r. is_until_row r) 0 rs) (e : elementary ≡ places_by (is_elementary_of (length rs)) 0 rs) where
    abbrev table : TableView
    table = record { rows = rs; untils = untils; elementary = elementary }

    is_table_of : IsTableOf F table
    is_table_of = record { rows = made; untils = u ∙ untils_are; elementary = e ∙ elementary_are }

    pub table_made : length rs ≤ stated_limits.rows → length elementary ≤ stated_limits.elementary_rows → HasLeavesBelow stated_limits.propositions F → IsTable table
    table_made few few_elementary leaves = record {
      some = some_row;
      few = few;
      few_elementary = few_elementary;
      ordered = ordered;
      literals = rows_below stated_limits.propositions F rs made ordered leaves;
      table = subst (λ (G : Normal). IsTableOf G table) (sym last_tree) is_table_of;
    }

    pub elementary_many : stated_limits.elementary_rows < length elementary → stated_limits.elementary_rows < length (normal.elementary_rows F)
    elementary_many l =
        let a = ap length (e ∙ elementary_are) in
        let b = places_length (λ a. normal.is_elementary a || same a F) 0 (normal.rows F) in
        omega arith

-- more names
pub leaves_more : (n m : ℕ) → n ≤ m → (F : Normal) → HasLeavesBelow n F → HasLeavesBelow m F
leaves_more n m l Top b = tt
leaves_more n m l Bottom b = tt
leaves_more n m l (Leaf k) b = omega (arith, b)
leaves_more n m l (Next a) b = leaves_more n m l a b
leaves_more n m l (And a c) b = (leaves_more n m l a b.0, leaves_more n m l c b.1)
leaves_more n m l (Or a c) b = (leaves_more n m l a b.0, leaves_more n m l c b.1)
leaves_more n m l (Until a c) b = (leaves_more n m l a b.0, leaves_more n m l c b.1)
leaves_more n m l (Release a c) b = (leaves_more n m l a b.0, leaves_more n m l c b.1)

-- the literals of a table that was built
pub table_literals : {E : Type 0} (r : Result TableView E) (n : ℕ) (F G : Normal) → IfOk r IsTable → IfOk r (λ t. core_of t ≡ G) → G ≡ F → HasLeavesBelow n F → IfOk r (λ t. All (IsNamedBelow n) t.rows)
table_literals (Ok t) n F G is core e b = rows_below n (core_of t) t.rows is.table.rows is.ordered (subst (HasLeavesBelow n) (sym (core ∙ e)) b)
table_literals (Err f) n F G is core e b = tt
