-- Which rows of a table are elementary, and that their places are below the limit of sets of rows.
use Rattle.std.proofs.Common.{◌≡◌, ℕ, ◌+◌, ◌-◌, ◌<◌, Bool, true, false, cond, not, ◌||◌, inl, inr, List, [], ◌∷◌, length, refl, sym, ◌∙◌, ap, subst, arith, Some}
use Rattle.std.specs.Prelude.{slice_get, slice_index_or, ◌==◌}
use Rattle.std.specs.List.{position_or_len}
use Rattle.std.proofs.lemmas.Bool.{or_right, or_left}
use Rattle.ltl_spec.specs.Collections.Sets.{Has}
use Rattle.ltl_spec.specs.Collections.Lists.{places_where}
use Rattle.ltl_spec.specs.NormalForms.Normal.{Normal, Bottom, same}
use Rattle.ltl_spec.specs.NormalForms.NormalForm as normal
use Rattle.ltl_spec.proofs.Collections.ListLaws.{Has-places, places_cases, slice_get_has}
use Rattle.ltl_spec.proofs.NormalForms.NormalLaws.{same_refl}
use Rattle.ltl_spec.proofs.NormalForms.SharedNodes.{tree_of}
use Rattle.ltl_sets.specs.declared.row_set.TheConstants.RowSet.{LIMIT}
use Rattle.ltl_formula.specs.SharedNodesView.{node_of, IsBelow}
use Rattle.ltl_formula.specs.TableView.{TableView, IsTable, row_tree, core_of, is_elementary_row}
use Rattle.ltl_formula.specs.declared.row.Row.{Row}
use Rattle.ltl_formula.specs.declared.row.Row.TheVariants as row
use Rattle.ltl_alt.proofs.RowLaws.{rows_count, until_elementary}
use Rattle.ltl_alt.proofs.TreeLaws.{row_tree_is}
use Rattle.ltl_alt.proofs.PlaceLaws.{told_equal}

-- ---- which rows are elementary

-- what is elementary, or the whole formula, stands among the elementary rows
stands : (t : TableView) (k : ℕ) → IsTable t → k < length t.rows → (normal.is_elementary (row_tree t k) || same (row_tree t k) (core_of t)) ≡ true → Has t.elementary k
stands t k w l e =
    let p : Normal → Bool = λ a. normal.is_elementary a || same a (core_of t) in
    let F = normal.rows (core_of t) in
    let c = rows_count t w in
    let here : p (slice_index_or F k Bottom) ≡ true = ap (λ xs. p (slice_index_or xs k Bottom)) (sym w.table.rows) ∙ e in
    let zero_more : 0 + k ≡ k = omega arith in
    subst (λ ks. Has ks k) (sym w.table.elementary) (subst (Has (places_where p F)) zero_more (Has-places p 0 F Bottom k (omega arith) here))

-- the root does
pub root_stands : (t : TableView) (k : ℕ) → IsTable t → k ≡ length t.rows - 1 → Has t.elementary k
root_stands t k w e =
    let some = w.some in
    stands t k w (omega arith) (or_right (normal.is_elementary (row_tree t k)) (same (row_tree t k) (core_of t)) (ap (λ j. same (row_tree t k) (row_tree t j)) (sym e) ∙ same_refl (row_tree t k)))

-- an until row does
pub until_stands : (t : TableView) (i k : ℕ) → IsTable t → slice_get t.untils i ≡ Some k → Has t.elementary k
until_stands t i k w f =
    let F = normal.rows (core_of t) in
    let c = rows_count t w in
    let h : Has (places_where normal.is_until F) k = subst (λ js. Has js k) w.table.untils (slice_get_has t.untils i k f) in
    let (_, l, e) = places_cases normal.is_until 0 F Bottom k h in
    let whole : k - 0 ≡ k = omega arith in
    let until : normal.is_until (row_tree t k) ≡ true = ap (λ xs. normal.is_until (slice_index_or xs k Bottom)) w.table.rows ∙ ap (λ j. normal.is_until (slice_index_or F j Bottom)) (sym whole) ∙ e in
    stands t k w (omega arith) (until_elementary (core_of t) (row_tree t k) until)

-- and so does a literal, and a row whose operator is next, until or release
kind_elementary : (f : ℕ → Normal) (r : Row) → is_elementary_row r ≡ true → normal.is_elementary (tree_of f (node_of r)) ≡ true
kind_elementary f row.True e = cc
kind_elementary f row.False e = cc
kind_elementary f (row.Literal l) e = refl
kind_elementary f (row.Next i) e = refl
kind_elementary f (row.And i j) e = cc
kind_elementary f (row.Or i j) e = cc
kind_elementary f (row.Until i j) e = refl
kind_elementary f (row.Release i j) e = refl

pub kind_stands : (t : TableView) (k : ℕ) (r : Row) → IsTable t → k < length t.rows → slice_get t.rows k ≡ Some r → IsBelow k r → is_elementary_row r ≡ true → Has t.elementary k
kind_stands t k r w l f b e =
    stands t k w l (or_left (normal.is_elementary (row_tree t k)) (same (row_tree t k) (core_of t)) (ap normal.is_elementary (row_tree_is t k r f b) ∙ kind_elementary (row_tree t) r e))

-- ---- their places

position_within : (k : ℕ) (xs : List ℕ) → Has xs k → position_or_len (λ j. j == k) xs < length xs
position_within k [] h = absurd h
position_within k (x ∷ xs) (inl e) = subst (λ b. cond (not b) (1 + position_or_len (λ j. j == k) xs) 0 < length (x ∷ xs)) (sym (told_equal x k (sym e))) (omega arith)
position_within k (x ∷ xs) (inr h) =
    let l = position_within k xs h in
    elim (x == k) as (λ b. cond (not b) (1 + position_or_len (λ j. j == k) xs) 0 < length (x ∷ xs)) [ true ↦ omega arith | false ↦ omega arith ]

-- the place of an elementary row is below the limit
pub few_places : (t : TableView) (k n : ℕ) → IsTable t → n ≡ position_or_len (λ j. j == k) t.elementary → Has t.elementary k → n < LIMIT
few_places t k n w e h =
    let l = position_within k t.elementary h in
    let f = w.few_elementary in
    omega arith
