-- The rows of subformulas, node by node.
use Rattle.std.proofs.Common.{◌≡◌, ◌∙◌, ap, sym, subst, ℕ, ◌<◌, List, [], ◌∷◌, ◌++◌, length}
use Rattle.std.specs.Prelude.{IsTrue, slice_index_or, slice_get, Some, false}
use Rattle.ltl_spec.specs.Collections.Sets.{has}
use Rattle.ltl_spec.specs.Semantics.Word.{Name, Lasso, letter_at, name_cmp}
use Rattle.ltl_spec.specs.Formulas.Formula as spec
use Rattle.ltl_syntax.specs.declared.operators.Node.{Node}
use Rattle.ltl_syntax.specs.declared.operators.Node.TheVariants.{Constant, Proposition, Unary, Binary}
use Rattle.ltl_syntax.specs.declared.operators.UnaryOperator.{UnaryOperator}
use Rattle.ltl_syntax.specs.declared.operators.BinaryOperator.{BinaryOperator}
use Rattle.ltl_syntax.specs.FormulaView.{FormulaView, IsFormula, binary_of, unary_of, tree_in, tree_of, trees}
use Rattle.ltl_syntax.proofs.TreeLemmas.{tree_at}
use Rattle.ltl_word.specs.Evaluation.{IsRowOf}
use Rattle.ltl_word.specs.LassoView.{size}
use Rattle.ltl_word.specs.Rows.{IsRow}
use Rattle.ltl_word.specs.SubformulaRows.{AreFirstRows}
use Rattle.ltl_word.proofs.BitLemmas.{each_pushed}
use Rattle.std.proofs.lemmas.List.{get_or_default}
use Rattle.ltl_spec.proofs.Collections.FoundLaws.{index_there}

module _ (f : FormulaView) (w : Lasso) where
  -- the row of an operand
  pub row_there : (rows : List (List ℕ)) (k : ℕ) (row : List ℕ) → AreFirstRows f w rows → k < length rows → row ≡ slice_index_or rows k row → IsRowOf f.names w (tree_in (trees f.nodes) k) row
  row_there rows k row h l e = subst (IsRowOf f.names w (tree_in (trees f.nodes) k)) (sym (e ∙ get_or_default rows k row [] l)) (h k l)

  pub proposition_answer : (p : ℕ) (name : Name) (bits : List ℕ) (node : Node) → node ≡ Proposition p → name ≡ slice_index_or f.names p []
      → IsRow (size w) (λ i. IsTrue (has name_cmp name (letter_at w i))) bits → IsRowOf f.names w (tree_of (trees f.nodes) node) bits
  proposition_answer p name bits node e q h =
      subst (λ n. IsRowOf f.names w (tree_of (trees f.nodes) n) bits) (sym e) (subst (λ m. IsRow (size w) (λ i. IsTrue (has name_cmp m (letter_at w i))) bits) q h)

  pub unary_answer : (op : UnaryOperator) (a : ℕ) (row bits : List ℕ) (node : Node) → node ≡ Unary op a → IsRowOf f.names w (tree_in (trees f.nodes) a) row
      → ((ns : List Name) (F : spec.Formula) → IsRowOf ns w F row → IsRowOf ns w (spec.Unary (unary_of op) F) bits) → IsRowOf f.names w (tree_of (trees f.nodes) node) bits
  unary_answer op a row bits node e h u = subst (λ n. IsRowOf f.names w (tree_of (trees f.nodes) n) bits) (sym e) (u f.names (tree_in (trees f.nodes) a) h)

  pub binary_answer : (op : BinaryOperator) (a b : ℕ) (left right bits : List ℕ) (node : Node) → node ≡ Binary op a b → IsRowOf f.names w (tree_in (trees f.nodes) a) left → IsRowOf f.names w (tree_in (trees f.nodes) b) right
      → ((ns : List Name) (F G : spec.Formula) → IsRowOf ns w F left → IsRowOf ns w G right → IsRowOf ns w (spec.Binary (binary_of op) F G) bits) → IsRowOf f.names w (tree_of (trees f.nodes) node) bits
  binary_answer op a b left right bits node e h k u =
      subst (λ n. IsRowOf f.names w (tree_of (trees f.nodes) n) bits) (sym e) (u f.names (tree_in (trees f.nodes) a) (tree_in (trees f.nodes) b) h k)

  -- one row more
  pub one_row_more : (old new : List (List ℕ)) (row : List ℕ) (node : Node) (i : ℕ) → IsFormula f.nodes f.names → AreFirstRows f w old → length old ≡ i → slice_get f.nodes i ≡ Some node
      → IsRowOf f.names w (tree_of (trees f.nodes) node) row → new ≡ old ++ row ∷ [] → AreFirstRows f w new
  one_row_more old new row node i is rows long found own pushed =
      let n = index_there f.nodes i node (Constant false) found in
      let tree : tree_in (trees f.nodes) i ≡ tree_of (trees f.nodes) node = tree_at (length f.names) f.nodes is.operands i n.0 ∙ ap (tree_of (trees f.nodes)) n.1 in
      each_pushed (λ k r. IsRowOf f.names w (tree_in (trees f.nodes) k) r) old new row [] pushed rows
      (subst (λ k. IsRowOf f.names w (tree_in (trees f.nodes) k) row) (sym long) (subst (λ F. IsRowOf f.names w F row) (sym tree) own))
