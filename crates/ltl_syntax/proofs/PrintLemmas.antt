-- The text of what is still to be written, at a node.
use Rattle.std.proofs.Common.{◌≡◌, ◌∙◌, ap, sym, subst, arith, ℕ, ◌+◌, ◌<◌, ◌≤◌, List, [], ◌∷◌, ◌++◌, length, append_assoc, slice_index_or, false}
use Rattle.std.specs.Prelude.{Result, Ok, Err, OnOk, is_ok, if◌then◌else◌, sum_by, ⊤}
use Rattle.std.proofs.lemmas.Grind.{common_steps}
use Rattle.std.proofs.lemmas.List.{append-nil}
use Rattle.ltl_spec.specs.Semantics.Word.{Name}
use Rattle.ltl_spec.specs.Formulas.Formula as spec
use Rattle.ltl_spec.specs.Formulas.Canonical.{formula_text, unary_text}
use Rattle.ltl_syntax.specs.declared.operators.Node.{Node}
use Rattle.ltl_syntax.specs.declared.operators.Node.TheVariants.{Constant, Proposition, Unary, Binary}
use Rattle.ltl_syntax.specs.declared.operators.UnaryOperator.{UnaryOperator}
use Rattle.ltl_syntax.specs.declared.operators.BinaryOperator.{BinaryOperator}
use Rattle.ltl_syntax.specs.declared.canonical.Task.{Task}
use Rattle.ltl_syntax.specs.declared.canonical.Task.TheVariants.{Visit, Middle, Close}
use Rattle.ltl_syntax.specs.FormulaView.{StandsAt, tree_in, tree_of, trees, unary_of}
use Rattle.ltl_syntax.specs.CanonicalWork.{HasOperands, size, stack_text, weight, work_text}
use Rattle.ltl_syntax.proofs.TreeLemmas.{tree_at}

module _ (names : List Name) (ts : List spec.Formula) where
  -- what is put behind is written first
  pub stack_text_more : (ws vs : List Task) → stack_text names ts (ws ++ vs) ≡ stack_text names ts vs ++ stack_text names ts ws
  stack_text_more [] vs = sym (append-nil (stack_text names ts vs))
  stack_text_more (x ∷ xs) vs = ap (λ t. t ++ work_text names ts x) (stack_text_more xs vs) ∙ append_assoc (stack_text names ts vs) (stack_text names ts xs) (work_text names ts x)

  pub stack_text_push : (ws : List Task) (w : Task) → stack_text names ts (ws ++ w ∷ []) ≡ work_text names ts w ++ stack_text names ts ws
  stack_text_push ws w = stack_text_more ws (w ∷ [])

-- what a call that may lack memory put behind, where it didn't
pub where_taken : {E : Type 0} {P : Type 0} (r : Result ⊤ E) {X : Type 0} (new old more : List X) → new ≡ (if is_ok r then old ++ more else old) → (new ≡ old ++ more → P) → OnOk r P
where_taken (Ok u) new old more e f = f e
where_taken (Err x) new old more e f = tt

-- a formula takes a step
size_some : (f : spec.Formula) → 0 < size f
size_some (spec.Constant b) = omega arith
size_some (spec.Proposition p) = omega arith
size_some (spec.Unary op a) = omega arith
size_some (spec.Binary op a b) = omega arith

module _ (names : List Name) (count : ℕ) (ns : List Node) (o : HasOperands count ns) (i : ℕ) (within : i < length ns) where
  same_text : (n : Node) → slice_index_or ns i (Constant false) ≡ n → work_text names (trees ns) (Visit i) ≡ formula_text names (tree_of (trees ns) n)
  same_text n e = ap (formula_text names) (tree_at count ns o i within ∙ ap (tree_of (trees ns)) e)

  same_weight : (n : Node) → slice_index_or ns i (Constant false) ≡ n → weight (trees ns) (Visit i) ≡ size (tree_of (trees ns) n)
  same_weight n e = ap size (tree_at count ns o i within ∙ ap (tree_of (trees ns)) e)

  -- the proposition has a name
  pub proposition_within : (p : ℕ) → slice_index_or ns i (Constant false) ≡ Proposition p → p < count
  proposition_within p e = subst (StandsAt count i) e (o i within)

  -- a prefix operator's operand stands before it
  pub operand_before : (op : UnaryOperator) (a : ℕ) → slice_index_or ns i (Constant false) ≡ Unary op a → a < i
  operand_before op a e = subst (StandsAt count i) e (o i within)

  -- so far the text and the node are as the first ones, and the stack is as it was
  module _ (first : ℕ) (t0 t : List ℕ) (s0 s : List Task) (text : t ++ work_text names (trees ns) (Visit i) ≡ t0 ++ work_text names (trees ns) (Visit first)) (stack : s ≡ s0)
      (lighter : weight (trees ns) (Visit i) ≤ weight (trees ns) (Visit first)) where
    -- a prefix operator leaves its operand
    pub prefix_text : (t' bs : List ℕ) (op : UnaryOperator) (a : ℕ) → slice_index_or ns i (Constant false) ≡ Unary op a → bs ≡ unary_text (unary_of op) → t' ≡ t ++ bs
        → t' ++ work_text names (trees ns) (Visit a) ≡ t0 ++ work_text names (trees ns) (Visit first)
    prefix_text t' bs op a e b et =
        ap (λ z. z ++ work_text names (trees ns) (Visit a)) (et ∙ ap (λ z. t ++ z) b) ∙ append_assoc t (unary_text (unary_of op)) (work_text names (trees ns) (Visit a))
        ∙ ap (λ z. t ++ z) (sym (same_text (Unary op a) e)) ∙ text

    pub prefix_lighter : (op : UnaryOperator) (a : ℕ) → slice_index_or ns i (Constant false) ≡ Unary op a → weight (trees ns) (Visit a) ≤ weight (trees ns) (Visit first)
    prefix_lighter op a e = let heavy = same_weight (Unary op a) e in omega (arith, heavy, lighter)

    -- what is behind stays there
    text_behind : (z : List ℕ) → t ++ (work_text names (trees ns) (Visit i) ++ z) ≡ t0 ++ (work_text names (trees ns) (Visit first) ++ z)
    text_behind z =
        sym (append_assoc t (work_text names (trees ns) (Visit i)) z) ∙ ap (λ y. y ++ z) text ∙ append_assoc t0 (work_text names (trees ns) (Visit first)) z

    -- a node with no operand
    pub leaf_text : (t' bs : List ℕ) (n : Node) → slice_index_or ns i (Constant false) ≡ n → bs ≡ formula_text names (tree_of (trees ns) n) → t' ≡ t ++ bs
        → t' ++ stack_text names (trees ns) s ≡ t0 ++ (work_text names (trees ns) (Visit first) ++ stack_text names (trees ns) s0)
    leaf_text t' bs n e b et =
        ap (λ z. z ++ stack_text names (trees ns) s) et ∙ append_assoc t bs (stack_text names (trees ns) s)
        ∙ ap (λ z. t ++ (z ++ stack_text names (trees ns) s)) (b ∙ sym (same_text n e)) ∙ text_behind (stack_text names (trees ns) s)
        ∙ ap (λ v. t0 ++ (work_text names (trees ns) (Visit first) ++ stack_text names (trees ns) v)) stack

    pub leaf_falls : sum_by (weight (trees ns)) s < weight (trees ns) (Visit first) + sum_by (weight (trees ns)) s0
    leaf_falls = let same = ap (sum_by (weight (trees ns))) stack in let some = size_some (tree_in (trees ns) first) in omega arith

    -- a node with two operands
    pub binary_node_text : (t' : List ℕ) (s' : List Task) (op : BinaryOperator) (a b : ℕ) → slice_index_or ns i (Constant false) ≡ Binary op a b → t' ≡ t ++ 40 ∷ []
        → s' ≡ s ++ Close ∷ Visit b ∷ Middle op ∷ Visit a ∷ []
        → t' ++ stack_text names (trees ns) s' ≡ t0 ++ (work_text names (trees ns) (Visit first) ++ stack_text names (trees ns) s0)
    binary_node_text t' s' op a b e et es =
        rw (et, es ∙ ap (λ v. v ++ Close ∷ Visit b ∷ Middle op ∷ Visit a ∷ []) stack, sym (text_behind (stack_text names (trees ns) s0)), same_text (Binary op a b) e, stack_text_more names (trees ns) s0 (Close ∷ Visit b ∷ Middle op ∷ Visit a ∷ []))
        (simp append_assoc)

    pub binary_falls : (s' : List Task) (op : BinaryOperator) (a b : ℕ) → slice_index_or ns i (Constant false) ≡ Binary op a b → s' ≡ s ++ Close ∷ Visit b ∷ Middle op ∷ Visit a ∷ []
        → sum_by (weight (trees ns)) s' < weight (trees ns) (Visit first) + sum_by (weight (trees ns)) s0
    binary_falls s' op a b e es =
        let heavy = same_weight (Binary op a b) e in
        rw (es ∙ ap (λ v. v ++ Close ∷ Visit b ∷ Middle op ∷ Visit a ∷ []) stack) (grind (arith, common_steps, heavy, lighter))
