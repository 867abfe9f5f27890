-- The rows of formulas by those of their operands.
use Rattle.std.proofs.Common.{◌≡◌, ◌∙◌, ap, sym, refl, subst, ℕ, suc, ◌+◌, ◌/◌, ◌<◌, ◌≤◌, arith, Bool, true, false, inl, inr, List, [], length}
use Rattle.std.specs.Prelude.{IsTrue, Option, Some, None, slice_index_or}
use Rattle.std.specs.Bool.{Decides}
use Rattle.std.proofs.lemmas.Bool.{false≢true}
use Rattle.ltl_spec.specs.Semantics.Word.{Name, Lasso, after_steps, is_true_at}
use Rattle.ltl_spec.specs.Semantics.Satisfaction.{HoldsUntil, HoldsRelease, Satisfied, Satisfies}
use Rattle.ltl_spec.specs.Formulas.Formula as spec
use Rattle.ltl_spec.proofs.Semantics.UntilLaws.{release_from_not_until, not_release_from_until}
use Rattle.ltl_spec.proofs.Collections.CaseLaws.{false_is_true}
use Rattle.ltl_word.specs.Rows.{bit_of, joined, step_of, turned, left_at, right_at}
use Rattle.std.specs.Prelude.{◌&&◌, ◌||◌, not, ◌↔◌, ◌⊎◌, Result, Ok, Err, IfOk}
use Rattle.std.specs.Bool.{beq}
use Rattle.ltl_word.specs.declared.machine_word.Junction.{Junction}
use Rattle.ltl_word.specs.declared.machine_word.Junction.TheVariants.{And, Or, Implies, Iff}
use Rattle.std.proofs.Common.{◌∷◌, ◌++◌}
use Rattle.std.specs.Prelude.{slice_get}
use Rattle.ltl_spec.proofs.Collections.CaseLaws.{last_or_below}
use Rattle.ltl_syntax.specs.declared.operators.Node.{Node}
use Rattle.ltl_syntax.specs.declared.operators.Node.TheVariants.{Constant, Proposition, Unary, Binary}
use Rattle.ltl_syntax.specs.declared.operators.UnaryOperator.{UnaryOperator}
use Rattle.ltl_syntax.specs.declared.operators.BinaryOperator.{BinaryOperator}
use Rattle.ltl_syntax.specs.FormulaView.{FormulaView, IsFormula, StandsAt, binary_of, unary_of, tree_in, tree_of, trees}
use Rattle.ltl_syntax.proofs.TreeLemmas.{tree_at, push_length, push_before, push_at}
use Rattle.ltl_word.specs.Evaluation.{AreOperandRows, AreRows, IsRowAt, IsRowIf, IsRowOf, IsUntilRow, going_of}
use Rattle.ltl_word.specs.Uses.{AreLastUses, IsUsedAt, KeepsLater, row_by}
use Rattle.ltl_word.specs.LassoView.{size}
use Rattle.ltl_word.proofs.BackLaws.{after_within}
use Rattle.ltl_spec.proofs.Collections.FoundLaws.{index_there}

-- junctions

same_bit : (s t : Bool) {P : Type 0} → s ≡ t → Decides t P → Decides s P
same_bit s t e d = ((λ h. d.0 (sym e ∙ h)), λ p. e ∙ d.1 p)

both_decided : (s t : Bool) {P Q : Type 0} → Decides s P → Decides t Q → Decides (s && t) (P × Q)
both_decided true t d e = ((λ h. (d.0 refl, e.0 h)), λ p. e.1 p.1)
both_decided false t d e = ((λ h. absurd (false≢true h)), λ p. d.1 p.0)

one_decided : (s t : Bool) {P Q : Type 0} → Decides s P → Decides t Q → Decides (s || t) (P ⊎ Q)
one_decided true t d e = ((λ h. inl (d.0 refl)), λ p. refl)
one_decided false t d e = ((λ h. inr (e.0 h)), λ p. elim p [ inl x ↦ absurd (false≢true (d.1 x)) | inr y ↦ e.1 y ])

implied_decided : (s t : Bool) {P Q : Type 0} → Decides s P → Decides t Q → Decides (not s || t) (P → Q)
implied_decided true t d e = ((λ h p. e.0 h), λ f. e.1 (f (d.0 refl)))
implied_decided false t d e = ((λ h p. absurd (false≢true (d.1 p))), λ f. refl)

same_decided : (s t : Bool) {P Q : Type 0} → Decides s P → Decides t Q → Decides (beq s t) (P ↔ Q)
same_decided true true d e = ((λ h. ((λ p. e.0 refl), λ q. d.0 refl)), λ f. refl)
same_decided true false d e = ((λ h. absurd (false≢true h)), λ f. e.1 (f.0 (d.0 refl)))
same_decided false true d e = ((λ h. absurd (false≢true h)), λ f. d.1 (f.1 (e.0 refl)))
same_decided false false d e = ((λ h. ((λ p. absurd (false≢true (d.1 p))), λ q. absurd (false≢true (e.1 q)))), λ f. refl)

abbrev pub operator_of : Junction → spec.BinaryOperator
operator_of And = spec.And
operator_of Or = spec.Or
operator_of Implies = spec.Implies
operator_of Iff = spec.Iff

module _ (names : List Name) (w : Lasso) where
  junction_decided : (op : Junction) (F G : spec.Formula) (s t : Bool) (i : ℕ) → Decides s (Satisfies names w i F) → Decides t (Satisfies names w i G)
      → Decides (joined op s t) (Satisfies names w i (spec.Binary (operator_of op) F G))
  junction_decided And F G s t i = both_decided s t
  junction_decided Or F G s t i = one_decided s t
  junction_decided Implies F G s t i = implied_decided s t
  junction_decided Iff F G s t i = same_decided s t

  -- the row of a junction of two rows
  junction_row : (op : Junction) (F G : spec.Formula) (a b bits : List ℕ) → length bits ≡ length a → ((i : ℕ) → i / 64 < length a → bit_of bits i ≡ joined op (bit_of a i) (bit_of b i))
      → IsRowOf names w F a → IsRowOf names w G b → IsRowOf names w (spec.Binary (operator_of op) F G) bits
  junction_row op F G a b bits long each r q =
      let enough = r.long in
      record {
        long = long ∙ enough;
        decides = λ i l. same_bit (bit_of bits i) _ (each i (omega (arith, l, enough))) (junction_decided op F G (bit_of a i) (bit_of b i) i (r.decides i l) (q.decides i l));
      }

  -- `U` and `V`

  module _ (stem : ℕ) (begins : length w.stem ≡ stem) (cycle : stem < size w) where
    abbrev step : ℕ → ℕ
    step = step_of stem (size w)

    within : (k i : ℕ) → i < size w → after_steps step k i < size w
    within = after_within (λ j. true) (λ j. true) stem (size w) cycle

    -- more follows from more at the positions
    until_inside : {a b c d : ℕ → Type 0} → ((j : ℕ) → j < size w → a j → c j) → ((j : ℕ) → j < size w → b j → d j) → (i : ℕ) → i < size w → HoldsUntil step a b i → HoldsUntil step c d i
    until_inside f g i l h = (h.0, g (after_steps step h.0 i) (within h.0 i l) h.1, λ j m. f (after_steps step j i) (within j i l) (h.2 j m))

    release_inside : {a b c d : ℕ → Type 0} → ((j : ℕ) → j < size w → a j → c j) → ((j : ℕ) → j < size w → b j → d j) → (i : ℕ) → i < size w → HoldsRelease step a b i → HoldsRelease step c d i
    release_inside f g i l h k = elim (h k) [ inl q ↦ inl (g (after_steps step k i) (within k i l) q) | inr v ↦ inr (v.0, v.1, f (after_steps step v.0 i) (within v.0 i l) v.2) ]

    plain : (s : Bool) → turned false s ≡ s
    plain true = refl
    plain false = refl

    opposite : (s : Bool) {P : Type 0} → Decides s P → (¬ (IsTrue (turned true s)) → P) × (P → ¬ (IsTrue (turned true s)))
    opposite true d = ((λ n. d.0 refl), λ p e. false≢true e)
    opposite false d = ((λ n. absurd (n refl)), λ p. absurd (false≢true (d.1 p)))

    -- the row of `U`
    until_from : (left right : ℕ → Bool) (P Q : ℕ → Type 0) (bits : List ℕ) → ((j : ℕ) → j < size w → Decides (left j) (P j)) → ((j : ℕ) → j < size w → Decides (right j) (Q j))
        → ((i : ℕ) → i < size w → Decides (turned false (bit_of bits i)) (HoldsUntil step (λ j. IsTrue (left j)) (λ j. IsTrue (right j)) i)) → (i : ℕ) → i < size w → Decides (bit_of bits i) (HoldsUntil step P Q i)
    until_from left right P Q bits p q r i l =
        let d = r i l in (
          (λ e. until_inside (λ j m h. (p j m).0 h) (λ j m h. (q j m).0 h) i l (d.0 (plain (bit_of bits i) ∙ e))),
          λ u. sym (plain (bit_of bits i)) ∙ d.1 (until_inside (λ j m h. (p j m).1 h) (λ j m h. (q j m).1 h) i l u),
        )

    -- the row of `V`
    release_from : (left right : ℕ → Bool) (P Q : ℕ → Type 0) (bits : List ℕ)
        → ((j : ℕ) → j < size w → (¬ (IsTrue (left j)) → P j) × (P j → ¬ (IsTrue (left j))))
        → ((j : ℕ) → j < size w → (¬ (IsTrue (right j)) → Q j) × (Q j → ¬ (IsTrue (right j))))
        → ((i : ℕ) → i < size w → Decides (turned true (bit_of bits i)) (HoldsUntil step (λ j. IsTrue (left j)) (λ j. IsTrue (right j)) i)) → (i : ℕ) → i < size w → Decides (bit_of bits i) (HoldsRelease step P Q i)
    release_from left right P Q bits p q r i l = by (bit_of bits i) (r i l)
      where
        is_true_decided : (s : Bool) → Dec (IsTrue s)
        is_true_decided true = yes refl
        is_true_decided false = no (λ e. false≢true e)

        by : (b : Bool) → Decides (turned true b) (HoldsUntil step (λ j. IsTrue (left j)) (λ j. IsTrue (right j)) i) → Decides b (HoldsRelease step P Q i)
        by true d = (
          (λ e. release_inside (λ j m h. (p j m).0 h) (λ j m h. (q j m).0 h) i l (release_from_not_until step (λ j. is_true_decided (left j)) (λ j. is_true_decided (right j)) i (λ u. false≢true (d.1 u)))),
          λ h. refl,
        )
        by false d = (
          (λ e. false_is_true e),
          λ h. absurd (not_release_from_until step P Q i (until_inside {c = λ j. ¬ (P j)} {d = λ j. ¬ (Q j)} (λ j m t x. (p j m).1 x t) (λ j m t x. (q j m).1 x t) i l (d.0 refl)) h),
        )

    turn : (F : spec.Formula) (bits : List ℕ) → ((i : ℕ) → i < size w → Decides (bit_of bits i) (Satisfied (is_true_at names w) step F i)) → length bits ≡ size w / 64 + 1 → IsRowOf names w F bits
    turn F bits d l = record { long = l; decides = λ i m. subst (λ k. Decides (bit_of bits i) (Satisfied (is_true_at names w) (step_of k (size w)) F i)) (sym begins) (d i m) }

    at : (F : spec.Formula) (bits : List ℕ) → IsRowOf names w F bits → (i : ℕ) → i < size w → Decides (bit_of bits i) (Satisfied (is_true_at names w) step F i)
    at F bits r i m = subst (λ k. Decides (bit_of bits i) (Satisfied (is_true_at names w) (step_of k (size w)) F i)) begins (r.decides i m)

    -- with a left operand or without one
    pub going_row_of : (negated : Bool) (F : Option spec.Formula) (G : spec.Formula) (a : Option (List ℕ)) (b bits : List ℕ) → IsRowIf names w F a → IsRowOf names w G b → IsUntilRow stem (size w) negated a b bits
        → IsRowOf names w (going_of negated F G) bits
    going_row_of false None G None b bits r q u =
        turn (spec.Unary spec.Eventually G) bits (until_from (left_at false None) (right_at false b) (λ j. Unit {0}) (Satisfied (is_true_at names w) step G) bits
        (λ j m. ((λ e. tt), λ h. refl)) (λ j m. same_bit _ (bit_of b j) (plain (bit_of b j)) (at G b q j m)) u.1) u.0
    going_row_of true None G None b bits r q u =
        turn (spec.Unary spec.Always G) bits (release_from (left_at true None) (right_at true b) (λ j. ⊥) (Satisfied (is_true_at names w) step G) bits
        (λ j m. ((λ n. n refl), λ h. absurd h)) (λ j m. opposite (bit_of b j) (at G b q j m)) u.1) u.0
    going_row_of false (Some F) G (Some a) b bits r q u =
        turn (spec.Binary spec.Until F G) bits (until_from (left_at false (Some a)) (right_at false b) (Satisfied (is_true_at names w) step F) (Satisfied (is_true_at names w) step G) bits
        (λ j m. same_bit _ (bit_of a j) (plain (bit_of a j)) (at F a r j m)) (λ j m. same_bit _ (bit_of b j) (plain (bit_of b j)) (at G b q j m)) u.1) u.0
    going_row_of true (Some F) G (Some a) b bits r q u =
        turn (spec.Binary spec.Release F G) bits (release_from (left_at true (Some a)) (right_at true b) (Satisfied (is_true_at names w) step F) (Satisfied (is_true_at names w) step G) bits
        (λ j m. opposite (bit_of a j) (at F a r j m)) (λ j m. opposite (bit_of b j) (at G b q j m)) u.1) u.0
    going_row_of negated None G (Some a) b bits r q u = absurd r
    going_row_of negated (Some F) G None b bits r q u = absurd r

-- what is made of two rows by a junction, unless it fails
pub junction_rows : (op : Junction) (w : Lasso) (a b : List ℕ) {E : Type 0} (made : Result (List ℕ) E) → IfOk made (λ bits. length bits ≡ length a)
    → IfOk made (λ bits. (i : ℕ) → i / 64 < length a → bit_of bits i ≡ joined op (bit_of a i) (bit_of b i))
    → IfOk made (λ bits. (names : List Name) (F G : spec.Formula) → IsRowOf names w F a → IsRowOf names w G b → IsRowOf names w (spec.Binary (operator_of op) F G) bits)
junction_rows op w a b (Ok bits) long each = λ names F G. junction_row names w op F G a b bits long each
junction_rows op w a b (Err e) long each = tt

-- the rows of nodes

-- one node's uses more
pub uses_more : (nodes : List Node) (old new : List ℕ) (node : Node) (i : ℕ) → slice_get nodes i ≡ Some node → ((j : ℕ) → j < i → IsUsedAt old j (slice_index_or nodes j (Constant false))) → IsUsedAt new i node
    → ((k j : ℕ) → j ≤ i → j ≤ slice_index_or old k 0 → j ≤ slice_index_or new k 0) → (j : ℕ) → j < i + 1 → IsUsedAt new j (slice_index_or nodes j (Constant false))
uses_more nodes old new node i found used here kept j l =
    let s : i + 1 ≡ suc i = omega arith in
    elim (last_or_below j i (subst (λ n. j < n) s l)) [
      | inl b ↦ by (slice_index_or nodes j (Constant false)) (used j b)
      | inr e ↦
          let at = index_there nodes i node (Constant false) found in
          subst (λ n. IsUsedAt new n (slice_index_or nodes n (Constant false))) (sym e) (subst (IsUsedAt new i) (sym at.1) here)
    ]
  where
    by : (n : Node) → IsUsedAt old j n → IsUsedAt new j n
    by (Constant b) u = tt
    by (Proposition p) u = tt
    by (Unary op a) u = kept a j (omega (arith, l)) u
    by (Binary op a b) u = (kept a j (omega (arith, l)) u.0, kept b j (omega (arith, l)) u.1)

-- the operands of a node have rows
pub operand_rows : (f : FormulaView) (w : Lasso) (names rows : List (List ℕ)) (last_uses : List ℕ) (node : Node) (count i : ℕ) → AreLastUses f.nodes last_uses → AreRows f w names last_uses rows → length rows ≡ i
    → slice_get f.nodes i ≡ Some node → StandsAt count i node → AreOperandRows f w names rows node
operand_rows f w names rows last_uses node count i uses old long found =
    let at = index_there f.nodes i node (Constant false) found in
    by node (subst (IsUsedAt last_uses i) at.1 (uses.used i at.0))
  where
    one : (a : ℕ) → a < i → i ≤ slice_index_or last_uses a 0 → IsRowAt f w names rows a
    one a l u = old a (omega (arith, l, long)) (omega (arith, u, long))

    by : (n : Node) → IsUsedAt last_uses i n → StandsAt count i n → AreOperandRows f w names rows n
    by (Constant b) u s = tt
    by (Proposition p) u s = tt
    by (Unary op a) u s = one a s u
    by (Binary op a b) u s = (one a s.0 u.0, one b s.1 u.1)

-- one row more, where others are given back
pub rows_step : (f : FormulaView) (w : Lasso) (names rows new : List (List ℕ)) (last_uses row : List ℕ) (node : Node) (i : ℕ) → IsFormula f.nodes f.names → AreRows f w names last_uses rows → length rows ≡ i → slice_get f.nodes i ≡ Some node
    → IsRowOf f.names w (tree_of (trees f.nodes) node) (row_by names row node) → KeepsLater last_uses i (rows ++ row ∷ []) new → AreRows f w names last_uses new
rows_step f w names rows new last_uses row node i is old long found own keeps k l m =
    let longer = push_length rows row in
    let size = keeps.0 in
    let later : i < slice_index_or last_uses k 0 = omega (arith, m, size, longer, long) in
    elim (last_or_below k (length rows) (subst (λ n. k < n) (size ∙ longer) l)) [
      | inl b ↦
          subst (λ r. IsRowOf f.names w (tree_in (trees f.nodes) k) (row_by names r (slice_index_or f.nodes k (Constant false)))) (sym (keeps.1 k later ∙ push_before rows row k [] b))
          (old k b (omega (arith, m, size, longer)))
      | inr e ↦
          let n = index_there f.nodes i node (Constant false) found in
          let tree : tree_in (trees f.nodes) i ≡ tree_of (trees f.nodes) node = tree_at (length f.names) f.nodes is.operands i n.0 ∙ ap (tree_of (trees f.nodes)) n.1 in
          let place : k ≡ i = e ∙ long in
          let kept : slice_index_or new k [] ≡ row = keeps.1 k later ∙ ap (λ j. slice_index_or (rows ++ row ∷ []) j []) e ∙ push_at rows row [] in
          subst (λ r. IsRowOf f.names w (tree_in (trees f.nodes) k) (row_by names r (slice_index_or f.nodes k (Constant false)))) (sym kept)
          (subst (λ j. IsRowOf f.names w (tree_in (trees f.nodes) j) (row_by names row (slice_index_or f.nodes j (Constant false)))) (sym place)
          (subst (λ v. IsRowOf f.names w (tree_in (trees f.nodes) i) (row_by names row v)) (sym n.1) (subst (λ F. IsRowOf f.names w F (row_by names row node)) (sym tree) own)))
    ]

module _ (f : FormulaView) (w : Lasso) (names rows : List (List ℕ)) where
  -- the row that the code finds for a node
  abbrev found_row : ℕ → List ℕ
  found_row k = row_by names (slice_index_or rows k []) (slice_index_or f.nodes k (Constant false))

  pub unary_operand : (op : UnaryOperator) (a : ℕ) (row : List ℕ) (node : Node) → node ≡ Unary op a → AreOperandRows f w names rows node → row ≡ found_row a → IsRowOf f.names w (tree_in (trees f.nodes) a) row
  unary_operand op a row node e h same = subst (IsRowOf f.names w (tree_in (trees f.nodes) a)) (sym same) (subst (AreOperandRows f w names rows) e h)

  pub left_operand : (op : BinaryOperator) (a b : ℕ) (row : List ℕ) (node : Node) → node ≡ Binary op a b → AreOperandRows f w names rows node → row ≡ found_row a → IsRowOf f.names w (tree_in (trees f.nodes) a) row
  left_operand op a b row node e h same = subst (IsRowOf f.names w (tree_in (trees f.nodes) a)) (sym same) (subst (AreOperandRows f w names rows) e h).0

  pub right_operand : (op : BinaryOperator) (a b : ℕ) (row : List ℕ) (node : Node) → node ≡ Binary op a b → AreOperandRows f w names rows node → row ≡ found_row b → IsRowOf f.names w (tree_in (trees f.nodes) b) row
  right_operand op a b row node e h same = subst (IsRowOf f.names w (tree_in (trees f.nodes) b)) (sym same) (subst (AreOperandRows f w names rows) e h).1

  pub unary_answer : (op : UnaryOperator) (a : ℕ) (row bits : List ℕ) (node : Node) → node ≡ Unary op a → IsRowOf f.names w (tree_in (trees f.nodes) a) row
      → ((ns : List Name) (F : spec.Formula) → IsRowOf ns w F row → IsRowOf ns w (spec.Unary (unary_of op) F) bits) → IsRowOf f.names w (tree_of (trees f.nodes) node) (row_by names bits node)
  unary_answer op a row bits node e h u = subst (λ n. IsRowOf f.names w (tree_of (trees f.nodes) n) (row_by names bits n)) (sym e) (u f.names (tree_in (trees f.nodes) a) h)

  pub binary_answer : (op : BinaryOperator) (a b : ℕ) (left right bits : List ℕ) (node : Node) → node ≡ Binary op a b → IsRowOf f.names w (tree_in (trees f.nodes) a) left → IsRowOf f.names w (tree_in (trees f.nodes) b) right
      → ((ns : List Name) (F G : spec.Formula) → IsRowOf ns w F left → IsRowOf ns w G right → IsRowOf ns w (spec.Binary (binary_of op) F G) bits) → IsRowOf f.names w (tree_of (trees f.nodes) node) (row_by names bits node)
  binary_answer op a b left right bits node e h k u = subst (λ n. IsRowOf f.names w (tree_of (trees f.nodes) n) (row_by names bits n)) (sym e) (u f.names (tree_in (trees f.nodes) a) (tree_in (trees f.nodes) b) h k)
