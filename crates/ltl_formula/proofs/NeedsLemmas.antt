-- What the needed forms of a node are made of, over plain variables.
use Rattle.std.proofs.Common.{◌≡◌, ℕ, ◌+◌, ◌<◌, ◌≤◌, Bool, true, false, not, List, length, sym, ◌∙◌, ap, subst, arith}
use Rattle.std.specs.Prelude.{Some, slice_get, slice_index_or}
use Rattle.std.proofs.lemmas.Option.{get_or_from_slice_get}
use Rattle.std.proofs.Math.Decide.{dec_lt}
use Rattle.ltl_syntax.specs.declared.operators.Node.{Node}
use Rattle.ltl_syntax.specs.declared.operators.Node.TheVariants as code
use Rattle.ltl_syntax.specs.declared.operators.UnaryOperator.{UnaryOperator}
use Rattle.ltl_syntax.specs.declared.operators.UnaryOperator.TheVariants as unary
use Rattle.ltl_syntax.specs.declared.operators.BinaryOperator.{BinaryOperator}
use Rattle.ltl_syntax.specs.declared.operators.BinaryOperator.TheVariants as binary
use Rattle.ltl_syntax.specs.FormulaView.{StandsAt}
use Rattle.ltl_formula.specs.declared.needs.Need.{Need}
use Rattle.ltl_formula.specs.NeedsView.{IsNeeded, need_at, HasOperandForm, HasLeftForms, HasRightForms, HasOperandForms, IsWider, AreMarked, AreClosedFrom}

module _ (P Q : Bool → Type 0) (each : (m : Bool) → P m → Q m) where
  operand_has : (op : UnaryOperator) (negate : Bool) → HasOperandForm P op negate → HasOperandForm Q op negate
  operand_has unary.Not negate h = each (not negate) h
  operand_has _ negate h = each negate h

  left_have : (op : BinaryOperator) (negate : Bool) → HasLeftForms P op negate → HasLeftForms Q op negate
  left_have binary.Implies negate h = each (not negate) h
  left_have binary.Iff negate h = (each true h.0, each false h.1)
  left_have _ negate h = each negate h

  right_have : (op : BinaryOperator) (negate : Bool) → HasRightForms P op negate → HasRightForms Q op negate
  right_have binary.Iff negate h = (each true h.0, each false h.1)
  right_have _ negate h = each negate h

-- what holds of forms of earlier nodes
pub operands_have : (count n : ℕ) (P Q : Bool → ℕ → Type 0) → ((m : Bool) (k : ℕ) → k < n → P m k → Q m k) → (v : Node) (negate : Bool) → StandsAt count n v → HasOperandForms P v negate → HasOperandForms Q v negate
operands_have count n P Q each (code.Constant b) negate s h = tt
operands_have count n P Q each (code.Proposition p) negate s h = tt
operands_have count n P Q each (code.Unary op i) negate s h = operand_has (λ m. P m i) (λ m. Q m i) (λ m. each m i s) op negate h
operands_have count n P Q each (code.Binary op i j) negate s h =
    (left_have (λ m. P m i) (λ m. Q m i) (λ m. each m i s.0) op negate h.0, right_have (λ m. P m j) (λ m. Q m j) (λ m. each m j s.1) op negate h.1)

-- what is needed of the left operand is marked, then what is needed of the right one
pub both_marked : (v : Node) (op : BinaryOperator) (i j n : ℕ) (need left right : Need) (mid new : List Need) → v ≡ code.Binary op i j → ((m : Bool) → IsNeeded need m → HasLeftForms (IsNeeded left) op m) → ((m : Bool) → IsNeeded need m → HasRightForms (IsNeeded right) op m)
    → ((m : Bool) → IsNeeded left m → IsNeeded (need_at mid i) m) → IsWider n mid new → ((m : Bool) → IsNeeded right m → IsNeeded (need_at new j) m) → AreMarked new v need
both_marked v op i j n need left right mid new is lefts rights first wider second negate w =
    subst (λ (u : Node). HasOperandForms (λ m k. IsNeeded (need_at new k) m) u negate) (sym is)
    (left_have (IsNeeded left) (IsNeeded (need_at new i)) (λ m l. wider.keeps i m (first m l)) op negate (lefts negate w), right_have (IsNeeded right) (IsNeeded (need_at new j)) second op negate (rights negate w))

-- a node more is marked
pub closed_more : (count i n : ℕ) (nodes : List Node) (old new : List Need) → n ≤ i + 1 → ((k : ℕ) → k < length nodes → StandsAt count k (slice_index_or nodes k (code.Constant false))) → AreClosedFrom n nodes old → IsWider i old new
    → (v : Node) → slice_get nodes i ≡ Some v → AreMarked new v (need_at old i) → AreClosedFrom i nodes new
closed_more count i n nodes old new less operands closed wider v at marked k l b negate w =
    let same = wider.above k l in
    let was : IsNeeded (need_at old k) negate = subst (λ (need : Need). IsNeeded need negate) same w in
    elim (dec_lt i k) [
      | yes more ↦ operands_have count k (λ m j. IsNeeded (need_at old j) m) (λ m j. IsNeeded (need_at new j) m) (λ m j _. wider.keeps j m) (slice_index_or nodes k (code.Constant false)) negate (operands k b) (closed k (omega arith) b negate was)
      | no here ↦ let e : i ≡ k = omega arith in
          let is : v ≡ slice_index_or nodes k (code.Constant false) = sym (get_or_from_slice_get nodes i v (code.Constant false) at) ∙ ap (λ j. slice_index_or nodes j (code.Constant false)) e in
          subst (λ (u : Node). HasOperandForms (λ m j. IsNeeded (need_at new j) m) u negate) is (marked negate (subst (λ j. IsNeeded (need_at old j) negate) (sym e) was))
    ]

-- twice more is more
pub wider_on : (n i : ℕ) (old mid new : List Need) → i ≤ n → IsWider n old mid → IsWider i mid new → IsWider n old new
wider_on n i old mid new l first second = record {
  long = second.long ∙ first.long;
  keeps = λ k negate w. second.keeps k negate (first.keeps k negate w);
  above = λ k m. second.above k (omega arith) ∙ first.above k m;
}
