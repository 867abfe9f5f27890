-- The needed forms of each node of a formula in turn, over plain variables.
use Rattle.std.proofs.Common.{◌≡◌, ℕ, ◌+◌, ◌<◌, Bool, true, false, List, [], ◌∷◌, ◌++◌, length, refl, sym, ◌∙◌, ap, subst, arith}
use Rattle.std.specs.Prelude.{Some, slice_get, slice_index_or}
use Rattle.std.proofs.lemmas.Option.{get_or_from_slice_get}
use Rattle.std.proofs.Math.Decide.{dec_lt}
use Rattle.ltl_spec.specs.Formulas.Formula as spec
use Rattle.ltl_spec.specs.NormalForms.NormalForm.{core, constant}
use Rattle.ltl_spec.proofs.NormalForms.BothPolarities as law
use Rattle.ltl_spec.proofs.NormalForms.BothPolarities.{Both, both_of, made_next, made_and, made_or, made_until, made_release, both_forms, core_is, forms_of_node}
use Rattle.ltl_spec.proofs.NormalForms.SharedRewriting.{IsMore, StandsFor, more_on}
use Rattle.ltl_syntax.specs.declared.operators.Node.{Node}
use Rattle.ltl_syntax.specs.declared.operators.Node.TheVariants as code
use Rattle.ltl_syntax.specs.declared.operators.UnaryOperator.TheVariants as unary
use Rattle.ltl_syntax.specs.declared.operators.BinaryOperator.TheVariants as binary
use Rattle.ltl_syntax.specs.CanonicalWork.{HasOperands}
use Rattle.ltl_syntax.specs.FormulaView.{StandsAt, tree_in, tree_of, trees}
use Rattle.ltl_syntax.proofs.TreeLemmas.{push_length, push_before, push_at, tree_at as node_tree}
use Rattle.ltl_formula.specs.declared.needs.Need.{Need}
use Rattle.ltl_formula.specs.declared.polarity.Forms.{Forms}
use Rattle.ltl_formula.specs.FormsView.{form_of, number_of, numbers_in, forms_in, flat_of, IsThereAt, MakesIf, MakesNeeded}
use Rattle.ltl_formula.specs.NeedsView.{IsNeeded, HasOperandForms, AreClosed, need_at}
use Rattle.ltl_formula.specs.SharedNodesView.{SharedNodesView}
use Rattle.ltl_formula.proofs.NeedsLemmas.{operands_have}

-- ---- what a form is made of

-- a form depends on nothing else
module _ (r : Bool) (f g : ℕ → Both) where
  abbrev IsAlike : Bool → ℕ → Type 0
  IsAlike m k = form_of m (f k) ≡ form_of m (g k)

  form_alike : (v : Node) (negate : Bool) → HasOperandForms IsAlike v negate → form_of negate (both_of r f (flat_of v)) ≡ form_of negate (both_of r g (flat_of v))
  form_alike (code.Constant b) negate h = refl
  form_alike (code.Proposition p) negate h = refl
  form_alike (code.Unary unary.Not i) true h = cc
  form_alike (code.Unary unary.Not i) false h = cc
  form_alike (code.Unary _ i) true h = cc
  form_alike (code.Unary _ i) false h = cc
  form_alike (code.Binary binary.Iff i j) true h = λ t. made_and r (made_or r (h.0.0 t) (h.1.0 t)) (made_or r (h.0.1 t) (h.1.1 t))
  form_alike (code.Binary binary.Iff i j) false h = λ t. made_or r (made_and r (h.0.1 t) (h.1.1 t)) (made_and r (h.0.0 t) (h.1.0 t))
  form_alike (code.Binary _ i j) true h = let p = h.0 in let q = h.1 in cc
  form_alike (code.Binary _ i j) false h = let p = h.0 in let q = h.1 in cc

-- ---- a node's forms

-- in a graph with more nodes numbers stand for the same
module _ (old new : SharedNodesView) (done : List Forms) (keeps : IsMore old.nodes new.nodes) (count n : ℕ) (v : Node) (before : StandsAt count n v) where
  there_more : (m : Bool) (k : ℕ) → k < n → IsThereAt old done m k → IsThereAt new done m k
  there_more m k b l = let e = keeps.longer in omega arith

  operands_more : (negate : Bool) → HasOperandForms (IsThereAt old done) v negate → HasOperandForms (IsThereAt new done) v negate
  operands_more negate = operands_have count n (IsThereAt old done) (IsThereAt new done) there_more v negate before

  alike_more : (m : Bool) (k : ℕ) → k < n → IsThereAt old done m k → form_of m (forms_in new done k) ≡ form_of m (forms_in old done k)
  alike_more true k b l = keeps.old (numbers_in done k).negative l
  alike_more false k b l = keeps.old (numbers_in done k).positive l

  form_more : (negate : Bool) → HasOperandForms (IsThereAt old done) v negate → form_of negate (both_of old.rewrite (forms_in new done) (flat_of v)) ≡ form_of negate (both_of old.rewrite (forms_in old done) (flat_of v))
  form_more negate h =
      form_alike old.rewrite (forms_in new done) (forms_in old done) v negate (operands_have count n (IsThereAt old done) (IsAlike old.rewrite (forms_in new done) (forms_in old done)) alike_more v negate before h)

-- the form of the formula is made first, then that of its negation
module _ (old mid : SharedNodesView) (done : List Forms) (v : Node) (need : Need) (stands : (count : ℕ) × StandsAt count (length done) v) (made : (negate : Bool) → IsNeeded need negate → HasOperandForms (IsThereAt old done) v negate) where
  pub second_made : IsMore old.nodes mid.nodes → need.negative ≡ true → HasOperandForms (IsThereAt mid done) v true
  second_made keeps n = operands_more old mid done keeps stands.0 (length done) v stands.1 true (made true n)

  pub forms_made : (new : SharedNodesView) (p : Forms) → MakesIf need.positive old mid p.positive (form_of false (both_of old.rewrite (forms_in old done) (flat_of v)))
      → MakesIf need.negative mid new p.negative (form_of true (both_of mid.rewrite (forms_in mid done) (flat_of v)))
      → MakesNeeded old new need p (both_of old.rewrite (forms_in old done) (flat_of v))
  forms_made new p first second = record {
    rewrite = second.rewrite ∙ first.rewrite;
    keeps = more_on old.nodes mid.nodes new.nodes first.keeps second.keeps;
    stands = each;
  }
    where
      each : (negate : Bool) → IsNeeded need negate → StandsFor new.nodes (number_of negate p) (form_of negate (both_of old.rewrite (forms_in old done) (flat_of v)))
      each false n =
          let s = first.stands n in
          let l = second.keeps.longer in
          let i = s.inside in
          record { inside = omega arith; tree = second.keeps.old p.positive i ∙ s.tree }
      each true n =
          let s = second.stands n in
          record {
            inside = s.inside;
            tree = s.tree ∙ ap (λ (r : Bool). form_of true (both_of r (forms_in mid done) (flat_of v))) first.rewrite ∙ form_more old mid done first.keeps stands.0 (length done) v stands.1 true (made true n);
          }

-- ---- a step of the loop

-- the number of a form of node k stands for it
abbrev IsFormAt : SharedNodesView → List Node → Bool → ℕ → Forms → Bool → Type 0
IsFormAt g nodes negate k p rewrite = StandsFor g.nodes (number_of negate p) (core (tree_in (trees nodes) k) negate rewrite)

-- for each of the first i nodes the numbers of its needed forms stand for them
pub record AreMade (g : SharedNodesView) (done : List Forms) (nodes : List Node) (needs : List Need) (i : ℕ) : Type 0 where
  pub long : length done ≡ i
  pub stands : (k : ℕ) → k < i → (negate : Bool) → IsNeeded (need_at needs k) negate → IsFormAt g nodes negate k (numbers_in done k) g.rewrite

-- the formula of a node by the flat nodes of the laws is its tree
formula_same : (ts : List spec.Formula) (v : Node) → law.formula_of (tree_in ts) (flat_of v) ≡ tree_of ts v
formula_same ts (code.Constant c) = refl
formula_same ts _ = refl

-- what is translated is one of both forms
core_form : (r negate : Bool) (F : spec.Formula) → form_of negate (both_forms r F) ≡ core F negate r
core_form r true F = sym (core_is F true r)
core_form r false F = sym (core_is F false r)

module _ (g : SharedNodesView) (done : List Forms) (nodes : List Node) (needs : List Need) (i : ℕ) (made : AreMade g done nodes needs i) (closed : AreClosed nodes needs) (here : i < length nodes) (count : ℕ) (v : Node) (at : slice_get nodes i ≡ Some v) (before : StandsAt count i v) where
  node_is : slice_index_or nodes i (code.Constant false) ≡ v
  node_is = get_or_from_slice_get nodes i v (code.Constant false) at

  -- what its needed forms are made of is needed
  marked : (negate : Bool) → IsNeeded (need_at needs i) negate → HasOperandForms (λ m k. IsNeeded (need_at needs k) m) v negate
  marked negate n = subst (λ (u : Node). HasOperandForms (λ m k. IsNeeded (need_at needs k) m) u negate) node_is (closed.each i (omega arith) here negate n)

  -- so it is there
  pub operands_made : (now : List Forms) → now ≡ done → (negate : Bool) → IsNeeded (need_at needs i) negate → HasOperandForms (IsThereAt g now) v negate
  operands_made now same negate n =
      subst (λ (ds : List Forms). HasOperandForms (IsThereAt g ds) v negate) (sym same)
      (operands_have count i (λ m k. IsNeeded (need_at needs k) m) (IsThereAt g done) (λ m k b w. (made.stands k b m w).inside) v negate before (marked negate n))

  pub stands_before : (now : List Forms) → now ≡ done → (m : ℕ) × StandsAt m (length now) v
  stands_before now same = (count, subst (λ n. StandsAt count n v) (let l = made.long in let e = ap length same in let f : i ≡ length now = omega arith in f) before)

  abbrev formula_at : ℕ → spec.Formula
  formula_at = tree_in (trees nodes)

  forms_are : (m : Bool) (k : ℕ) → k < i → IsNeeded (need_at needs k) m → form_of m (forms_in g done k) ≡ form_of m (both_forms g.rewrite (formula_at k))
  forms_are true k b w = (made.stands k b true w).tree ∙ sym (core_form g.rewrite true (formula_at k))
  forms_are false k b w = (made.stands k b false w).tree ∙ sym (core_form g.rewrite false (formula_at k))

  module _ (operands : HasOperands count nodes) where
    -- a needed form of the node is that of its formula
    form_is : (negate : Bool) → IsNeeded (need_at needs i) negate → form_of negate (both_of g.rewrite (forms_in g done) (flat_of v)) ≡ core (formula_at i) negate g.rewrite
    form_is negate n =
        form_alike g.rewrite (forms_in g done) (λ k. both_forms g.rewrite (formula_at k)) v negate
        (operands_have count i (λ m k. IsNeeded (need_at needs k) m) (IsAlike g.rewrite (forms_in g done) (λ k. both_forms g.rewrite (formula_at k))) forms_are v negate before (marked negate n))
        ∙ ap (form_of negate) (forms_of_node g.rewrite formula_at (λ k. both_forms g.rewrite (formula_at k)) (flat_of v) (λ j h. refl))
        ∙ core_form g.rewrite negate (law.formula_of formula_at (flat_of v))
        ∙ ap (λ (F : spec.Formula). core F negate g.rewrite) (formula_same (trees nodes) v ∙ ap (tree_of (trees nodes)) (sym node_is) ∙ sym (node_tree count nodes operands i here))

    -- one node more
    pub step_made : (new : SharedNodesView) (p : Forms) (now more : List Forms) → now ≡ done → more ≡ done ++ p ∷ [] → MakesNeeded g new (need_at needs i) p (both_of g.rewrite (forms_in g now) (flat_of v)) → AreMade new more nodes needs (i + 1)
    step_made new p now more same pushed made_now =
        subst (λ (ds : List Forms). AreMade new ds nodes needs (i + 1)) (sym pushed) (record { long = let l = made.long in let e = push_length done p in omega arith; stands = each })
      where
        m : MakesNeeded g new (need_at needs i) p (both_of g.rewrite (forms_in g done) (flat_of v))
        m = subst (λ (ds : List Forms). MakesNeeded g new (need_at needs i) p (both_of g.rewrite (forms_in g ds) (flat_of v))) same made_now

        earlier : (k : ℕ) → k < i → (negate : Bool) → IsNeeded (need_at needs k) negate → IsFormAt new nodes negate k (numbers_in done k) g.rewrite
        earlier k l negate n =
            let s = made.stands k l negate n in
            let b = s.inside in
            let longer = m.keeps.longer in
            record { inside = omega arith; tree = m.keeps.old (number_of negate (numbers_in done k)) b ∙ s.tree }

        latest : (negate : Bool) → IsNeeded (need_at needs i) negate → IsFormAt new nodes negate i p g.rewrite
        latest negate n = let s = m.stands negate n in record { inside = s.inside; tree = s.tree ∙ form_is negate n }

        each : (k : ℕ) → k < i + 1 → (negate : Bool) → IsNeeded (need_at needs k) negate → IsFormAt new nodes negate k (numbers_in (done ++ p ∷ []) k) new.rewrite
        each k l negate n = subst (IsFormAt new nodes negate k (numbers_in (done ++ p ∷ []) k)) (sym m.rewrite) (elim (dec_lt k i) [
          | yes b ↦ subst (λ (q : Forms). IsFormAt new nodes negate k q g.rewrite) (sym (push_before done p k _ (let e = made.long in omega arith))) (earlier k b negate n)
          | no b ↦ let e : k ≡ i = omega arith in let f : k ≡ length done = let d = made.long in omega arith in
              subst (λ (q : Forms). IsFormAt new nodes negate k q g.rewrite) (sym (ap (numbers_in (done ++ p ∷ [])) f ∙ push_at done p _))
              (subst (λ j. IsFormAt new nodes negate j p g.rewrite) (sym e) (latest negate (subst (λ j. IsNeeded (need_at needs j) negate) e n)))
        ])
