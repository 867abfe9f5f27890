-- How often nodes are operands.
use Rattle.std.proofs.Common.{◌≡◌, ◌∙◌, ap, sym, refl, subst, ℕ, suc, ◌+◌, ◌-◌, ◌<◌, Bool, true, false, cond, List, [], ◌∷◌, ◌++◌, length, arith, append-nil, nat_le, Some, None}
use Rattle.std.specs.List.{flat_map}
use Rattle.std.proofs.lemmas.Bool.Decides.{nat_tests}
use Rattle.std.proofs.lemmas.Option.{same_Some}
use Rattle.ltl_spec.specs.Formulas.Formula as spec
use Rattle.ltl_spec.specs.Formulas.Grammar.{rank_of}
use Rattle.ltl_spec.proofs.Formulas.GrammarMachine as machine
use Rattle.ltl_syntax.specs.declared.operators.Node.{Node}
use Rattle.ltl_syntax.specs.declared.operators.Node.TheVariants.{Binary}
use Rattle.ltl_syntax.specs.declared.parser.Frame.{Frame}
use Rattle.ltl_syntax.specs.declared.parser.Frame.TheVariants.{Bracket, Prefix, Pending}
use Rattle.ltl_syntax.specs.FormulaView.{binary_of, operands_of, times}
use Rattle.ltl_syntax.specs.ParserView.{AreUsedOnce, closed_node, frame_of, frames_of, left_of}
use Rattle.ltl_syntax.proofs.TreeLemmas.{push_length}
use Rattle.ltl_syntax.proofs.ParserLemmas.{frames_push}

times_append : (k : ℕ) (xs ys : List ℕ) → times k (xs ++ ys) ≡ times k xs + times k ys
times_append k [] ys = omega arith
times_append k (x ∷ xs) ys = omega (arith, times_append k xs ys)

-- one element more
times_push : {X : Type 0} (f : X → List ℕ) (xs : List X) (x : X) (k : ℕ) → times k (flat_map f (xs ++ x ∷ [])) ≡ times k (flat_map f xs) + times k (f x)
times_push f [] x k = ap (times k) (append-nil (f x)) ∙ omega arith
times_push f (y ∷ ys) x k =
    omega (arith, times_push f ys x k, times_append k (f y) (flat_map f (ys ++ x ∷ [])), times_append k (f y) (flat_map f ys))

-- whether the number is below that one
abbrev below : ℕ → ℕ → ℕ
below k n = cond (nat_le (suc k) n) 1 0

below_next : (k n : ℕ) → below k n + times k (n ∷ []) ≡ below k (suc n)
below_next k n = grind (arith, nat_tests)

-- the operands of a node that closes a frame
closed_uses : (k top most : ℕ) (f : Frame) (n : Node) → closed_node f top most ≡ Some n → times k (operands_of n) ≡ times k (left_of f) + times k (top ∷ [])
closed_uses k top most Bracket n e = cc
closed_uses k top most (Prefix op) n e = subst (λ m. times k (operands_of m) ≡ times k [] + times k (top ∷ [])) (same_Some _ _ e) (omega arith)
closed_uses k top most (Pending i op) n e =
    elim (nat_le (rank_of (binary_of op)) most) as (λ c. cond c (Some (Binary op i top)) None ≡ Some n → times k (operands_of n) ≡ times k (i ∷ []) + times k (top ∷ [])) [
      | true ↦ λ d. subst (λ m. times k (operands_of m) ≡ times k (i ∷ []) + times k (top ∷ [])) (same_Some _ _ d) (omega arith)
      | false ↦ λ d. cc
    ] e

-- a frame closes
pub close_once : (most : ℕ) (ns ns' : List Node) (fs fs' : List Frame) (f : Frame) (n : Node) → fs ≡ fs' ++ f ∷ [] → ns' ≡ ns ++ n ∷ [] → closed_node f (length ns - 1) most ≡ Some n
    → AreUsedOnce ns fs true → AreUsedOnce ns' fs' true
close_once most ns ns' fs fs' f n ef en e once k =
    let nodes : times k (flat_map operands_of ns') ≡ times k (flat_map operands_of ns) + times k (operands_of n) = ap (λ l. times k (flat_map operands_of l)) en ∙ times_push operands_of ns n k in
    let frames : times k (flat_map left_of fs) ≡ times k (flat_map left_of fs') + times k (left_of f) = ap (λ l. times k (flat_map left_of l)) ef ∙ times_push left_of fs' f k in
    let long : length ns' ≡ suc (length ns) = ap length en ∙ push_length ns n in
    let last : length ns' - 1 ≡ length ns = omega arith in
    let top : times k ((length ns' - 1) ∷ []) ≡ times k (length ns ∷ []) = ap (λ j. times k (j ∷ [])) last in
    let most_is : below k (length ns') ≡ below k (suc (length ns)) = ap (below k) long in
    omega (arith, nodes, frames, top, most_is, once k, closed_uses k (length ns - 1) most f n e, below_next k (length ns))

-- an operand without operands of its own comes
pub leaf_once : (ns ns' : List Node) (fs : List Frame) (n : Node) → ns' ≡ ns ++ n ∷ [] → operands_of n ≡ [] → AreUsedOnce ns fs false → AreUsedOnce ns' fs true
leaf_once ns ns' fs n en leaf once k =
    let nodes : times k (flat_map operands_of ns') ≡ times k (flat_map operands_of ns) + times k (operands_of n) = ap (λ l. times k (flat_map operands_of l)) en ∙ times_push operands_of ns n k in
    let none : times k (operands_of n) ≡ 0 = ap (times k) leaf in
    let long : length ns' ≡ suc (length ns) = ap length en ∙ push_length ns n in
    let last : length ns' - 1 ≡ length ns = omega arith in
    let top : times k ((length ns' - 1) ∷ []) ≡ times k (length ns ∷ []) = ap (λ j. times k (j ∷ [])) last in
    let most_is : below k (length ns') ≡ below k (suc (length ns)) = ap (below k) long in
    omega (arith, nodes, none, top, most_is, once k, below_next k (length ns))

-- a frame comes that holds no operand
pub frame_once : (ns : List Node) (fs fs' : List Frame) (f : Frame) (has : Bool) → fs' ≡ fs ++ f ∷ [] → left_of f ≡ [] → AreUsedOnce ns fs has → AreUsedOnce ns fs' has
frame_once ns fs fs' f has ef none once k =
    let frames : times k (flat_map left_of fs') ≡ times k (flat_map left_of fs) + times k (left_of f) = ap (λ l. times k (flat_map left_of l)) ef ∙ times_push left_of fs f k in
    let free : times k (left_of f) ≡ 0 = ap (times k) none in
    omega (arith, frames, free, once k)

-- one goes
pub frame_gone : (ns : List Node) (fs fs' : List Frame) (f : Frame) (has : Bool) → fs ≡ fs' ++ f ∷ [] → left_of f ≡ [] → AreUsedOnce ns fs has → AreUsedOnce ns fs' has
frame_gone ns fs fs' f has ef none once k =
    let frames : times k (flat_map left_of fs) ≡ times k (flat_map left_of fs') + times k (left_of f) = ap (λ l. times k (flat_map left_of l)) ef ∙ times_push left_of fs' f k in
    let free : times k (left_of f) ≡ 0 = ap (times k) none in
    omega (arith, frames, free, once k)

-- the operand becomes the left one of a frame
pub pending_once : (ns : List Node) (fs fs' : List Frame) (f : Frame) → fs' ≡ fs ++ f ∷ [] → left_of f ≡ (length ns - 1) ∷ [] → AreUsedOnce ns fs true → AreUsedOnce ns fs' false
pending_once ns fs fs' f ef left once k =
    let frames : times k (flat_map left_of fs') ≡ times k (flat_map left_of fs) + times k (left_of f) = ap (λ l. times k (flat_map left_of l)) ef ∙ times_push left_of fs f k in
    let top : times k (left_of f) ≡ times k ((length ns - 1) ∷ []) = ap (times k) left in
    omega (arith, frames, top, once k)

-- in the end each node but the last is an operand once
pub whole_once : (ns : List Node) → AreUsedOnce ns [] true → (k : ℕ) → suc k < length ns → times k (flat_map operands_of ns) ≡ 1
whole_once ns once k l =
    omega (arith, once k, within, apart)
  where
    within : below k (length ns) ≡ 1
    within = grind (arith, nat_tests, l)

    apart : times k ((length ns - 1) ∷ []) ≡ 0
    apart = grind (arith, nat_tests, l)

-- ---- what stays open

-- no operator is on top
abbrev TopIsFree : List machine.Frame → Type 0
TopIsFree [] = Unit {0}
TopIsFree (machine.Bracket ∷ s) = Unit {0}
TopIsFree (machine.Prefix op ∷ s) = ⊥
TopIsFree (machine.Pending a op ∷ s) = ⊥

-- that is so when all operators have closed
all_closed : (F : spec.Formula) (s : List machine.Frame) → TopIsFree (machine.close 5 F s).1
all_closed F [] = tt
all_closed F (machine.Bracket ∷ s) = tt
all_closed F (machine.Prefix op ∷ s) = all_closed (spec.Unary op F) s
all_closed F (machine.Pending a op ∷ s) = subst (λ c. TopIsFree c.1) (sym (machine.closes_over op 5 a F s (machine.rank_bounds op).1)) (all_closed (spec.Binary op a F) s)

-- so what then comes off holds no operand
pub popped_free : (ts : List spec.Formula) (F G : spec.Formula) (s : List machine.Frame) (fs fs' : List Frame) (f : Frame) → machine.close 5 F s ≡ (G, frames_of ts fs) → fs ≡ fs' ++ f ∷ []
    → left_of f ≡ []
popped_free ts F G s fs fs' f e ef =
    by f (subst TopIsFree (ap (frames_of ts) ef ∙ frames_push ts fs' f) (subst (λ c. TopIsFree c.1) e (all_closed F s)))
  where
    by : (g : Frame) → TopIsFree (frame_of ts g ∷ frames_of ts fs') → left_of g ≡ []
    by Bracket t = refl
    by (Prefix op) t = refl
    by (Pending i op) t = absurd t
