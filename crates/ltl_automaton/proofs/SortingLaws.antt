-- Lists that rise from each item to the next one.
use Rattle.std.proofs.Common.{◌≡◌, true, ℕ, suc, ◌+◌, ◌<◌, List, [], ◌∷◌, length, refl, sym, subst, arith}
use Rattle.std.specs.List.{IsAllAdjacentAnswer}
use Rattle.std.specs.Ordering.{is_lt}
use Rattle.std.specs.Prelude.{slice_index_or}
use Rattle.std.specs.declared.cmp.Ordering.{Ordering}
use Rattle.std.specs.declared.cmp.Ordering.TheVariants.{Less, Equal, Greater}
use Rattle.ltl_spec.specs.Collections.Sets.{IsRising, IsLinearOrder}
use Rattle.ltl_spec.proofs.Collections.CaseLaws.{false_is_true}
use Rattle.ltl_spec.proofs.Collections.SetLaws.{all_at, all_from}

is_less : (o : Ordering) → true ≡ is_lt o → o ≡ Less
is_less Less e = refl
is_less Equal e = false_is_true (sym e)
is_less Greater e = false_is_true (sym e)

-- each item is less than the next one
abbrev HasSteps : {X : Type 0} → (X → X → Ordering) → List X → Type 0
HasSteps {X} R xs = (i : ℕ) (d : X) → suc i < length xs → R (slice_index_or xs i d) (slice_index_or xs (suc i) d) ≡ Less

-- then the list rises
rises_by_steps : {X : Type 0} {R : X → X → Ordering} → IsLinearOrder R → (xs : List X) → HasSteps R xs → IsRising R xs
rises_by_steps o [] f = tt
rises_by_steps o (x ∷ []) f = (tt, tt)
rises_by_steps {R = R} o (x ∷ y ∷ ys) f =
    let rest = rises_by_steps o (y ∷ ys) (λ i d l. f (suc i) d (omega arith)) in
    let first = f 0 x (omega arith) in
    ((first, all_from (λ z. R x z ≡ Less) ys (λ z h. o.total.trans x y z first (all_at (λ w. R y w ≡ Less) ys z rest.0 h))), rest)

-- so it does where each item and the next one were found in order
pub rises_by_answers : {X : Type 0} {R : X → X → Ordering} → IsLinearOrder R → (xs : List X) → IsAllAdjacentAnswer (λ x y b. b ≡ is_lt (R x y)) xs true → IsRising R xs
rises_by_answers {R = R} o xs f = rises_by_steps o xs (λ i d l.
    let next : i + 1 ≡ suc i = omega arith in
    is_less (R (slice_index_or xs i d) (slice_index_or xs (suc i) d)) (subst (λ k. true ≡ is_lt (R (slice_index_or xs i d) (slice_index_or xs k d))) next (f i d (omega arith))))
