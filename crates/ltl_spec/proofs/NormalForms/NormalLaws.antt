-- The test of equality on normal forms is right.
use Rattle.std.proofs.Common.{◌≡◌, true, refl, sym, ◌∙◌, ap, eqb-true, eq-eqb}
use Rattle.std.specs.Bool.{Decides}
use Rattle.std.proofs.lemmas.Bool.{and_from}
use Rattle.ltl_spec.specs.Transitions.Cubes.{Literal}
use Rattle.ltl_spec.specs.NormalForms.Normal.{Normal, Top, Bottom, Leaf, Next, And, Or, Until, Release, same, same_literal}
use Rattle.ltl_spec.proofs.Collections.CaseLaws.{false_is_true, left_true, right_true, beq_true, beq_refl}

pub same_literal_true : (l m : Literal) → same_literal l m ≡ true → l ≡ m
same_literal_true l m e =
    let p = eqb-true l.proposition m.proposition (left_true _ _ e) in
    let s = beq_true l.positive m.positive (right_true _ _ e) in
    λ i. record { proposition = p i; positive = s i }

pub same_true : (a b : Normal) → same a b ≡ true → a ≡ b
same_true Top Top e = refl
same_true Bottom Bottom e = refl
same_true (Leaf l) (Leaf m) e = ap Leaf (same_literal_true l m e)
same_true (Next a) (Next b) e = ap Next (same_true a b e)
same_true (And a b) (And c d) e = λ i. And (same_true a c (left_true _ _ e) i) (same_true b d (right_true (same a c) _ e) i)
same_true (Or a b) (Or c d) e = λ i. Or (same_true a c (left_true _ _ e) i) (same_true b d (right_true (same a c) _ e) i)
same_true (Until a b) (Until c d) e = λ i. Until (same_true a c (left_true _ _ e) i) (same_true b d (right_true (same a c) _ e) i)
same_true (Release a b) (Release c d) e = λ i. Release (same_true a c (left_true _ _ e) i) (same_true b d (right_true (same a c) _ e) i)
same_true _ _ e = false_is_true e

pub same_refl : (a : Normal) → same a a ≡ true
same_refl Top = refl
same_refl Bottom = refl
same_refl (Leaf l) = and_from _ _ (eq-eqb l.proposition l.proposition refl) (beq_refl l.positive)
same_refl (Next a) = same_refl a
same_refl (And a b) = and_from _ _ (same_refl a) (same_refl b)
same_refl (Or a b) = and_from _ _ (same_refl a) (same_refl b)
same_refl (Until a b) = and_from _ _ (same_refl a) (same_refl b)
same_refl (Release a b) = and_from _ _ (same_refl a) (same_refl b)

pub same_Decides : (a b : Normal) → Decides (same a b) (a ≡ b)
same_Decides a b = (same_true a b, λ e. ap (same a) (sym e) ∙ same_refl a)
