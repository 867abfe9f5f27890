-- Equality of cubes: two cubes are equal if and only if their lists of literals are.
use Rattle.std.specs.Prelude.{◌≡◌, ◌&&◌, ◌++◌, Bool, true, false, nat_eq, List, ℕ, IsTrue, refl}
use Rattle.std.proofs.Common.{ap, sym}
use Rattle.std.specs.Bool.{Decides, beq}
use Rattle.std.specs.Cmp.{IsEquivalence, IsPartialEquivalence, partial_equiv_from_equiv, first_so, second_so}
use Rattle.std.specs.Cmp.Lexicographic.{pointwise, pointwise_decides}
use Rattle.std.proofs.lemmas.Bool.Decides.{Decides-eqb, same_from_decides}
use Rattle.ltl_spec.specs.Transitions.Cubes.{Literal, Cube}
use Rattle.ltl_sets.specs.Words.{words_with_literals, hash_of}

abbrev pub same_literal : Literal → Literal → Bool
same_literal l m = nat_eq l.proposition m.proposition && beq l.positive m.positive

unfoldable pub same_cube : Cube → Cube → Bool
same_cube = pointwise same_literal

sign_Decides : (s t : Bool) → Decides (beq s t) (s ≡ t)
sign_Decides true true = (λ e. refl, λ e. refl)
sign_Decides true false = (λ e. sym e, λ e. sym e)
sign_Decides false true = (λ e. e, λ e. e)
sign_Decides false false = (λ e. refl, λ e. refl)

pub literal_Decides : (l m : Literal) → Decides (same_literal l m) (l ≡ m)
literal_Decides l m = (
  (λ e.
      let p = (Decides-eqb l.proposition m.proposition).0 (first_so (nat_eq l.proposition m.proposition) (beq l.positive m.positive) e) in
      let s = (sign_Decides l.positive m.positive).0 (second_so (nat_eq l.proposition m.proposition) (beq l.positive m.positive) e) in
      λ i. let n : Literal = record { proposition = p i; positive = s i } in n),
  (λ e.
      let p = (Decides-eqb l.proposition m.proposition).1 (ap (λ (n : Literal). n.proposition) e) in
      let s = (sign_Decides l.positive m.positive).1 (ap (λ (n : Literal). n.positive) e) in
      λ i. p i && s i),
)

-- equal cubes are one cube
pub cube_Decides : (c d : Cube) → Decides (same_cube c d) (c ≡ d)
unfolding same_cube
cube_Decides = pointwise_decides literal_Decides

pub same_equiv : IsEquivalence same_cube
same_equiv = record {
  refl = λ c. (cube_Decides c c).1 refl;
  symm = λ c d. same_from_decides (same_cube c d) (same_cube d c) (cube_Decides c d) ((λ e. sym ((cube_Decides d c).0 e)), λ e. (cube_Decides d c).1 (sym e));
  congr = λ c d e h. ap (λ x. same_cube x e) ((cube_Decides c d).0 h);
}

pub same_partial : IsPartialEquivalence same_cube
same_partial = partial_equiv_from_equiv same_equiv

-- what `hash` feeds a hasher
abbrev pub hash_of_cube : Cube → List (List ℕ)
hash_of_cube c = hash_of (words_with_literals true c) ++ hash_of (words_with_literals false c)

pub hash_of_same : (c d : Cube) → IsTrue (same_cube c d) → hash_of_cube c ≡ hash_of_cube d
hash_of_same c d e = ap hash_of_cube ((cube_Decides c d).0 e)
