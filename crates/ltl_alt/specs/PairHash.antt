-- What a pair feeds to a hasher.
use Rattle.std.specs.Prelude.{◌≡◌, ◌++◌, true, refl, List, ℕ, IsTrue}
use Rattle.std.proofs.Common.{ap, sym, ◌∙◌}
use Rattle.std.specs.Bool.{Decides}
use Rattle.std.proofs.lemmas.Cmp.{tied_itself}
use Rattle.std.specs.Ordering.{eq_by_cmp, is_eq}
use Rattle.std.specs.declared.cmp.Ordering.{Ordering}
use Rattle.std.specs.declared.cmp.Ordering.TheVariants.{Less, Equal, Greater}
use Rattle.ltl_spec.specs.Transitions.Pairs.{Pair, pair_cmp}
use Rattle.ltl_spec.proofs.Collections.Orders.{pair_linear}
use Rattle.ltl_sets.specs.CubeEq.{hash_of_cube}
use Rattle.ltl_sets.specs.Words.{hash_of, words_with}

abbrev pub hash_of_pair : Pair → List (List ℕ)
hash_of_pair p = hash_of_cube p.cube ++ hash_of (words_with p.targets)

is_equal : (o : Ordering) → is_eq o ≡ true → o ≡ Equal
is_equal Less e = cc
is_equal Equal e = refl
is_equal Greater e = cc

pub exact : (p q : Pair) → eq_by_cmp pair_cmp p q ≡ true → p ≡ q
exact p q e = pair_linear.exact p q (is_equal (pair_cmp p q) e)

-- the test of the code finds exactly the same pairs
pub pair_Decides : (p q : Pair) → Decides (eq_by_cmp pair_cmp p q) (p ≡ q)
pair_Decides p q = (exact p q, λ e. ap (eq_by_cmp pair_cmp p) (sym e) ∙ ap is_eq (tied_itself pair_linear.total p))

pub hash_of_same : (p q : Pair) → IsTrue (eq_by_cmp pair_cmp p q) → hash_of_pair p ≡ hash_of_pair q
hash_of_same p q e = ap hash_of_pair (exact p q e)
