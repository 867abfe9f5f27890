-- Equality and hashing of lists of pairs and of transitions, element by element.
use Rattle.std.specs.Prelude.{◌≡◌, Bool, List, ℕ, IsTrue, refl}
use Rattle.std.proofs.Common.{ap, sym, ◌∙◌}
use Rattle.std.specs.Bool.{Decides}
use Rattle.std.specs.Cmp.{IsEquivalence}
use Rattle.std.specs.Cmp.Lexicographic.{pointwise, pointwise_decides}
use Rattle.std.specs.Hash as fed
use Rattle.std.specs.Ordering.{eq_by_cmp, is_eq}
use Rattle.std.proofs.lemmas.Bool.Decides.{same_from_decides}
use Rattle.std.proofs.lemmas.Cmp.{tied_itself}
use Rattle.ltl_spec.specs.Transitions.Pairs.{Pair, pair_cmp}
use Rattle.ltl_spec.specs.Transitions.RowTransitions.{Transition}
use Rattle.ltl_spec.proofs.Collections.Orders.{pair_linear}
use Rattle.ltl_alt.specs.PairHash.{exact, hash_of_pair}
use Rattle.ltl_alt.specs.TransitionHash.{same_transition, transition_Decides, hash_of_transition}

abbrev pub same_pairs : List Pair → List Pair → Bool
same_pairs = pointwise (eq_by_cmp pair_cmp)

pub pair_Decides : (p q : Pair) → Decides (eq_by_cmp pair_cmp p q) (p ≡ q)
pair_Decides p q = (exact p q, λ e. ap (λ x. is_eq (pair_cmp x q)) e ∙ ap is_eq (tied_itself pair_linear.total q))

pub pairs_Decides : (s t : List Pair) → Decides (same_pairs s t) (s ≡ t)
pairs_Decides = pointwise_decides pair_Decides

abbrev pub same_transitions : List Transition → List Transition → Bool
same_transitions = pointwise same_transition

pub transitions_Decides : (s t : List Transition) → Decides (same_transitions s t) (s ≡ t)
transitions_Decides = pointwise_decides transition_Decides

equiv : {K : Type 0} (same : K → K → Bool) → ((x y : K) → Decides (same x y) (x ≡ y)) → IsEquivalence same
equiv same d = record {
  refl = λ s. (d s s).1 refl;
  symm = λ s t. same_from_decides (same s t) (same t s) (d s t) ((λ e. sym ((d t s).0 e)), λ e. (d t s).1 (sym e));
  congr = λ s t u e. ap (λ x. same x u) ((d s t).0 e);
}

pub same_pairs_equiv : IsEquivalence same_pairs
same_pairs_equiv = equiv same_pairs pairs_Decides

pub same_transitions_equiv : IsEquivalence same_transitions
same_transitions_equiv = equiv same_transitions transitions_Decides

abbrev pub hash_of_pairs : List Pair → List (List ℕ)
hash_of_pairs = fed.slice hash_of_pair

pub hash_of_same_pairs : (s t : List Pair) → IsTrue (same_pairs s t) → hash_of_pairs s ≡ hash_of_pairs t
hash_of_same_pairs s t e = ap hash_of_pairs ((pairs_Decides s t).0 e)

abbrev pub hash_of_transitions : List Transition → List (List ℕ)
hash_of_transitions = fed.slice hash_of_transition

pub hash_of_same_transitions : (s t : List Transition) → IsTrue (same_transitions s t) → hash_of_transitions s ≡ hash_of_transitions t
hash_of_same_transitions s t e = ap hash_of_transitions ((transitions_Decides s t).0 e)
