-- The edges of the code as edges of the definitions: their equality, and what is fed to a hasher.
use Rattle.std.specs.Prelude.{◌≡◌, ◌++◌, Bool, List, ℕ, IsTrue, refl}
use Rattle.std.proofs.Common.{ap, sym}
use Rattle.std.specs.Bool.{Decides}
use Rattle.std.specs.Cmp.{IsEquivalence}
use Rattle.std.specs.Cmp.Lexicographic.{pointwise, pointwise_decides}
use Rattle.std.specs.Hash as fed
use Rattle.std.proofs.lemmas.Bool.Decides.{same_from_decides}
use Rattle.ltl_spec.specs.Automata.Automaton.{Edge}
use Rattle.ltl_spec.specs.Construction.Merging.{same_edge}
use Rattle.ltl_spec.proofs.Construction.RoundLaws.{same_edge_Decides}
use Rattle.ltl_sets.specs.CubeEq.{hash_of_cube}
use Rattle.ltl_sets.specs.Words.{hash_of, words_with}
use Rattle.ltl_automaton.specs.declared.edge.Edge as made

abbrev pub edge_of : made.Edge → Edge
edge_of e = record { cube = e.cube; target = e.target; marks = e.marks }

abbrev pub same_edges : List Edge → List Edge → Bool
same_edges = pointwise same_edge

-- equal lists are one list
pub edges_Decides : (xs ys : List Edge) → Decides (same_edges xs ys) (xs ≡ ys)
edges_Decides = pointwise_decides same_edge_Decides

pub same_equiv : IsEquivalence same_edges
same_equiv = record {
  refl = λ s. (edges_Decides s s).1 refl;
  symm = λ s t. same_from_decides (same_edges s t) (same_edges t s) (edges_Decides s t) ((λ e. sym ((edges_Decides t s).0 e)), λ e. (edges_Decides t s).1 (sym e));
  congr = λ s t u e. ap (λ x. same_edges x u) ((edges_Decides s t).0 e);
}

-- what `hash` feeds a hasher
abbrev pub hash_of_edge : Edge → List (List ℕ)
hash_of_edge e = hash_of_cube e.cube ++ fed.usize e.target ++ hash_of (words_with e.marks)

-- equal lists feed the same, whatever an edge feeds
pub hash_of_same : (feed : Edge → List (List ℕ)) (s t : List Edge) → IsTrue (same_edges s t) → fed.slice feed s ≡ fed.slice feed t
hash_of_same feed s t e = ap (fed.slice feed) ((edges_Decides s t).0 e)
