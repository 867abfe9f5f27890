-- Least forms and a product, computed.
use Rattle.std.proofs.Common.{◌≡◌, true, false, inl, inr, [], ◌∷◌, refl, arith}
use Rattle.std.proofs.lemmas.Bool.{cases_eq}
use Rattle.std.specs.Prelude.{codes}
use Rattle.ltl_spec.specs.Semantics.Word.{Letter}
use Rattle.ltl_spec.specs.Words.LeastForm.{least_form}
use Rattle.ltl_spec.specs.Automata.Automaton.{Automaton, Edge}
use Rattle.ltl_spec.specs.Formulas.Names.{unified}
use Rattle.ltl_spec.specs.Checking.Product.{common_graph, common_start}
use Rattle.ltl_spec.specs.Checking.Search.{HasAcceptingWalk, lasso_along}

abbrev p : Letter
p = codes "p" ∷ []

abbrev q : Letter
q = codes "q" ∷ []

-- the cycle repeats a shorter list, and takes over the whole stem
example_turned : least_form (record { stem = q ∷ p ∷ q ∷ p ∷ q ∷ []; cycle = p ∷ q ∷ p ∷ q ∷ [] }) ≡ record { stem = []; cycle = q ∷ p ∷ [] }
example_turned = refl

example_stem : least_form (record { stem = p ∷ q ∷ q ∷ []; cycle = p ∷ q ∷ q ∷ p ∷ q ∷ q ∷ [] }) ≡ record { stem = []; cycle = p ∷ q ∷ q ∷ [] }
example_stem = refl

-- it takes over the last letter alone
example_kept : least_form (record { stem = p ∷ p ∷ []; cycle = q ∷ p ∷ q ∷ p ∷ [] }) ≡ record { stem = p ∷ []; cycle = p ∷ q ∷ [] }
example_kept = refl

-- an automaton in which p is true at every second position, and one that waits for a position with the first proposition and without the second
abbrev given : Automaton
given = record {
  sets = 1;
  states =
      record { accepting = true; edges = record { cube = record { proposition = 0; positive = true } ∷ []; target = 1; marks = [] } ∷ [] }
      ∷ record { accepting = true; edges = record { cube = []; target = 0; marks = 0 ∷ [] } ∷ [] } ∷ [];
}

abbrev wanted : Automaton
wanted = record {
  sets = 0;
  states =
      record { accepting = false; edges = record { cube = []; target = 0; marks = [] } ∷ record { cube = record { proposition = 0; positive = true } ∷ record { proposition = 1; positive = false } ∷ []; target = 1; marks = [] } ∷ [] }
      ∷ record { accepting = true; edges = record { cube = []; target = 1; marks = [] } ∷ [] } ∷ [];
}

-- the given names are `p`, the others `q` and `p`: q has number 1 in the product
example_product : common_graph (codes "p" ∷ []) (codes "q" ∷ codes "p" ∷ []) given wanted ≡ record {
  sets = 2;
  states =
      record { accepting = true; edges = record { cube = record { proposition = 0; positive = true } ∷ []; target = 2; marks = [] } ∷ [] }
      ∷ record { accepting = true; edges = record { cube = record { proposition = 0; positive = true } ∷ []; target = 3; marks = 1 ∷ [] } ∷ [] }
      ∷ record {
        accepting = true;
        edges =
            record { cube = []; target = 0; marks = 0 ∷ [] }
            ∷ record { cube = record { proposition = 0; positive = false } ∷ record { proposition = 1; positive = true } ∷ []; target = 1; marks = 0 ∷ [] } ∷ [];
      }
      ∷ record { accepting = true; edges = record { cube = []; target = 1; marks = 0 ∷ 1 ∷ [] } ∷ [] } ∷ [];
}
example_product = refl

-- a walk of the product: p, then q alone, then p and nothing in turn
abbrev to_second : Edge
to_second = record { cube = record { proposition = 0; positive = true } ∷ []; target = 2; marks = [] }

abbrev to_found : Edge
to_found = record { cube = record { proposition = 0; positive = false } ∷ record { proposition = 1; positive = true } ∷ []; target = 1; marks = 0 ∷ [] }

abbrev out : Edge
out = record { cube = record { proposition = 0; positive = true } ∷ []; target = 3; marks = 1 ∷ [] }

abbrev back : Edge
back = record { cube = []; target = 1; marks = 0 ∷ 1 ∷ [] }

example_walk : HasAcceptingWalk (common_graph (codes "p" ∷ []) (codes "q" ∷ codes "p" ∷ []) given wanted) (common_start (codes "p" ∷ []) (codes "q" ∷ codes "p" ∷ []) given wanted 0)
example_walk = record {
  state = 1;
  stem = to_second ∷ to_found ∷ [];
  cycle = out ∷ back ∷ [];
  arrives = (inl refl, (inr (inl refl), refl));
  cycles = record {
    closes = (inl refl, (inl refl, refl));
    moves = λ e. cc;
    marks = λ k l. elim (cases_eq k 0) [
      | inl e ↦ (back, inr (inl refl), inl e)
      | inr n ↦ let one : k ≡ 1 = omega arith in (back, inr (inl refl), inr (inl one))
    ];
  };
}

-- the word along it is printed as it is
example_word : least_form (lasso_along (unified (codes "p" ∷ []) (codes "q" ∷ codes "p" ∷ [])) example_walk.stem example_walk.cycle) ≡ record { stem = p ∷ q ∷ []; cycle = p ∷ [] ∷ [] }
unfolding example_walk
example_word = refl
