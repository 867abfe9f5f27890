-- What the check searches, and the word that it prints.
use Rattle.std.specs.Prelude.{ℕ, List}
use Rattle.ltl_spec.specs.Semantics.Word.{Name, Lasso}
use Rattle.ltl_spec.specs.Formulas.Names.{unified}
use Rattle.ltl_spec.specs.Words.LeastForm.{least_form}
use Rattle.ltl_spec.specs.Automata.Automaton.{Automaton, Edge}
use Rattle.ltl_spec.specs.Hoa.HoaReading.{MarkedAutomaton}
use Rattle.ltl_spec.specs.Checking.Product.{common_graph, common_start}
use Rattle.ltl_spec.specs.Checking.Search.{lasso_along, HasAcceptingWalk}
use Rattle.ltl_spec.specs.Checking.Check.{graph_of}

-- The given automaton, and a Büchi automaton whose propositions have these names
module _ (A : MarkedAutomaton) (names : List Name) where
  -- the product of both over the names of both, and its start
  abbrev pub searched_graph : Automaton → Automaton
  searched_graph B = common_graph A.names names (graph_of A) B

  abbrev pub searched_start : Automaton → ℕ
  searched_start B = common_start A.names names (graph_of A) B A.start

  -- there is a stem and a cycle to print
  abbrev pub HasCommonWalk : Automaton → Type 0
  HasCommonWalk B = HasAcceptingWalk (searched_graph B) (searched_start B)

  -- the word along a stem and a cycle, in least form
  abbrev pub printed_word : List Edge → List Edge → Lasso
  printed_word stem cycle = least_form (lasso_along (unified A.names names) stem cycle)
