-- The places and the pairs of the rows of a table.
use Rattle.std.specs.Prelude.{ℕ, List}
use Rattle.ltl_spec.specs.Collections.Sets.{set_of}
use Rattle.ltl_spec.specs.NormalForms.Normal.{Normal}
use Rattle.ltl_spec.specs.Transitions.Pairs as spec
use Rattle.ltl_spec.specs.Transitions.RowTransitions.{table_of, place}
use Rattle.ltl_formula.specs.TableView.{TableView, row_tree, core_of}

-- the place of a normal form among the elementary rows
abbrev pub row_place : TableView → Normal → ℕ
row_place t = place (table_of (core_of t))

-- the pairs of a row
abbrev pub row_pairs : TableView → ℕ → List spec.Pair
row_pairs t k = set_of spec.pair_cmp (spec.pairs (row_place t) (row_tree t k))
