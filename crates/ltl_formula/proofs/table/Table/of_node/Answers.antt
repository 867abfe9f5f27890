use Rattle.std.proofs.Common.{◌≡◌, ◌≤◌, ◌∙◌, List, ap, sym, arith, length}
use Rattle.std.specs.Prelude.{map}
use Rattle.ltl_spec.specs.NormalForms.NormalForm.{rows}
use Rattle.ltl_spec.specs.Tools.Limits.{stated_limits}
use Rattle.ltl_spec.proofs.Collections.MemberLaws.{map_length}
use Rattle.ltl_spec.proofs.NormalForms.SharedNodes.{tree_at}
use Rattle.ltl_formula.specs.declared.row.Row.{Row}
use Rattle.ltl_formula.specs.TableView.{row_trees, places_by, is_until_row, is_elementary_of}
use Rattle.ltl_formula.proofs.TableLemmas.{table_made, last_tree, rows_long, elementary_many}
use Rattle.ltl_formula.proofs.table.Table.of_node.Given as given
use Rattle.ltl_formula.proofs.table.Table.of_node.Goals as goal
use Rattle.ltl_formula.proofs.table.Table.of_node.Goals.{In_ok-rows}

-- the rows are those of the node
is_made : (g : given.Over) (c : In_ok-rows g) → row_trees c.in_ok-rows.rows.items ≡ rows (tree_at c.args.graph.now.nodes c.args.root)
is_made g c = c.in_ok-rows.ensures.trees ∙ ap (map (tree_at c.args.graph.now.nodes)) c.deref.ensures ∙ c.in_ok-numbers.ensures.rows

-- and few
are_few : (g : given.Over) (c : In_ok-rows g) → length c.in_ok-rows.rows.items ≤ stated_limits.rows
are_few g c =
    let long = rows_long (tree_at c.args.graph.now.nodes c.args.root) c.in_ok-rows.rows.items (is_made g c) c.in_ok-rows.ensures.order in
    let counted : length (rows (tree_at c.args.graph.now.nodes c.args.root)) ≡ length c.in_ok-numbers.numbers.items = sym (ap length c.in_ok-numbers.ensures.rows) ∙ map_length (tree_at c.args.graph.now.nodes) c.in_ok-numbers.numbers.items in
    let few = c.in_ok-numbers.ensures.few in
    omega arith

pub invariant_of-result : goal.invariant_of-result
invariant_of-result g c =
    table_made (tree_at c.args.graph.now.nodes c.args.root) c.in_ok-rows.rows.items (is_made g (goal.at.invariant_of-result g c).In_ok-rows) c.in_ok-rows.ensures.order
    c.in_ok-untils.untils.items c.in_ok-elementary.elementary.items (c.in_ok-untils.ensures ∙ ap (places_by (λ _ r. is_until_row r) 0) c.deref-2.ensures.value) (c.in_ok-elementary.ensures ∙ ap (λ (rs : List Row). places_by (is_elementary_of (length rs)) 0 rs) c.deref-3.ensures.value)
    (are_few g (goal.at.invariant_of-result g c).In_ok-rows) (omega (arith, c.len.ensures.value)) c.requires.literals

pub returns-clause-table : goal.returns-clause-table
returns-clause-table g c =
    table_made (tree_at c.args.graph.now.nodes c.args.root) c.in_ok-rows.rows.items (is_made g (goal.at.returns-clause-table g c).In_ok-rows) c.in_ok-rows.ensures.order
    c.in_ok-untils.untils.items c.in_ok-elementary.elementary.items (c.in_ok-untils.ensures ∙ ap (places_by (λ _ r. is_until_row r) 0) c.deref-2.ensures.value) (c.in_ok-elementary.ensures ∙ ap (λ (rs : List Row). places_by (is_elementary_of (length rs)) 0 rs) c.deref-3.ensures.value)
    (are_few g (goal.at.returns-clause-table g c).In_ok-rows) (omega (arith, c.len.ensures.value)) c.requires.literals

pub returns-clause-core : goal.returns-clause-core
returns-clause-core g c = last_tree (tree_at c.args.graph.now.nodes c.args.root) c.in_ok-rows.rows.items (is_made g (goal.at.returns-clause-core g c).In_ok-rows) c.in_ok-rows.ensures.order

pub returns-then-len-gt-ELEMENTARY_ROW_LIMIT-clause-elementary : goal.returns-then-len-gt-ELEMENTARY_ROW_LIMIT-clause-elementary
returns-then-len-gt-ELEMENTARY_ROW_LIMIT-clause-elementary g c = λ _.
    elementary_many (tree_at c.args.graph.now.nodes c.args.root) c.in_ok-rows.rows.items (is_made g (goal.at.returns-then-len-gt-ELEMENTARY_ROW_LIMIT-clause-elementary g c).In_ok-rows) c.in_ok-rows.ensures.order
    c.in_ok-untils.untils.items c.in_ok-elementary.elementary.items (c.in_ok-untils.ensures ∙ ap (places_by (λ _ r. is_until_row r) 0) c.deref-2.ensures.value) (c.in_ok-elementary.ensures ∙ ap (λ (rs : List Row). places_by (is_elementary_of (length rs)) 0 rs) c.deref-3.ensures.value)
    (omega (arith, c.len.ensures.value))
