-- The tasks of the depth-first walk as those of its laws, and the numbers that it lists.
use Rattle.std.specs.Prelude.{ℕ, ◌<◌, List, length, map, take, All, slice_index}
use Rattle.ltl_spec.specs.Collections.Sets.{Has}
use Rattle.ltl_spec.specs.Collections.Lists.{HasNoRepeats}
use Rattle.ltl_spec.specs.NormalForms.RowsCollected as law
use Rattle.ltl_spec.specs.NormalForms.SharedNodes.{Node, node_at, parts_of}
use Rattle.ltl_formula.specs.declared.walk.Task.{Task}
use Rattle.ltl_formula.specs.declared.walk.Task.TheVariants.{Enter, Leave}

abbrev pub task_of : Task → law.Task
task_of (Enter k) = law.Enter k
task_of (Leave k) = law.Leave k

-- the task and those behind it are on the first n nodes
pub record AreOnNodes (n : ℕ) (first : Task) (behind : List Task) : Type 0 where
  pub now : law.task_number (task_of first) < n
  pub later : All (λ t. law.task_number t < n) (map task_of behind)

-- different numbers of nodes, each behind those of its operands
pub record AreInOrder (nodes : List Node) (numbers : List ℕ) : Type 0 where
  pub inside : All (λ k. k < length nodes) numbers
  pub distinct : HasNoRepeats numbers
  pub operands : (n : ℕ) → n < length numbers → (i : ℕ) → Has (parts_of (node_at nodes (slice_index numbers n))) i → Has (take n numbers) i
