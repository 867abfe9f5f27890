-- The walk that collects the rows of a formula by a stack of tasks: what is left to do, what it brings, and what it may cost.
use Rattle.std.specs.Prelude.{◌≡◌, ℕ, ◌+◌, ◌*◌, ◌<◌, Bool, true, false, List, [], ◌∷◌, ◌++◌, map, length, All, slice_index_or, if◌then◌else◌, sum_by}
use Rattle.std.specs.List.{list_any}
use Rattle.ltl_spec.specs.Collections.Sets.{Has}
use Rattle.ltl_spec.specs.NormalForms.Normal.{Normal, Top, Bottom, Leaf, Next, And, Or, Until, Release, same}
use Rattle.ltl_spec.specs.NormalForms.NormalForm.{postorder}

-- the number of subformulas, each counted as often as it stands there
abbrev pub size : Normal → ℕ
size F = length (postorder F)

-- the list with the subformulas of F that it hasn't: nothing where it has F; else those of the left operand, then those of the right one, then F
abbrev pub collect : List Normal → Normal → List Normal
collect seen Top = if list_any (same Top) seen then seen else seen ++ Top ∷ []
collect seen Bottom = if list_any (same Bottom) seen then seen else seen ++ Bottom ∷ []
collect seen (Leaf l) = if list_any (same (Leaf l)) seen then seen else seen ++ Leaf l ∷ []
collect seen (Next a) = if list_any (same (Next a)) seen then seen else collect seen a ++ Next a ∷ []
collect seen (And a b) = if list_any (same (And a b)) seen then seen else collect (collect seen a) b ++ And a b ∷ []
collect seen (Or a b) = if list_any (same (Or a b)) seen then seen else collect (collect seen a) b ++ Or a b ∷ []
collect seen (Until a b) = if list_any (same (Until a b)) seen then seen else collect (collect seen a) b ++ Until a b ∷ []
collect seen (Release a b) = if list_any (same (Release a b)) seen then seen else collect (collect seen a) b ++ Release a b ∷ []

-- what is left to do: to enter a node, or to leave it, which lists it
pub data Task : Type 0 where
  Enter Leave : ℕ → Task

-- the number of the node
abbrev pub task_number : Task → ℕ
task_number (Enter k) = k
task_number (Leave k) = k

module _ (tree : ℕ → Normal) where
  -- the list after a task
  abbrev pub after_task : List Normal → Task → List Normal
  after_task seen (Enter k) = collect seen (tree k)
  after_task seen (Leave k) = seen ++ tree k ∷ []

  -- the list after all tasks of the stack; the last one is the first to be done
  abbrev pub after_tasks : List Task → List Normal → List Normal
  after_tasks [] seen = seen
  after_tasks (t ∷ ts) seen = after_task (after_tasks ts seen) t

  -- what each task may cost: a node is left at once, and a tree is walked twice
  abbrev pub task_work : Task → ℕ
  task_work (Enter k) = 2 * size (tree k)
  task_work (Leave k) = 1

  -- this falls at each step
  abbrev pub work : List Task → ℕ
  work ts = sum_by task_work ts

-- a task from the top of a stack is done: the new stack and the new numbers bring the same list, and the end is nearer
pub record IsTaskDone (tree : ℕ → Normal) (n : ℕ) (stack : List Task) (task : Task) (listed : List ℕ) (new_stack : List Task) (new_listed : List ℕ) : Type 0 where
  pub tasks : All (λ t. task_number t < n) new_stack
  pub numbers : All (λ k. k < n) new_listed
  pub result : after_tasks tree new_stack (map tree new_listed) ≡ after_tasks tree stack (after_task tree (map tree listed) task)
  pub less : work tree new_stack < work tree stack + task_work tree task

-- the flag of each number says whether it is listed
pub record AreFlags (flags : List Bool) (listed : List ℕ) : Type 0 where
  pub yes : (k : ℕ) (d : Bool) → k < length flags → slice_index_or flags k d ≡ true → Has listed k
  pub no : (k : ℕ) (d : Bool) → k < length flags → slice_index_or flags k d ≡ false → ¬ (Has listed k)
