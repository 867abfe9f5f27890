-- What the steps of the walk do, over plain variables.
use Rattle.std.proofs.Common.{◌≡◌, ℕ, ◌<◌, ◌≤◌, Bool, true, false, ◌⊎◌, inl, inr, List, [], ◌∷◌, ◌++◌, map, length, refl, sym, ◌∙◌, ap, subst, arith, length-append, append_assoc}
use Rattle.std.specs.Prelude.{All, slice_index_or, fold}
use Rattle.std.specs.Bool.{Decides}
use Rattle.std.specs.List.{list_any}
use Rattle.ltl_spec.proofs.NormalForms.SharedNodes.{Node, parts_of, tree_at, node_at, IsShared, shared_graph}
use Rattle.ltl_spec.proofs.NormalForms.RowsCollected.{walk_begins, IsWalking, work as weight, walk_goes_on, walk_pops, IsGraph, task_number, IsTaskDone, AreFlags, done_listed, done_leaf, done_one, done_two, operands, by_operands, collect, collect_seen, collect_new}
use Rattle.ltl_spec.proofs.NormalForms.RowsCollected as law
use Rattle.ltl_spec.proofs.NormalForms.NormalLaws.{same_Decides}
use Rattle.ltl_spec.proofs.Collections.ListLaws.{any_Decides}
use Rattle.ltl_spec.proofs.Collections.MemberLaws.{map_length}
use Rattle.ltl_spec.specs.Collections.Sets.{Has}
use Rattle.ltl_spec.specs.NormalForms.Normal.{Normal, same}
use Rattle.ltl_spec.specs.NormalForms.NormalForm.{rows}
use Rattle.ltl_sets.specs.declared.literal.Literal.{Literal}
use Rattle.ltl_formula.specs.SharedNodesView.{node_of}
use Rattle.ltl_formula.specs.WalkView.{task_of}
use Rattle.ltl_formula.specs.declared.row.Row.{Row}
use Rattle.ltl_formula.specs.declared.row.Row.TheVariants as row
use Rattle.ltl_formula.specs.declared.walk.Task.{Task}
use Rattle.ltl_formula.specs.declared.walk.Task.TheVariants.{Enter, Leave}

map_push : (ts : List Task) (t : Task) → map task_of (ts ++ t ∷ []) ≡ map task_of ts ++ task_of t ∷ []
map_push [] t = refl
map_push (x ∷ ts) t = ap (λ l. task_of x ∷ l) (map_push ts t)

pushed : (s1 s2 : List Task) (t : Task) → s2 ≡ s1 ++ t ∷ [] → map task_of s2 ≡ map task_of s1 ++ task_of t ∷ []
pushed s1 s2 t e = ap (map task_of) e ∙ map_push s1 t

module _ (nodes : List Node) (shared : IsShared nodes) (task : Task) (stack : List Task) (listed : List ℕ)
    (inside : task_number (task_of task) < length nodes) (tasks : All (λ t. task_number t < length nodes) (map task_of stack)) (numbers : All (λ k. k < length nodes) listed) where
  abbrev parts : ℕ → List ℕ
  parts k = parts_of (node_at nodes k)

  abbrev Done : List Task → List ℕ → Type 0
  Done new_stack new_listed = IsTaskDone (tree_at nodes) (length nodes) (map task_of stack) (task_of task) listed (map task_of new_stack) new_listed

  graph : IsGraph (tree_at nodes) parts (length nodes)
  graph = shared_graph nodes shared

  enter_inside : (k : ℕ) → task ≡ Enter k → k < length nodes
  enter_inside k e = subst (λ t. task_number (task_of t) < length nodes) e inside

  module _ (flags : List Bool) (long : length flags ≡ length nodes) (are : AreFlags flags listed) (k : ℕ) (e : task ≡ Enter k) where
    short : k < length flags
    short = let l = enter_inside k e in omega arith

    pub passed : (d : Bool) (there : List Bool) → there ≡ flags → slice_index_or there k d ≡ true → Done stack listed
    passed d there r f = subst (λ t. IsTaskDone (tree_at nodes) (length nodes) (map task_of stack) (task_of t) listed (map task_of stack) listed) (sym e)
        (done_listed (tree_at nodes) parts (length nodes) graph (map task_of stack) listed k tasks numbers (enter_inside k e) (are.yes k d short (ap (λ xs. slice_index_or xs k d) (sym r) ∙ f)))

    module _ (d : Bool) (there : List Bool) (r : there ≡ flags) (f : slice_index_or there k d ≡ false) (v : Row) (here : node_of v ≡ node_at nodes k) where
      at_node : (u : Row) → v ≡ u → parts_of (node_at nodes k) ≡ parts_of (node_of u)
      at_node u h = ap parts_of (sym here ∙ ap node_of h)

      leaf : (u : Row) → v ≡ u → parts_of (node_of u) ≡ [] → (new_listed : List ℕ) → new_listed ≡ listed ++ k ∷ [] → Done stack new_listed
      leaf u h p new_listed g = subst (λ t. IsTaskDone (tree_at nodes) (length nodes) (map task_of stack) (task_of t) listed (map task_of stack) new_listed) (sym e)
          (done_leaf (tree_at nodes) parts (length nodes) graph (map task_of stack) listed k tasks numbers (enter_inside k e) (are.no k d short (ap (λ xs. slice_index_or xs k d) (sym r) ∙ f)) (at_node u h ∙ p) new_listed g)

      pub listed_leaf : (v ≡ row.True) ⊎ ((v ≡ row.False) ⊎ ((l : Literal) × (v ≡ row.Literal l))) → (new_listed : List ℕ) → new_listed ≡ listed ++ k ∷ [] → Done stack new_listed
      listed_leaf (inl h) new_listed g = leaf row.True h refl new_listed g
      listed_leaf (inr (inl h)) new_listed g = leaf row.False h refl new_listed g
      listed_leaf (inr (inr (l, h))) new_listed g = leaf (row.Literal l) h refl new_listed g

      pub one_operand : (i : ℕ) → v ≡ row.Next i → (new_stack : List Task) → new_stack ≡ stack ++ Leave k ∷ Enter i ∷ [] → Done new_stack listed
      one_operand i h new_stack g = subst (λ t. IsTaskDone (tree_at nodes) (length nodes) (map task_of stack) (task_of t) listed (map task_of new_stack) listed) (sym e)
          (done_one (tree_at nodes) parts (length nodes) graph (map task_of stack) listed k tasks numbers (enter_inside k e) (are.no k d short (ap (λ xs. slice_index_or xs k d) (sym r) ∙ f)) i (at_node (row.Next i) h)
          (map task_of (stack ++ Leave k ∷ [])) (map task_of new_stack) (map_push stack (Leave k)) (pushed (stack ++ Leave k ∷ []) new_stack (Enter i) (g ∙ sym (append_assoc stack (Leave k ∷ []) (Enter i ∷ [])))))

      two : (u : Row) (i j : ℕ) → v ≡ u → parts_of (node_of u) ≡ i ∷ j ∷ [] → (new_stack : List Task) → new_stack ≡ stack ++ Leave k ∷ Enter j ∷ Enter i ∷ [] → Done new_stack listed
      two u i j h p new_stack g =
          let s1 = stack ++ Leave k ∷ [] in
          let s2 = s1 ++ Enter j ∷ [] in
          let g2 : new_stack ≡ s2 ++ Enter i ∷ [] = g ∙ sym (ap (λ l. l ++ Enter i ∷ []) (append_assoc stack (Leave k ∷ []) (Enter j ∷ [])) ∙ append_assoc stack (Leave k ∷ Enter j ∷ []) (Enter i ∷ [])) in
          subst (λ t. IsTaskDone (tree_at nodes) (length nodes) (map task_of stack) (task_of t) listed (map task_of new_stack) listed) (sym e)
          (done_two (tree_at nodes) parts (length nodes) graph (map task_of stack) listed k tasks numbers (enter_inside k e) (are.no k d short (ap (λ xs. slice_index_or xs k d) (sym r) ∙ f)) i j (at_node u h ∙ p)
          (map task_of s1) (map task_of s2) (map task_of new_stack) (map_push stack (Leave k)) (map_push s1 (Enter j)) (pushed s2 new_stack (Enter i) g2))

      pub two_operands : (i j : ℕ) → (v ≡ row.And i j) ⊎ ((v ≡ row.Or i j) ⊎ ((v ≡ row.Until i j) ⊎ (v ≡ row.Release i j)))
          → (new_stack : List Task) → new_stack ≡ stack ++ Leave k ∷ Enter j ∷ Enter i ∷ [] → Done new_stack listed
      two_operands i j (inl h) = two (row.And i j) i j h refl
      two_operands i j (inr (inl h)) = two (row.Or i j) i j h refl
      two_operands i j (inr (inr (inl h))) = two (row.Until i j) i j h refl
      two_operands i j (inr (inr (inr h))) = two (row.Release i j) i j h refl

-- the loop goes on after a step
pub loop_goes_on : (nodes : List Node) (root : ℕ) (stack rest : List Task) (task : Task) (listed : List ℕ) (new_stack : List Task) (new_listed : List ℕ)
    → IsWalking (tree_at nodes) (length nodes) root (map task_of stack) listed → stack ≡ rest ++ task ∷ [] → IsTaskDone (tree_at nodes) (length nodes) (map task_of rest) (task_of task) listed (map task_of new_stack) new_listed
    → IsWalking (tree_at nodes) (length nodes) root (map task_of new_stack) new_listed × (weight (tree_at nodes) (map task_of new_stack) < weight (tree_at nodes) (map task_of stack))
loop_goes_on nodes root stack rest task listed new_stack new_listed w e d =
    walk_goes_on (tree_at nodes) (length nodes) root (map task_of stack) (map task_of rest) (task_of task) listed (map task_of new_stack) new_listed w (pushed rest stack task e) d

-- what comes off the stack
pub loop_pops : (nodes : List Node) (root : ℕ) (stack rest : List Task) (task : Task) (listed : List ℕ)
    → IsWalking (tree_at nodes) (length nodes) root (map task_of stack) listed → stack ≡ rest ++ task ∷ []
    → All (λ t. task_number t < length nodes) (map task_of rest) × (task_number (task_of task) < length nodes)
loop_pops nodes root stack rest task listed w e = walk_pops (tree_at nodes) (length nodes) root (map task_of stack) (map task_of rest) (task_of task) listed w (pushed rest stack task e)

pub loop_begins : (nodes : List Node) (root : ℕ) (s1 s2 : List Task) (listed : List ℕ) → root < length nodes → s1 ≡ [] → s2 ≡ s1 ++ Enter root ∷ [] → listed ≡ [] → IsWalking (tree_at nodes) (length nodes) root (map task_of s2) listed
loop_begins nodes root s1 s2 listed l e1 e2 f = subst (λ ks. IsWalking (tree_at nodes) (length nodes) root (map task_of s2) ks) (sym f)
    (subst (λ s. IsWalking (tree_at nodes) (length nodes) root (map task_of s) []) (sym (e2 ∙ ap (λ s. s ++ Enter root ∷ []) e1)) (walk_begins (tree_at nodes) (length nodes) root l))

-- ---- how many are listed

-- the walk takes nothing away
collect_longer : (F : Normal) (seen : List Normal) → length seen ≤ length (collect seen F)
collect_longer F = by_operands (λ F. (seen : List Normal) → length seen ≤ length (collect seen F)) each F
  where
    all : (os : List Normal) → ((a : Normal) → Has os a → (seen : List Normal) → length seen ≤ length (collect seen a)) → (seen : List Normal) → length seen ≤ length (fold collect seen os)
    all [] h seen = omega arith
    all (o ∷ os) h seen =
        let first = h o (inl refl) seen in
        let rest = all os (λ a k. h a (inr k)) (collect seen o) in
        omega (arith, first, rest)

    each : (F : Normal) → ((a : Normal) → Has (operands F) a → (seen : List Normal) → length seen ≤ length (collect seen a)) → (seen : List Normal) → length seen ≤ length (collect seen F)
    each F h seen = elim (list_any (same F) seen) as (λ b. Decides b (Has seen F) → length seen ≤ length (collect seen F)) [
      | true ↦ λ d. let e : length (collect seen F) ≡ length seen = ap length (collect_seen seen F (d.0 refl)) in omega arith
      | false ↦ λ d.
          let e : length (collect seen F) ≡ length (fold collect seen (operands F) ++ F ∷ []) = ap length (collect_new seen F (λ k. no_way (d.1 k))) in
          let l = length-append (fold collect seen (operands F)) (F ∷ []) in
          let m = all (operands F) h seen in
          omega arith
    ] (any_Decides same same_Decides F seen)
      where
        no_way : false ≡ true → ⊥
        no_way d = cc

-- nor does any task
tasks_longer : (tree : ℕ → Normal) (ts : List law.Task) (seen : List Normal) → length seen ≤ length (law.after_tasks tree ts seen)
tasks_longer tree [] seen = omega arith
tasks_longer tree (law.Enter k ∷ ts) seen =
    let rest = tasks_longer tree ts seen in
    let here = collect_longer (tree k) (law.after_tasks tree ts seen) in
    omega arith
tasks_longer tree (law.Leave k ∷ ts) seen =
    let rest = tasks_longer tree ts seen in
    let here = length-append (law.after_tasks tree ts seen) (tree k ∷ []) in
    omega arith

-- so no more are listed than there are rows
pub listed_few : (tree : ℕ → Normal) (n root : ℕ) (stack : List law.Task) (listed : List ℕ) → IsWalking tree n root stack listed → length listed ≤ length (rows (tree root))
listed_few tree n root stack listed w =
    let l = tasks_longer tree stack (map tree listed) in
    let m = map_length tree listed in
    let e : length (law.after_tasks tree stack (map tree listed)) ≡ length (rows (tree root)) = ap length w.result in
    omega arith

-- with nothing left to do the numbers stand for the rows
pub walk_done : (nodes : List Node) (root : ℕ) (stack : List Task) (listed : List ℕ) → length stack ≡ 0 → IsWalking (tree_at nodes) (length nodes) root (map task_of stack) listed → map (tree_at nodes) listed ≡ rows (tree_at nodes root)
walk_done nodes root [] listed e w = w.result
walk_done nodes root (t ∷ ts) listed e w = absurd (omega arith)
