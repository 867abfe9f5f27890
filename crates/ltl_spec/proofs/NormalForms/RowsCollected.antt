-- The rows of a formula collected by a walk that enters no subformula twice, over the tree and over a graph of shared nodes.
use Rattle.std.proofs.Common.{◌≡◌, ℕ, zero, suc, ◌+◌, ◌<◌, ◌≤◌, Bool, true, false, cond, eqb, ◌⊎◌, inl, inr, List, [], ◌∷◌, ◌++◌, map, length, refl, sym, ◌∙◌, ap, subst, arith, length-append}
use Rattle.std.specs.Prelude.{All, slice_index_or, slice_set, replicate, fold, flat_map}
use Rattle.std.specs.Bool.{Decides}
use Rattle.std.specs.List.{list_any}
use Rattle.std.proofs.lemmas.Bool.Decides.{Decides-eqb}
use Rattle.std.proofs.lemmas.List.{append-nil, map_push, length-set, get_or-set_same, get_or-set_other}
use Rattle.std.proofs.lemmas.List.Sums.{fold-append, sum_by_push}
use Rattle.ltl_spec.specs.Collections.Sets.{Has}
use Rattle.ltl_spec.specs.Collections.Lists.{HasNoRepeats, with_new}
use Rattle.ltl_spec.specs.NormalForms.Normal.{Normal, Top, Bottom, Leaf, Next, And, Or, Until, Release, same}
use Rattle.ltl_spec.specs.NormalForms.NormalForm.{postorder, rows}
use Rattle.ltl_spec.proofs.Collections.SetLaws.{append_cases, append_left, append_right}
use Rattle.std.proofs.lemmas.List.Elements.{All-push}
use Rattle.std.proofs.lemmas.Bool.{false≢true, cases_eq}
use Rattle.ltl_spec.proofs.Collections.ListLaws.{Has-at, any_Decides, HasNoRepeats-first_occurrences, fold_cases, fold_old, fold_new, All-at_has}
use Rattle.ltl_spec.proofs.NormalForms.NormalLaws.{same_Decides}
use Rattle.ltl_spec.proofs.Collections.MemberLaws.{Has-map, Has-flat_map, flat_map_cases}
pub use Rattle.ltl_spec.specs.NormalForms.RowsCollected.{size, collect, Task, Enter, Leave, task_number, after_task, after_tasks, task_work, work, IsTaskDone, AreFlags}

-- nodes and their operands

-- the operands of a node
abbrev pub operands : Normal → List Normal
operands Top = []
operands Bottom = []
operands (Leaf l) = []
operands (Next a) = a ∷ []
operands (And a b) = a ∷ b ∷ []
operands (Or a b) = a ∷ b ∷ []
operands (Until a b) = a ∷ b ∷ []
operands (Release a b) = a ∷ b ∷ []

two : (P : Normal → Type 0) (x y : Normal) → P x → P y → (c : Normal) → Has (x ∷ y ∷ []) c → P c
two P x y p q c (inl e) = subst P (sym e) p
two P x y p q c (inr (inl e)) = subst P (sym e) q
two P x y p q c (inr (inr h)) = absurd h

-- what holds of a node where it holds of its operands holds of each tree
pub by_operands : (P : Normal → Type 0) → ((F : Normal) → ((a : Normal) → Has (operands F) a → P a) → P F) → (F : Normal) → P F
by_operands P step Top = step Top (λ a h. absurd h)
by_operands P step Bottom = step Bottom (λ a h. absurd h)
by_operands P step (Leaf l) = step (Leaf l) (λ a h. absurd h)
by_operands P step (Next a) = step (Next a) (one P a (by_operands P step a))
  where
    one : (P : Normal → Type 0) (x : Normal) → P x → (c : Normal) → Has (x ∷ []) c → P c
    one P x p c (inl e) = subst P (sym e) p
    one P x p c (inr h) = absurd h
by_operands P step (And a b) = step (And a b) (two P a b (by_operands P step a) (by_operands P step b))
by_operands P step (Or a b) = step (Or a b) (two P a b (by_operands P step a) (by_operands P step b))
by_operands P step (Until a b) = step (Until a b) (two P a b (by_operands P step a) (by_operands P step b))
by_operands P step (Release a b) = step (Release a b) (two P a b (by_operands P step a) (by_operands P step b))

-- two lists in a row, and the empty one
both : (xs ys zs : List Normal) → (xs ++ ys) ++ zs ≡ (xs ++ (ys ++ [])) ++ zs
both xs ys zs = ap (λ l. (xs ++ l) ++ zs) (sym (append-nil ys))

-- all subformulas: those of the operands, and the node
pub postorder_is : (F : Normal) → postorder F ≡ flat_map postorder (operands F) ++ F ∷ []
postorder_is Top = refl
postorder_is Bottom = refl
postorder_is (Leaf l) = refl
postorder_is (Next a) = one (postorder a) (Next a ∷ [])
  where
    one : (xs ys : List Normal) → xs ++ ys ≡ (xs ++ []) ++ ys
    one xs ys = ap (λ l. l ++ ys) (sym (append-nil xs))
postorder_is (And a b) = both (postorder a) (postorder b) (And a b ∷ [])
postorder_is (Or a b) = both (postorder a) (postorder b) (Or a b ∷ [])
postorder_is (Until a b) = both (postorder a) (postorder b) (Until a b ∷ [])
postorder_is (Release a b) = both (postorder a) (postorder b) (Release a b ∷ [])

-- a subformula is the formula or a subformula of an operand
pub postorder_cases : (F G : Normal) → Has (postorder F) G → (G ≡ F) ⊎ ((a : Normal) × Has (operands F) a × Has (postorder a) G)
postorder_cases F G h = elim (append_cases (flat_map postorder (operands F)) (F ∷ []) G (subst (λ l. Has l G) (postorder_is F) h)) [
  | inl k ↦ inr (flat_map_cases postorder (operands F) G k)
  | inr k ↦ elim k [ inl e ↦ inl e | inr n ↦ absurd n ]
]

-- the formula is among them
pub postorder_self : (F : Normal) → Has (postorder F) F
postorder_self F = subst (λ l. Has l F) (sym (postorder_is F)) (append_right (flat_map postorder (operands F)) (F ∷ []) F (inl refl))

-- and so is each subformula of an operand
pub postorder_operand : (F a G : Normal) → Has (operands F) a → Has (postorder a) G → Has (postorder F) G
postorder_operand F a G h k = subst (λ l. Has l G) (sym (postorder_is F)) (append_left (flat_map postorder (operands F)) (F ∷ []) G (Has-flat_map postorder (operands F) a G h k))

-- an operand is smaller
pub operand_smaller : (F a : Normal) → Has (operands F) a → size a < size F
operand_smaller F a h =
    let e : size F ≡ length (flat_map postorder (operands F)) + 1 = ap length (postorder_is F) ∙ length-append (flat_map postorder (operands F)) (F ∷ []) in
    let l : size a ≤ length (flat_map postorder (operands F)) = within (operands F) h in
    omega arith
  where
    within : (os : List Normal) → Has os a → size a ≤ length (flat_map postorder os)
    within [] k = absurd k
    within (o ∷ os) (inl e) =
        let s = ap size e in
        let m = length-append (postorder o) (flat_map postorder os) in
        omega arith
    within (o ∷ os) (inr k) =
        let r = within os k in
        let m = length-append (postorder o) (flat_map postorder os) in
        omega arith

-- and no subformula is larger
pub subformula_smaller : (F G : Normal) → Has (postorder F) G → size G ≤ size F
subformula_smaller F G = by_operands (λ F. Has (postorder F) G → size G ≤ size F) step F
  where
    step : (F : Normal) → ((a : Normal) → Has (operands F) a → Has (postorder a) G → size G ≤ size a) → Has (postorder F) G → size G ≤ size F
    step F each h = elim (postorder_cases F G h) [
      | inl e ↦ let s = ap size e in omega arith
      | inr w ↦ let l = operand_smaller F w.0 w.1 in let m = each w.0 w.1 w.2 in omega arith
    ]

-- lists that have the subformulas of what they have

-- with each node the list has its operands
abbrev pub HasOperands : List Normal → Type 0
HasOperands xs = (F a : Normal) → Has xs F → Has (operands F) a → Has xs a

-- then it has all subformulas of each
pub has_subformulas : (xs : List Normal) → HasOperands xs → (F : Normal) → Has xs F → (G : Normal) → Has (postorder F) G → Has xs G
has_subformulas xs closed F h G k = by_operands (λ F. Has xs F → Has (postorder F) G → Has xs G) step F h k
  where
    step : (F : Normal) → ((a : Normal) → Has (operands F) a → Has xs a → Has (postorder a) G → Has xs G) → Has xs F → Has (postorder F) G → Has xs G
    step F each h k = elim (postorder_cases F G k) [
      | inl e ↦ subst (Has xs) (sym e) h
      | inr w ↦ each w.0 w.1 (closed F w.0 h w.1) w.2
    ]

-- the list of all subformulas is such a list
pub HasOperands-postorder : (F : Normal) → HasOperands (postorder F)
HasOperands-postorder F G a h k = by_operands (λ F. Has (postorder F) G → Has (postorder F) a) step F h
  where
    step : (F : Normal) → ((b : Normal) → Has (operands F) b → Has (postorder b) G → Has (postorder b) a) → Has (postorder F) G → Has (postorder F) a
    step F each h = elim (postorder_cases F G h) [
      | inl e ↦ postorder_operand F a a (subst (λ x. Has (operands x) a) e k) (postorder_self a)
      | inr w ↦ postorder_operand F w.0 a w.1 (each w.0 w.1 w.2)
    ]

-- with the new subformulas of a formula it is one again
pub HasOperands-fold : (xs : List Normal) (F : Normal) → HasOperands xs → HasOperands (fold (with_new same) xs (postorder F))
HasOperands-fold xs F closed G a h k = elim (fold_cases same same_Decides (postorder F) xs G h) [
  | inl m ↦ fold_old same same_Decides (postorder F) xs a (closed G a m k)
  | inr m ↦ fold_new same same_Decides (postorder F) xs a (HasOperands-postorder F G a m k)
]

-- what the list has changes nothing
pub fold_within : (ys xs : List Normal) → ((z : Normal) → Has ys z → Has xs z) → fold (with_new same) xs ys ≡ xs
fold_within [] xs h = refl
fold_within (y ∷ ys) xs h =
    let there : list_any (same y) xs ≡ true = (any_Decides same same_Decides y xs).1 (h y (inl refl)) in
    let stays : with_new same xs y ≡ xs = ap (λ b. cond b xs (xs ++ y ∷ [])) there in
    ap (λ l. fold (with_new same) l ys) stays ∙ fold_within ys xs (λ z k. h z (inr k))

-- the walk

-- the walk in terms of the operands
collect_cases : (seen : List Normal) (F : Normal) → collect seen F ≡ cond (list_any (same F) seen) seen (fold collect seen (operands F) ++ F ∷ [])
collect_cases seen Top = refl
collect_cases seen _ = refl

-- where the list has F it stays
pub collect_seen : (seen : List Normal) (F : Normal) → Has seen F → collect seen F ≡ seen
collect_seen seen F h = collect_cases seen F ∙ ap (λ b. cond b seen (fold collect seen (operands F) ++ F ∷ [])) ((any_Decides same same_Decides F seen).1 h)

-- else it gets what its operands bring, and F
pub collect_new : (seen : List Normal) (F : Normal) → ¬ (Has seen F) → collect seen F ≡ fold collect seen (operands F) ++ F ∷ []
collect_new seen F n = collect_cases seen F ∙ at (list_any (same F) seen) (any_Decides same same_Decides F seen)
  where
    at : (b : Bool) → Decides b (Has seen F) → cond b seen (fold collect seen (operands F) ++ F ∷ []) ≡ fold collect seen (operands F) ++ F ∷ []
    at true d = absurd (n (d.0 refl))
    at false d = refl

-- what is seen of each operand in turn is what all of their subformulas bring
collect_all : (os seen : List Normal) → ((a : Normal) → Has os a → (xs : List Normal) → HasOperands xs → collect xs a ≡ fold (with_new same) xs (postorder a)) → HasOperands seen
    → fold collect seen os ≡ fold (with_new same) seen (flat_map postorder os)
collect_all [] seen each closed = refl
collect_all (o ∷ os) seen each closed =
    let here = each o (inl refl) seen closed in
    ap (λ l. fold collect l os) here
    ∙ collect_all os (fold (with_new same) seen (postorder o)) (λ a h. each a (inr h)) (HasOperands-fold seen o closed)
    ∙ sym (fold-append (with_new same) seen (postorder o) (flat_map postorder os))

-- no operand has the node as a subformula
node_not_below : (F : Normal) → ¬ (Has (flat_map postorder (operands F)) F)
node_not_below F h =
    let w = flat_map_cases postorder (operands F) F h in
    let l = operand_smaller F w.0 w.1 in
    let m = subformula_smaller w.0 F w.2 in
    omega arith

-- the walk collects the subformulas by their first occurrence
pub collect_is : (F : Normal) (seen : List Normal) → HasOperands seen → collect seen F ≡ fold (with_new same) seen (postorder F)
collect_is F = by_operands (λ F. (seen : List Normal) → HasOperands seen → collect seen F ≡ fold (with_new same) seen (postorder F)) step F
  where
    put_last : (xs : List Normal) (F : Normal) → ¬ (Has xs F) → with_new same xs F ≡ xs ++ F ∷ []
    put_last xs F n = elim (list_any (same F) xs) as (λ b. Decides b (Has xs F) → cond b xs (xs ++ F ∷ []) ≡ xs ++ F ∷ []) [
      | true ↦ λ d. absurd (n (d.0 refl))
      | false ↦ λ d. refl
    ] (any_Decides same same_Decides F xs)

    step : (F : Normal) → ((a : Normal) → Has (operands F) a → (seen : List Normal) → HasOperands seen → collect seen a ≡ fold (with_new same) seen (postorder a)) → (seen : List Normal) → HasOperands seen
        → collect seen F ≡ fold (with_new same) seen (postorder F)
    step F each seen closed =
        let before = fold (with_new same) seen (flat_map postorder (operands F)) in
        elim (list_any (same F) seen) as (λ b. Decides b (Has seen F) → collect seen F ≡ fold (with_new same) seen (postorder F)) [
          | true ↦ λ d. collect_seen seen F (d.0 refl) ∙ sym (fold_within (postorder F) seen (has_subformulas seen closed F (d.0 refl)))
          | false ↦ λ d.
              let new : ¬ (Has seen F) = λ h. false≢true (d.1 h) in
              let last : ¬ (Has before F) = λ h. elim (fold_cases same same_Decides (flat_map postorder (operands F)) seen F h) [ inl k ↦ new k | inr k ↦ node_not_below F k ] in
              collect_new seen F new
              ∙ ap (λ l. l ++ F ∷ []) (collect_all (operands F) seen each closed)
              ∙ sym (put_last before F last)
              ∙ sym (fold-append (with_new same) seen (flat_map postorder (operands F)) (F ∷ []))
              ∙ ap (fold (with_new same) seen) (sym (postorder_is F))
        ] (any_Decides same same_Decides F seen)

-- from nothing it collects the rows
pub rows_collected : (F : Normal) → collect [] F ≡ rows F
rows_collected F = collect_is F [] (λ G a h k. absurd h)

-- what the walk keeps

module _ (seen : List Normal) (F : Normal) (closed : HasOperands seen) where
  -- with each node the list has its operands
  pub collect_closed : HasOperands (collect seen F)
  collect_closed = subst HasOperands (sym (collect_is F seen closed)) (HasOperands-fold seen F closed)

  -- it has what was seen and all subformulas
  pub collect_has : (G : Normal) → Has seen G ⊎ Has (postorder F) G → Has (collect seen F) G
  collect_has G h = subst (λ l. Has l G) (sym (collect_is F seen closed)) (elim h [
    | inl k ↦ fold_old same same_Decides (postorder F) seen G k
    | inr k ↦ fold_new same same_Decides (postorder F) seen G k
  ])

-- where F is new it comes last
pub collect_last : (seen : List Normal) (F : Normal) → ¬ (Has seen F) → (before : List Normal) × (collect seen F ≡ before ++ F ∷ [])
collect_last seen F n = (fold collect seen (operands F), collect_new seen F n)

-- a graph of shared nodes

-- The number of a node stands for a tree. Its operands have lesser numbers, and two numbers that stand for one tree are equal
pub record IsGraph (tree : ℕ → Normal) (parts : ℕ → List ℕ) (n : ℕ) : Type 0 where
  pub stands : (k : ℕ) → k < n → operands (tree k) ≡ map tree (parts k)
  pub before : (k : ℕ) → k < n → (j : ℕ) → Has (parts k) j → j < k
  pub apart : (i j : ℕ) → i < n → j < n → tree i ≡ tree j → i ≡ j

-- all numbers are below n
abbrev pub AllInside : ℕ → List ℕ → Type 0
AllInside n ks = (k : ℕ) → Has ks k → k < n

module _ (tree : ℕ → Normal) (parts : ℕ → List ℕ) (n : ℕ) (graph : IsGraph tree parts n) where
  -- a number is among others exactly where its tree is among theirs
  pub number_seen : (ks : List ℕ) (k : ℕ) → AllInside n ks → k < n → Has (map tree ks) (tree k) → Has ks k
  number_seen [] k inside l h = absurd h
  number_seen (x ∷ ks) k inside l (inl e) = inl (graph.apart k x l (inside x (inl refl)) e)
  number_seen (x ∷ ks) k inside l (inr h) = inr (number_seen ks k (λ j m. inside j (inr m)) l h)

  -- so different numbers stand for different trees
  pub numbers_no_repeats : (ks : List ℕ) → AllInside n ks → HasNoRepeats (map tree ks) → HasNoRepeats ks
  numbers_no_repeats [] inside d = tt
  numbers_no_repeats (x ∷ ks) inside d = ((λ h. d.0 (Has-map tree ks x h)), numbers_no_repeats ks (λ j m. inside j (inr m)) d.1)

module _ (tree : ℕ → Normal) (parts : ℕ → List ℕ) (n : ℕ) (graph : IsGraph tree parts n) where
  -- two trees are the same exactly where their numbers are
  pub same_number : (i j : ℕ) → i < n → j < n → same (tree i) (tree j) ≡ eqb i j
  same_number i j l m = at (same (tree i) (tree j)) (eqb i j) (same_Decides (tree i) (tree j)) (Decides-eqb i j)
    where
      at : (s t : Bool) → Decides s (tree i ≡ tree j) → Decides t (i ≡ j) → s ≡ t
      at true t c d = sym (d.1 (graph.apart i j l m (c.0 refl)))
      at false true c d = c.1 (ap tree (d.0 refl))
      at false false c d = refl

  module _ (root : ℕ) (inside : root < n) (ks : List ℕ) (numbers : AllInside n ks) (listed : map tree ks ≡ rows (tree root)) where
    -- no number stands twice
    pub listed_no_repeats : HasNoRepeats ks
    listed_no_repeats = numbers_no_repeats tree parts n graph ks numbers (subst HasNoRepeats (sym listed) (HasNoRepeats-first_occurrences same same_Decides (postorder (tree root))))

-- the walk by a stack

module _ (tree : ℕ → Normal) where
  -- the task on top is done first
  pub after_top : (ts : List Task) (t : Task) (seen : List Normal) → after_tasks tree (ts ++ t ∷ []) seen ≡ after_tasks tree ts (after_task tree seen t)
  after_top [] t seen = refl
  after_top (u ∷ ts) t seen = ap (λ l. after_task tree l u) (after_top ts t seen)

  -- one more task adds its own
  work_push : (ts : List Task) (t : Task) → work tree (ts ++ t ∷ []) ≡ work tree ts + task_work tree t
  work_push ts t = sum_by_push (task_work tree) ts t

  -- there is always a subformula
  size_above : (F : Normal) → 0 < size F
  size_above F = let e : size F ≡ length (flat_map postorder (operands F)) + 1 = ap length (postorder_is F) ∙ length-append (flat_map postorder (operands F)) (F ∷ []) in omega arith

  -- the size of a node with these operands
  size_one : (F a : Normal) → operands F ≡ a ∷ [] → size F ≡ size a + 1
  size_one F a e =
      let w = length-append (postorder a ++ []) (F ∷ []) in
      let v = length-append (postorder a) [] in
      let u : size F ≡ length ((postorder a ++ []) ++ F ∷ []) = ap length (postorder_is F) ∙ ap (λ os. length (flat_map postorder os ++ F ∷ [])) e in
      omega arith

  -- two operands
  size_two : (F a b : Normal) → operands F ≡ a ∷ b ∷ [] → size F ≡ size a + size b + 1
  size_two F a b e =
      let w = length-append (postorder a ++ (postorder b ++ [])) (F ∷ []) in
      let v = length-append (postorder a) (postorder b ++ []) in
      let x = length-append (postorder b) [] in
      let u : size F ≡ length ((postorder a ++ (postorder b ++ [])) ++ F ∷ []) = ap length (postorder_is F) ∙ ap (λ os. length (flat_map postorder os ++ F ∷ [])) e in
      omega arith

-- the invariant of the loop: what the stack leaves to do makes the rows of the root out of the numbers that are listed
pub record IsWalking (tree : ℕ → Normal) (n root : ℕ) (stack : List Task) (listed : List ℕ) : Type 0 where
  pub tasks : All (λ t. task_number t < n) stack
  pub numbers : All (λ k. k < n) listed
  pub result : after_tasks tree stack (map tree listed) ≡ rows (tree root)

module _ (tree : ℕ → Normal) (n root : ℕ) where
  -- at first the root is to be entered
  pub walk_begins : root < n → IsWalking tree n root (Enter root ∷ []) []
  walk_begins l = record {
    tasks = All-push (λ t. task_number t < n) [] (Enter root) (λ k d m. absurd (omega arith)) l;
    numbers = λ k d m. absurd (omega arith);
    result = rows_collected (tree root);
  }

  -- the top comes off the stack
  pub walk_pops : (stack rest : List Task) (task : Task) (listed : List ℕ) → IsWalking tree n root stack listed → stack ≡ rest ++ task ∷ [] → All (λ t. task_number t < n) rest × (task_number task < n)
  walk_pops stack rest task listed w e =
      let all : All (λ t. task_number t < n) (rest ++ task ∷ []) = subst (All (λ t. task_number t < n)) e w.tasks in
      let each : (t : Task) → Has (rest ++ task ∷ []) t → task_number t < n = All-at_has (λ t. task_number t < n) (rest ++ task ∷ []) all in
      ((λ k d l. each (slice_index_or rest k d) (append_left rest (task ∷ []) (slice_index_or rest k d) (Has-at rest k d l))), each task (append_right rest (task ∷ []) task (inl refl)))

  -- and once its task is done the loop goes on
  pub walk_goes_on : (stack rest : List Task) (task : Task) (listed : List ℕ) (new_stack : List Task) (new_listed : List ℕ)
      → IsWalking tree n root stack listed → stack ≡ rest ++ task ∷ [] → IsTaskDone tree n rest task listed new_stack new_listed
      → IsWalking tree n root new_stack new_listed × (work tree new_stack < work tree stack)
  walk_goes_on stack rest task listed new_stack new_listed w e d =
      let f : work tree stack ≡ work tree rest + task_work tree task = ap (work tree) e ∙ work_push tree rest task in
      let l = d.less in (
        record {
          tasks = d.tasks;
          numbers = d.numbers;
          result = d.result ∙ sym (ap (λ ts. after_tasks tree ts (map tree listed)) e ∙ after_top tree rest task (map tree listed)) ∙ w.result;
        },
        omega arith,
      )

module _ (tree : ℕ → Normal) (parts : ℕ → List ℕ) (n : ℕ) (graph : IsGraph tree parts n) (stack : List Task) (listed : List ℕ) (k : ℕ)
    (tasks : All (λ t. task_number t < n) stack) (numbers : All (λ k. k < n) listed) (inside : k < n) where
  -- a node that is listed isn't entered
  pub done_listed : Has listed k → IsTaskDone tree n stack (Enter k) listed stack listed
  done_listed h = record {
    tasks = tasks;
    numbers = numbers;
    result = ap (after_tasks tree stack) (sym (collect_seen (map tree listed) (tree k) (Has-map tree listed k h)));
    less = let l = size_above tree (tree k) in omega arith;
  }

  -- a node that is left is listed
  pub done_left : (new_listed : List ℕ) → new_listed ≡ listed ++ k ∷ [] → IsTaskDone tree n stack (Leave k) listed stack new_listed
  done_left new_listed e = record {
    tasks = tasks;
    numbers = subst (All (λ k. k < n)) (sym e) (All-push (λ k. k < n) listed k numbers inside);
    result = ap (after_tasks tree stack) (ap (map tree) e ∙ map_push tree listed k);
    less = omega arith;
  }

  module _ (new : ¬ (Has listed k)) where
    part_inside : (j : ℕ) → Has (parts k) j → j < n
    part_inside j h = let l = graph.before k inside j h in omega arith

    -- what entering does: the operands, then the node
    entered : (os : List ℕ) → parts k ≡ os → fold collect (map tree listed) (map tree os) ++ tree k ∷ [] ≡ collect (map tree listed) (tree k)
    entered os e =
        ap (λ l. fold collect (map tree listed) l ++ tree k ∷ []) (ap (map tree) (sym e) ∙ sym (graph.stands k inside))
        ∙ sym (collect_new (map tree listed) (tree k) (λ h. new (number_seen tree parts n graph listed k (All-at_has (λ k. k < n) listed numbers) inside h)))

    -- a node with no operand that is new is listed at once
    pub done_leaf : parts k ≡ [] → (new_listed : List ℕ) → new_listed ≡ listed ++ k ∷ [] → IsTaskDone tree n stack (Enter k) listed stack new_listed
    done_leaf e new_listed f =
        let l = done_left new_listed f in
        record {
          tasks = tasks;
          numbers = l.numbers;
          result = l.result ∙ ap (after_tasks tree stack) (entered [] e);
          less = let s = size_above tree (tree k) in omega arith;
        }

    -- one with one operand: the operand is to be entered, then the node is to be left
    pub done_one : (i : ℕ) → parts k ≡ i ∷ [] → (s1 s2 : List Task) → s1 ≡ stack ++ Leave k ∷ [] → s2 ≡ s1 ++ Enter i ∷ [] → IsTaskDone tree n stack (Enter k) listed s2 listed
    done_one i e s1 s2 e1 e2 = subst (λ s. IsTaskDone tree n stack (Enter k) listed s listed) (sym (e2 ∙ ap (λ s. s ++ Enter i ∷ []) e1)) (record {
      tasks = All-push (λ t. task_number t < n) (stack ++ Leave k ∷ []) (Enter i) (All-push (λ t. task_number t < n) stack (Leave k) tasks inside) (part_inside i (subst (λ os. Has os i) (sym e) (inl refl)));
      numbers = numbers;
      result =
          after_top tree (stack ++ Leave k ∷ []) (Enter i) (map tree listed)
          ∙ after_top tree stack (Leave k) (collect (map tree listed) (tree i))
          ∙ ap (after_tasks tree stack) (entered (i ∷ []) e);
      less =
          let b = work_push tree stack (Leave k) in
          let c = work_push tree (stack ++ Leave k ∷ []) (Enter i) in
          let s = size_one tree (tree k) (tree i) (graph.stands k inside ∙ ap (map tree) e) in
          omega arith;
    })

    -- one with two: the left one is to be entered, then the right one, then the node is to be left
    pub done_two : (i j : ℕ) → parts k ≡ i ∷ j ∷ [] → (s1 s2 s3 : List Task) → s1 ≡ stack ++ Leave k ∷ [] → s2 ≡ s1 ++ Enter j ∷ [] → s3 ≡ s2 ++ Enter i ∷ []
        → IsTaskDone tree n stack (Enter k) listed s3 listed
    done_two i j e s1 s2 s3 e1 e2 e3 = subst (λ s. IsTaskDone tree n stack (Enter k) listed s listed) (sym (e3 ∙ ap (λ s. s ++ Enter i ∷ []) (e2 ∙ ap (λ s. s ++ Enter j ∷ []) e1))) (record {
      tasks =
          All-push (λ t. task_number t < n) ((stack ++ Leave k ∷ []) ++ Enter j ∷ []) (Enter i)
          (All-push (λ t. task_number t < n) (stack ++ Leave k ∷ []) (Enter j) (All-push (λ t. task_number t < n) stack (Leave k) tasks inside) (part_inside j (subst (λ os. Has os j) (sym e) (inr (inl refl)))))
          (part_inside i (subst (λ os. Has os i) (sym e) (inl refl)));
      numbers = numbers;
      result =
          after_top tree ((stack ++ Leave k ∷ []) ++ Enter j ∷ []) (Enter i) (map tree listed)
          ∙ after_top tree (stack ++ Leave k ∷ []) (Enter j) (collect (map tree listed) (tree i))
          ∙ after_top tree stack (Leave k) (collect (collect (map tree listed) (tree i)) (tree j))
          ∙ ap (after_tasks tree stack) (entered (i ∷ j ∷ []) e);
      less =
          let b = work_push tree stack (Leave k) in
          let c = work_push tree (stack ++ Leave k ∷ []) (Enter j) in
          let d = work_push tree ((stack ++ Leave k ∷ []) ++ Enter j ∷ []) (Enter i) in
          let s = size_two tree (tree k) (tree i) (tree j) (graph.stands k inside ∙ ap (map tree) e) in
          omega arith;
    })

-- flags for what is listed

-- at first none is
pub flags_begin : (n : ℕ) (flags : List Bool) (listed : List ℕ) → flags ≡ replicate n false → listed ≡ [] → AreFlags flags listed
flags_begin n flags listed e f = subst (λ ks. AreFlags flags ks) (sym f) (subst (λ xs. AreFlags xs []) (sym e) (record { yes = λ k d l t. absurd (false≢true (sym (at n k d l) ∙ t)); no = λ k d l t h. h }))
  where
    at : (n k : ℕ) (d : Bool) → k < length (replicate n false) → slice_index_or (replicate n false) k d ≡ false
    at zero k d l = absurd (omega arith)
    at (suc n) zero d l = refl
    at (suc n) (suc k) d l = at n k d (omega arith)

-- listing one more sets its flag
pub flags_set : (flags : List Bool) (listed new_listed : List ℕ) (k : ℕ) → k < length flags → AreFlags flags listed → new_listed ≡ listed ++ k ∷ [] → AreFlags (slice_set flags k true) new_listed
flags_set flags listed new_listed k l f e = subst (AreFlags (slice_set flags k true)) (sym e) (record {
  yes = λ j d m t. elim (cases_eq j k) [
    | inl s ↦ append_right listed (k ∷ []) j (inl s)
    | inr o ↦ append_left listed (k ∷ []) j (f.yes j d (subst (λ x. j < x) (length-set flags k true) m) (sym (get_or-set_other flags k j true d o) ∙ t))
  ];
  no = λ j d m t h. elim (cases_eq j k) [
    | inl s ↦ false≢true (sym t ∙ ap (λ x. slice_index_or (slice_set flags k true) x d) s ∙ get_or-set_same flags k true d l)
    | inr o ↦ elim (append_cases listed (k ∷ []) j h) [
      | inl p ↦ f.no j d (subst (λ x. j < x) (length-set flags k true) m) (sym (get_or-set_other flags k j true d o) ∙ t) p
      | inr p ↦ elim p [ inl s ↦ o s | inr z ↦ z ]
    ]
  ];
})
