-- Changes of a program, step by step.
use Rattle.std.proofs.Common.{◌≡◌, ◌∙◌, ℕ, zero, suc, ◌+◌, ◌-◌, ◌<◌, ◌≤◌, Bool, true, false, ◌||◌, List, [], ◌∷◌, ◌++◌, map, length, slice_get, slice_index_or, slice_set, Option, Some, None, refl, sym, ap, arith}
use Rattle.std.specs.Prelude.{fold, Result, Ok, Err, ◌&&◌, if◌then◌else◌, nat_eq, codes, is_some, option_map, option_and_then}
use Rattle.std.specs.List.{list_all, list_any, starts_with}
use Rattle.std.specs.Map.{keys_of, lookup}
use Rattle.std.proofs.lemmas.Map.Made.{is_some-lookup}
use Rattle.indexmap.specs.IndexMap.{insert_entry}
use Rattle.ltl_spec.specs.Formulas.Tokens.{same_name}
use Rattle.ltl_claim.specs.ClaimStep.{has_otherwise}
use Rattle.std.proofs.lemmas.List.{append-nil, map-append}
use Rattle.std.proofs.lemmas.List.Sums.{fold-append}
use Rattle.ltl_spec.specs.Semantics.Word.{Name}
use Rattle.ltl_spec.specs.Claims.ClaimProgram.{First, Guard, Link, Go, Jump, Leave, Leaps, Both, Otherwise, Nothing, Statement, ClaimLabel}
use Rattle.ltl_spec.specs.Claims.ClaimMachine.{changed, Hole, AtStart, Nowhere, BehindStatement, WithinOption, Built, both_tested, change, gone, head_ended, is_label, is_otherwise, jumped, label_found, linked, may_leave, no_statement, one_tested, opened, option_begun, otherwise, stated, statement_at}
use Rattle.ltl_claim.specs.declared.program.NamedStep.{NamedStep}
use Rattle.ltl_claim.specs.ProgramView.{no_statement as no_view, is_otherwise as view_otherwise}
use Rattle.ltl_claim.specs.ProgramView.{Acts, BuiltView, KindView, TestKind, CheckKind, BothKind, OtherwiseKind, LeapKind, OptionView, StatementView, first_of, label_of, new_option, built_of, jump_made, new_statement, start_linked, statements_linked, with_link, with_option, with_statement, next_set, option_added, option_next_set, option_of, program_of, statement_of, StepView, ConstantStep, NameStep, NotStep, AndStep, OrStep, guards_of, step_of, with_step, topped, with_top}

pub mapped_length : {A B : Type 0} (f : A → B) (xs : List A) → length (map f xs) ≡ length xs
mapped_length f [] = refl
mapped_length f (x ∷ xs) = let e = mapped_length f xs in omega (arith, e)

-- ---- an element is changed

pub changed_set : {T : Type 0} (f : T → T) (i : ℕ) (xs : List T) (old new : T) → old ≡ slice_index_or xs i old → i < length xs → new ≡ f old → slice_set xs i new ≡ changed f i xs
changed_set f i [] old new o l e = absurd (omega arith)
changed_set f zero (x ∷ xs) old new o l e = ap (λ y. y ∷ xs) (e ∙ ap f o)
changed_set f (suc i) (x ∷ xs) old new o l e = ap (λ ys. x ∷ ys) (changed_set f i xs old new o (omega arith) e)

pub changed_past : {T : Type 0} (f : T → T) (i : ℕ) (xs : List T) → length xs ≤ i → changed f i xs ≡ xs
changed_past f i [] l = refl
changed_past f zero (x ∷ xs) l = absurd (omega arith)
changed_past f (suc i) (x ∷ xs) l = ap (λ ys. x ∷ ys) (changed_past f i xs (omega arith))

-- ---- the guards and the selections, one more

-- a step
pub guards_more : (steps : List NamedStep) (s : NamedStep) → guards_of (map step_of (steps ++ s ∷ [])) ≡ with_step (guards_of (map step_of steps)) (step_of s)
guards_more steps s = ap guards_of (map-append step_of steps (s ∷ [])) ∙ fold-append with_step [] (map step_of steps) (step_of s ∷ [])

-- no more guards than steps
step_longer : (gs : List Guard) (s : StepView) → length (with_step gs s) ≤ length gs + 1
step_longer gs (ConstantStep b) = omega arith
step_longer gs (NameStep n) = omega arith
step_longer [] NotStep = omega arith
step_longer (g ∷ gs) NotStep = omega arith
step_longer [] AndStep = omega arith
step_longer (g ∷ []) AndStep = omega arith
step_longer (h ∷ g ∷ gs) AndStep = omega arith
step_longer [] OrStep = omega arith
step_longer (g ∷ []) OrStep = omega arith
step_longer (h ∷ g ∷ gs) OrStep = omega arith

longer : (gs : List Guard) (ss : List StepView) → length (fold with_step gs ss) ≤ length gs + length ss
longer gs [] = omega arith
longer gs (s ∷ ss) = let h = longer (with_step gs s) ss in let k = step_longer gs s in omega (arith, h, k)

pub few_guards : (steps : List NamedStep) → length (guards_of (map step_of steps)) ≤ length steps
few_guards steps = let h = longer [] (map step_of steps) in let l = mapped_length step_of steps in omega (arith, h, l)

pub topped_more : (ns : List ℕ) (n : ℕ) → topped (ns ++ n ∷ []) ≡ n ∷ topped ns
topped_more ns n = fold-append with_top [] ns (n ∷ [])

last_of : (ns acc : List ℕ) (n : ℕ) → slice_get (fold with_top (n ∷ acc) ns) 0 ≡ slice_get (n ∷ ns) (length ns)
last_of [] acc n = refl
last_of (m ∷ ns) acc n = last_of ns (n ∷ acc) m

-- the innermost one is the last
pub top_last : (ns : List ℕ) → slice_get (topped ns) 0 ≡ slice_get ns (length ns - 1)
top_last [] = refl
top_last (n ∷ ns) = let e : length ns ≡ suc (length ns) - 1 = omega arith in last_of ns [] n ∙ ap (slice_get (n ∷ ns)) e

pub any_topped : (p : ℕ → Bool) (ns acc : List ℕ) → list_any p (fold with_top acc ns) ≡ (list_any p ns || list_any p acc)
any_topped p [] acc = refl
any_topped p (n ∷ ns) acc = any_topped p ns (n ∷ acc) ∙ swapped (p n) (list_any p ns) (list_any p acc)
  where
    swapped : (a b c : Bool) → (b || (a || c)) ≡ ((a || b) || c)
    swapped true true c = refl
    swapped true false c = refl
    swapped false b c = refl

-- ---- the definitions' program

-- a change of a statement as the definitions see it
pub changed_view : (f : StatementView → StatementView) (g : Statement → Statement) → ((s : StatementView) → statement_of (f s) ≡ g (statement_of s))
    → (i : ℕ) (ss : List StatementView) → map statement_of (changed f i ss) ≡ changed g i (map statement_of ss)
changed_view f g e i [] = refl
changed_view f g e zero (s ∷ ss) = ap (λ t. t ∷ map statement_of ss) (e s)
changed_view f g e (suc i) (s ∷ ss) = ap (λ ts. statement_of s ∷ ts) (changed_view f g e i ss)

changed_options : (k : Link) (j : ℕ) (os : List OptionView) → map option_of (changed (λ o. record o { next = k }) j os) ≡ changed (λ o. record o { next = k }) j (map option_of os)
changed_options k j [] = refl
changed_options k zero (o ∷ os) = refl
changed_options k (suc j) (o ∷ os) = ap (λ ps. option_of o ∷ ps) (changed_options k j os)

pub next_view : (k : Link) (i : ℕ) (ss : List StatementView) → map statement_of (changed (next_set k) i ss) ≡ changed (λ s. record s { next = k }) i (map statement_of ss)
next_view k i ss = changed_view (next_set k) (λ s. record s { next = k }) (λ s. refl) i ss

pub option_next_view : (k : Link) (j i : ℕ) (ss : List StatementView)
    → map statement_of (changed (option_next_set j k) i ss) ≡ changed (λ s. record s { options = changed (λ o. record o { next = k }) j s.options }) i (map statement_of ss)
option_next_view k j i ss =
    changed_view (option_next_set j k) (λ s. record s { options = changed (λ o. record o { next = k }) j s.options })
    (λ s. ap (λ os. record (statement_of s) { options = os }) (changed_options k j s.options)) i ss

pub option_added_view : (o : OptionView) (i : ℕ) (ss : List StatementView)
    → map statement_of (changed (option_added o) i ss) ≡ changed (λ s. record s { options = s.options ++ option_of o ∷ [] }) i (map statement_of ss)
option_added_view o i ss =
    changed_view (option_added o) (λ s. record s { options = s.options ++ option_of o ∷ [] })
    (λ s. ap (λ os. record (statement_of s) { options = os }) (map-append option_of s.options (o ∷ []))) i ss

-- what comes next is linked at the hole
pub linked_view : (names : List Name) (h : Hole) (k : Link) (v : BuiltView)
    → record (program_of names v) { start = start_linked h k v.start; statements = map statement_of (statements_linked h k v.statements) } ≡ linked h k (program_of names v)
linked_view names AtStart k v = refl
linked_view names Nowhere k v = refl
linked_view names (BehindStatement i) k v = ap (λ ss. record (program_of names v) { statements = ss }) (next_view k i v.statements)
linked_view names (WithinOption i j) k v = ap (λ ss. record (program_of names v) { statements = ss }) (option_next_view k j i v.statements)

-- a statement of the program
pub statement_view : (names : List Name) (v : BuiltView) (i : ℕ) → statement_at (program_of names v) i ≡ statement_of (slice_index_or v.statements i no_view)
statement_view names v i = mapped v.statements i
  where
    mapped : (ss : List StatementView) (i : ℕ) → slice_index_or (map statement_of ss) i no_statement ≡ statement_of (slice_index_or ss i no_view)
    mapped [] i = refl
    mapped (s ∷ ss) zero = refl
    mapped (s ∷ ss) (suc i) = mapped ss i

-- ---- what is done

module _ (names : List Name) (v : BuiltView) where
  abbrev b : Built
  b = built_of names v

  -- a jump in a list
  pub jump_view : (k : Link) → jump_made false k b ≡ Some (built_of names (record (with_link k v) { hole = Nowhere }))
  jump_view k = ap (λ p. Some (record b { hole = Nowhere; program = p })) (sym (linked_view names v.hole k v))

  -- a statement
  pub stated_view : (loops : Bool) (os : List OptionView) → stated loops (map option_of os) b ≡ built_of names (with_statement loops os v)
  stated_view loops os =
      ap (λ j. record b { hole = BehindStatement j; program = record (linked v.hole (Go j) b.program) { statements = (linked v.hole (Go j) b.program).statements ++ new ∷ [] } }) (mapped_length statement_of v.statements)
      ∙ ap (λ p. record b { hole = BehindStatement i; program = record p { statements = p.statements ++ new ∷ [] } }) (sym (linked_view names v.hole (Go i) v))
      ∙ ap (λ ss. record b { hole = BehindStatement i; program = record b.program { start = start_linked v.hole (Go i) v.start; statements = ss } })
      (sym (map-append statement_of (statements_linked v.hole (Go i) v.statements) (new_statement loops os v ∷ [])))
    where
      i : ℕ
      i = length v.statements

      new : Statement
      new = statement_of (new_statement loops os v)

  -- an option
  pub option_view : (o : OptionView) (i : ℕ) → o.next ≡ Nothing → slice_get (topped v.selections) 0 ≡ Some i → option_begun (option_of o).first b ≡ Some (built_of names (with_option i o v))
  option_view o i n e = go (topped v.selections) e
    where
      at : ℕ
      at = length (statement_at b.program i).options

      counted : at ≡ length (slice_index_or v.statements i no_view).options
      counted = ap (λ (s : Statement). length s.options) (statement_view names v i) ∙ mapped_length option_of (slice_index_or v.statements i no_view).options

      same : Some (record b { hole = WithinOption i at; program = change i (λ s. record s { options = s.options ++ record { first = (option_of o).first; next = Nothing } ∷ [] }) b.program })
          ≡ Some (built_of names (with_option i o v))
      same =
          ap (λ k. Some (record b { hole = WithinOption i at; program = change i (λ s. record s { options = s.options ++ record { first = (option_of o).first; next = k } ∷ [] }) b.program })) (sym n)
          ∙ ap (λ ss. Some (record b { hole = WithinOption i at; program = record b.program { statements = ss } })) (sym (option_added_view o i v.statements))
          ∙ ap (λ k. Some (record b { hole = WithinOption i k; program = record b.program { statements = map statement_of (changed (option_added o) i v.statements) } })) counted

      go : (is : List ℕ) → slice_get is 0 ≡ Some i → elim is [
        | [] ↦ None
        | j ∷ js ↦ Some (record b {
          hole = WithinOption j (length (statement_at b.program j).options);
          program = change j (λ s. record s { options = s.options ++ record { first = (option_of o).first; next = Nothing } ∷ [] }) b.program;
        })
      ] ≡ Some (built_of names (with_option i o v))
      go [] e = cc
      go (j ∷ js) e =
          let same_place : j ≡ i = cc in
          ap (λ k. Some (record b {
            hole = WithinOption k (length (statement_at b.program k).options);
            program = change k (λ s. record s { options = s.options ++ record { first = (option_of o).first; next = Nothing } ∷ [] }) b.program;
          })) same_place ∙ same

  pub no_option_view : (f : First) → slice_get (topped v.selections) 0 ≡ None → option_begun f b ≡ None
  no_option_view f e = go (topped v.selections) e
    where
      go : (is : List ℕ) → slice_get is 0 ≡ None → ◌≡◌ {A = Option Built} (elim is [
        | [] ↦ None
        | j ∷ js ↦ Some (record b {
          hole = WithinOption j (length (statement_at b.program j).options);
          program = change j (λ s. record s { options = s.options ++ record { first = f; next = Nothing } ∷ [] }) b.program;
        })
      ]) None
      go [] e = refl
      go (j ∷ js) e = cc

  -- a statement with one option
  pub head_view : (o : OptionView) → o.next ≡ Nothing → head_ended false (option_of o).first b ≡ Some (built_of names (with_statement false (o ∷ []) v))
  head_view o n =
      ap (λ k. Some (stated false (record { first = (option_of o).first; next = k } ∷ []) b)) (sym n) ∙ ap (λ (c : Built). Some c) (stated_view false (o ∷ []))

-- a jump whose words were noted
pub goto_acts : {E : Type 0} (inside : Bool) (l : Name) (v u w : BuiltView) (r : Result Bool E) → u ≡ record v { gotos = v.gotos ++ l ∷ [] }
    → Acts (jump_made inside (Jump l)) u r w → Acts (jumped inside (Jump l) (l ∷ [])) v r w
goto_acts true l v u w (Ok true) e a = λ names. ap (λ x. jump_made true (Jump l) (built_of names x)) (sym e) ∙ a names
goto_acts true l v u w (Ok false) e a = λ names. ap (λ x. jump_made true (Jump l) (built_of names x)) (sym e) ∙ a names
goto_acts false l v u w (Ok true) e a = λ names. ap (λ x. jump_made false (Jump l) (built_of names x)) (sym e) ∙ a names
goto_acts false l v u w (Ok false) e a = λ names. ap (λ x. jump_made false (Jump l) (built_of names x)) (sym e) ∙ a names
goto_acts inside l v u w (Err x) e a = tt

-- ---- what guards stand for

one_head : (inside : Bool) (f : Guard → First) (k : KindView) → ((g : Guard) → first_of k (g ∷ []) ≡ f g) → (b : Built) (gs : List Guard) → length gs ≡ 1
    → elim gs [ g ∷ hs ↦ head_ended inside (f g) (record b { guards = hs }) | _ ↦ None ] ≡ head_ended inside (first_of k gs) (record b { guards = [] })
one_head inside f k is b [] l = absurd (omega (arith, l))
one_head inside f k is b (g ∷ []) l = ap (λ h. head_ended inside h (record b { guards = [] })) (sym (is g))
one_head inside f k is b (g ∷ h ∷ gs) l = absurd (omega (arith, l))

both_head : (inside : Bool) (b : Built) (gs : List Guard) → length gs ≡ 2
    → elim gs [ h ∷ g ∷ hs ↦ head_ended inside (Both g h) (record b { guards = hs }) | _ ↦ None ] ≡ head_ended inside (first_of BothKind gs) (record b { guards = [] })
both_head inside b [] l = absurd (omega (arith, l))
both_head inside b (h ∷ []) l = absurd (omega (arith, l))
both_head inside b (h ∷ g ∷ []) l = refl
both_head inside b (h ∷ g ∷ i ∷ gs) l = absurd (omega (arith, l))

module _ {E : Type 0} (inside : Bool) (v u w : BuiltView) (steps : List StepView) (r : Result Bool E) (o : OptionView) (e : u ≡ record v { steps = [] }) (s : steps ≡ v.steps) where
  ended : (k : KindView) (names : List Name) → o ≡ new_option k steps
      → head_ended inside (first_of k (guards_of v.steps)) (record (built_of names v) { guards = [] }) ≡ head_ended inside (option_of o).first (built_of names u)
  ended k names q = (λ i. head_ended inside (first_of k (guards_of (sym s i))) (built_of names (sym e i))) ∙ ap (λ p. head_ended inside (option_of p).first (built_of names u)) (sym q)

  -- one guard
  pub one_acts : (f : Guard → First) (k : KindView) → ((g : Guard) → first_of k (g ∷ []) ≡ f g) → o ≡ new_option k steps → length (guards_of v.steps) ≡ 1
      → Acts (head_ended inside (option_of o).first) u r w → Acts (one_tested f inside) v r w
  one_acts f k is q l a = go r a
    where
      go : (p : Result Bool E) → Acts (head_ended inside (option_of o).first) u p w → Acts (one_tested f inside) v p w
      go (Ok true) a = λ names. one_head inside f k is (built_of names v) (guards_of v.steps) l ∙ ended k names q ∙ a names
      go (Ok false) a = λ names. one_head inside f k is (built_of names v) (guards_of v.steps) l ∙ ended k names q ∙ a names
      go (Err x) a = tt

  -- two guards
  pub both_acts : o ≡ new_option BothKind steps → length (guards_of v.steps) ≡ 2 → Acts (head_ended inside (option_of o).first) u r w → Acts (both_tested inside) v r w
  both_acts q l a = go r a
    where
      go : (p : Result Bool E) → Acts (head_ended inside (option_of o).first) u p w → Acts (both_tested inside) v p w
      go (Ok true) a = λ names. both_head inside (built_of names v) (guards_of v.steps) l ∙ ended BothKind names q ∙ a names
      go (Ok false) a = λ names. both_head inside (built_of names v) (guards_of v.steps) l ∙ ended BothKind names q ∙ a names
      go (Err x) a = tt

-- ---- what is looked up

pub labels_view : {X : Type 0} (name : X → Name) (test : X → Bool) (l : Name) → ((x : X) → test x ≡ same_name l (name x)) → (es : List (X × ℕ))
    → is_some (lookup test es) ≡ is_label l (map (label_of name) es)
labels_view {X} name test l is es = is_some-lookup test es ∙ go es
  where
    both : {a b c d : Bool} → a ≡ b → c ≡ d → (a || c) ≡ (b || d)
    both e f = λ i. e i || f i

    go : (es : List (X × ℕ)) → list_any test (keys_of es) ≡ is_label l (map (label_of name) es)
    go [] = refl
    go (e ∷ es) = both (is e.0) (go es)

pub all_view : {X : Type 0} (name : X → Name) (p : Name → Bool) (ns : List X) → list_all (λ n. p (name n)) ns ≡ list_all p (map name ns)
all_view name p [] = refl
all_view name p (n ∷ ns) = ap (λ b. p (name n) && b) (all_view name p ns)

-- a new label goes last
pub label_last : {X : Type 0} (name : X → Name) (eq : X → X → Bool) → ((x y : X) → eq x y ≡ same_name (name x) (name y)) → (es : List (X × ℕ)) (k : X) (v : ℕ)
    → is_label (name k) (map (label_of name) es) ≡ false → map (label_of name) (insert_entry eq es k v) ≡ map (label_of name) es ++ record { name = name k; statement = v } ∷ []
label_last name eq is [] k v h = refl
label_last {X} name eq is (e ∷ es) k v h = go (label_last name eq is es k v) (eq k e.0) (same_name (name k) (name e.0)) (is k e.0) h
  where
    go : (is_label (name k) (map (label_of name) es) ≡ false → map (label_of name) (insert_entry eq es k v) ≡ map (label_of name) es ++ record { name = name k; statement = v } ∷ [])
        → (b c : Bool) → b ≡ c → (c || is_label (name k) (map (label_of name) es)) ≡ false
        → map (label_of name) (if b then (e.0, v) ∷ es else e ∷ insert_entry eq es k v) ≡ label_of name e ∷ (map (label_of name) es ++ record { name = name k; statement = v } ∷ [])
    go rest true true q h = cc
    go rest true false q h = cc
    go rest false true q h = cc
    go rest false false q h = ap (λ ls. label_of name e ∷ ls) (rest h)

pub label_acts : (names : List Name) (v : BuiltView) (l : Name) (new : List ClaimLabel) → is_label l v.labels ≡ false → starts_with nat_eq l (codes "end") ≡ false
    → new ≡ v.labels ++ record { name = l; statement = length v.statements } ∷ [] → label_found l (built_of names v) ≡ Some (built_of names (record v { labels = new }))
label_acts names v l new f g e =
    ap (λ c. if c || starts_with nat_eq l (codes "end") then None else made (length (map statement_of v.statements))) f
    ∙ ap (λ c. if c then None else made (length (map statement_of v.statements))) g
    ∙ ap made (mapped_length statement_of v.statements)
    ∙ ap (λ ls. Some (built_of names (record v { labels = ls }))) (sym e)
  where
    made : ℕ → Option Built
    made n = Some (built_of names (record v { labels = v.labels ++ record { name = l; statement = n } ∷ [] }))

or_false : (b : Bool) → (b || false) ≡ b
or_false true = refl
or_false false = refl

pub may_leave_view : (names : List Name) (v : BuiltView) → list_any (λ i. (slice_index_or v.statements i no_view).loops) v.selections ≡ may_leave Leave (built_of names v)
may_leave_view names v =
    sym (or_false (list_any (λ i. (slice_index_or v.statements i no_view).loops) v.selections))
    ∙ sym (any_topped (λ i. (slice_index_or v.statements i no_view).loops) v.selections [])
    ∙ (λ j. list_any (λ i. (sym (statement_view names v i) j).loops) (topped v.selections))

abbrev otherwise_first : First → Bool
otherwise_first f = elim f [ Otherwise ↦ true | _ ↦ false ]

abbrev otherwise_kind : KindView → Bool
otherwise_kind k = elim k [ OtherwiseKind ↦ true | _ ↦ false ]

otherwise_option : (k : KindView) (gs : List Guard) → otherwise_first (first_of k gs) ≡ otherwise_kind k
otherwise_option TestKind [] = refl
otherwise_option TestKind (g ∷ gs) = refl
otherwise_option CheckKind [] = refl
otherwise_option CheckKind (g ∷ gs) = refl
otherwise_option BothKind [] = refl
otherwise_option BothKind (g ∷ []) = refl
otherwise_option BothKind (h ∷ g ∷ gs) = refl
otherwise_option OtherwiseKind gs = refl
otherwise_option (LeapKind k) gs = refl

pub otherwise_view : (names : List Name) (v : BuiltView) (i : ℕ) → list_any view_otherwise (slice_index_or v.statements i no_view).options ≡ list_any is_otherwise (statement_at (program_of names v) i).options
otherwise_view names v i = go (slice_index_or v.statements i no_view).options ∙ ap (λ (s : Statement). list_any is_otherwise s.options) (sym (statement_view names v i))
  where
    go : (os : List OptionView) → list_any view_otherwise os ≡ list_any is_otherwise (map option_of os)
    go [] = refl
    go (o ∷ os) = λ j. sym (otherwise_option o.kind (guards_of o.steps)) j || go os j

-- ---- more actions

pub otherwise_acts : {E : Type 0} (v w : BuiltView) (r : Result Bool E) (o : OptionView) (steps : List StepView) → o ≡ new_option OtherwiseKind steps
    → ((names : List Name) → has_otherwise (built_of names v) ≡ false) → Acts (option_begun (option_of o).first) v r w → Acts otherwise v r w
otherwise_acts {E} v w r o steps e n a = go r a
  where
    begun : (names : List Name) → otherwise (built_of names v) ≡ option_begun (option_of o).first (built_of names v)
    begun names =
        ap (λ b. if b then None else option_begun Otherwise (built_of names v)) (n names) ∙ ap (λ p. option_begun (option_of p).first (built_of names v)) (sym e)

    go : (p : Result Bool E) → Acts (option_begun (option_of o).first) v p w → Acts otherwise v p w
    go (Ok true) a = λ names. begun names ∙ a names
    go (Ok false) a = λ names. begun names ∙ a names
    go (Err x) a = tt

pub leave_acts : {E : Type 0} (inside : Bool) (v w : BuiltView) (r : Result Bool E) (t : Bool) → t ≡ true → ((names : List Name) → t ≡ may_leave Leave (built_of names v))
    → Acts (jump_made inside Leave) v r w → Acts (jumped inside Leave []) v r w
leave_acts {E} inside v w r t n m a = go inside r a
  where
    made : (names : List Name) → gone Leave [] (built_of names v) ≡ Some (built_of names v)
    made names =
        ap (λ b. if b then Some (built_of names (record v { gotos = v.gotos ++ [] })) else None) (sym (m names) ∙ n)
        ∙ ap (λ gs. Some (built_of names (record v { gotos = gs }))) (append-nil v.gotos)

    begun : (i : Bool) (names : List Name) → jumped i Leave [] (built_of names v) ≡ jump_made i Leave (built_of names v)
    begun true names = ap (λ o. option_and_then (option_begun (Leaps Leave)) o) (made names)
    begun false names = ap (λ o. option_map (λ (c : Built). record c { hole = Nowhere; program = linked c.hole Leave c.program }) o) (made names)

    go : (i : Bool) (p : Result Bool E) → Acts (jump_made i Leave) v p w → Acts (jumped i Leave []) v p w
    go i (Ok true) a = λ names. begun i names ∙ a names
    go i (Ok false) a = λ names. begun i names ∙ a names
    go i (Err x) a = tt

pub opened_view : (names : List Name) (v : BuiltView) (loops : Bool) → opened loops (built_of names v) ≡ Some (built_of names (record (with_statement loops [] v) { selections = v.selections ++ length v.statements ∷ [] }))
opened_view names v loops =
    (λ i. Some (record (stated_view names v loops [] i) { selections = mapped_length statement_of v.statements i ∷ topped v.selections }))
    ∙ ap (λ s. Some (record (built_of names (with_statement loops [] v)) { selections = s })) (sym (topped_more v.selections (length v.statements)))
