-- The program of a text is sound: its links lead to statements or to the end, and its guards have names of its list, which are propositions.
use Rattle.std.proofs.Common.{◌≡◌, ℕ, zero, suc, ◌+◌, ◌<◌, ◌≤◌, Bool, true, false, ◌&&◌, ◌||◌, inl, inr, List, [], ◌∷◌, ◌++◌, length, Option, Some, None, refl, sym, ◌∙◌, ap, subst, arith, nat_eq, length-append}
use Rattle.std.specs.Prelude.{if◌then◌else◌, flat_map, fold, find, slice_get, slice_index_or, option_map, option_and_then, unwrap_or, IfSome, ⊤, codes}
use Rattle.std.specs.List.{AllByRecursion, list_all, list_any, starts_with}
use Rattle.std.proofs.lemmas.Option.{same_Some}
use Rattle.ltl_spec.specs.Collections.Sets.{Has}
use Rattle.ltl_spec.specs.Semantics.Word.{Name}
use Rattle.ltl_spec.specs.Formulas.Tokens.{same_name}
use Rattle.ltl_spec.specs.Formulas.Names.{is_proposition}
use Rattle.ltl_spec.specs.Claims.ClaimTokens.{ClaimToken, Word, Truth, Never, Assert, Atomic, Do, Od, If, Fi, Goto, Break, Else, OpenBrace, CloseBrace, OpenBracket, CloseBracket, OptionSign, Colon, Separator, NotSign, AndSign, OrSign, claim_tokens}
use Rattle.ltl_spec.specs.Claims.ClaimProgram.{Guard, Constant, Named, Not, And, Or, Link, Go, Jump, Leave, Nothing, First, Test, Check, Both, Otherwise, Leaps, ClaimOption, Statement, ClaimLabel, Program}
use Rattle.ltl_spec.specs.Claims.ClaimMachine.{Hole, AtStart, Nowhere, BehindStatement, WithinOption, Built, changed, change, no_statement, statement_at, linked, pushed, named, negated, joined, stated, option_begun, head_ended, one_tested, both_tested, is_label, label_found, may_leave, gone, jumped, is_otherwise, otherwise, opened, closed, Symbol, Title, AnItem, AStatement, Another, More, Options, AFirst, AGuard, AnOperand, Conjunct, Disjunct, Separators, InNever, InAssert, InFi, InOd, InOpenBrace, InCloseBrace, InOpenBracket, InCloseBracket, InColon, May, JumpTo, Now, may_be_left_out, with_more, operand, guard, head, statement, item, behind, Sofar, take_token, begins_colon, taken_all, at_first, ended, claim_program}
use Rattle.ltl_spec.specs.Claims.ClaimMeaning.{end, program_names, labelled, nearest, follow, leads, enabled, one_of}
use Rattle.ltl_spec.proofs.Collections.ListLaws.{Has-first_occurrences, first_occurrences_cases}
use Rattle.ltl_spec.proofs.Collections.MemberLaws.{all_Decides, all_append, flat_map_cases}
use Rattle.ltl_spec.proofs.Collections.SetLaws.{append_cases, append_left, append_right}
use Rattle.ltl_spec.proofs.Formulas.NameLaws.{same_name_Decides}
use Rattle.ltl_claim.specs.ClaimView.{same_guard, made_moves, statement_moves}
use Rattle.ltl_claim_hoa.proofs.DocumentLaws.{IsNamed, IsSound}

-- ---- fine programs, with so many statements and these names

abbrev LinkIn : ℕ → Link → Type 0
LinkIn n (Go i) = i ≤ n
LinkIn n k = ⊤

abbrev FirstIn : List Name → ℕ → First → Type 0
FirstIn names n (Test g) = IsNamed names g
FirstIn names n (Check g) = IsNamed names g
FirstIn names n (Both g h) = IsNamed names g × IsNamed names h
FirstIn names n Otherwise = ⊤
FirstIn names n (Leaps k) = LinkIn n k

abbrev OptionIn : List Name → ℕ → ClaimOption → Type 0
OptionIn names n o = FirstIn names n o.first × LinkIn n o.next

record StatementIn (names : List Name) (n : ℕ) (s : Statement) : Type 0 where
  around : IfSome s.around (λ j. j ≤ n)
  options : (o : ClaimOption) → Has s.options o → OptionIn names n o
  next : LinkIn n s.next

abbrev Within : List Name → List Name → Type 0
Within names more = (x : Name) → Has names x → Has more x

module _ (names more : List Name) (n m : ℕ) (w : Within names more) (l : n ≤ m) where
  link_grows : (k : Link) → LinkIn n k → LinkIn m k
  link_grows (Go i) h = omega (arith, l, h)
  link_grows k h = tt

  guard_grows : (g : Guard) → IsNamed names g → IsNamed more g
  guard_grows (Constant b) h = tt
  guard_grows (Named x) h = w x h
  guard_grows (Not g) h = guard_grows g h
  guard_grows (And g k) h = (guard_grows g h.0, guard_grows k h.1)
  guard_grows (Or g k) h = (guard_grows g h.0, guard_grows k h.1)

  first_grows : (f : First) → FirstIn names n f → FirstIn more m f
  first_grows (Test g) h = guard_grows g h
  first_grows (Check g) h = guard_grows g h
  first_grows (Both g k) h = (guard_grows g h.0, guard_grows k h.1)
  first_grows Otherwise h = tt
  first_grows (Leaps k) h = link_grows k h

  around_grows : (o : Option ℕ) → IfSome o (λ j. j ≤ n) → IfSome o (λ j. j ≤ m)
  around_grows None h = tt
  around_grows (Some j) h = omega (arith, l, h)

  statement_grows : (s : Statement) → StatementIn names n s → StatementIn more m s
  statement_grows s h = record {
    around = around_grows s.around h.around;
    options = λ o k. let p = h.options o k in (first_grows o.first p.0, link_grows o.next p.1);
    next = link_grows s.next h.next;
  }

record ProgramIn (names : List Name) (n : ℕ) (p : Program) : Type 0 where
  start : LinkIn n p.start
  statements : (s : Statement) → Has p.statements s → StatementIn names n s
  labels : (x : ClaimLabel) → Has p.labels x → x.statement ≤ n

record IsFine (b : Built) : Type 0 where
  guards : (g : Guard) → Has b.guards g → IsNamed b.program.names g
  selections : (i : ℕ) → Has b.selections i → i ≤ length b.program.statements
  program : ProgramIn b.program.names (length b.program.statements) b.program
  names : list_all is_proposition b.program.names ≡ true

-- ---- changes

changed_length : {K : Type 0} (f : K → K) (i : ℕ) (xs : List K) → length (changed f i xs) ≡ length xs
changed_length f i [] = refl
changed_length f zero (x ∷ xs) = refl
changed_length f (suc i) (x ∷ xs) = ap suc (changed_length f i xs)

changed_all : {K : Type 0} (Q : K → Type 0) (f : K → K) → ((x : K) → Q x → Q (f x)) → (i : ℕ) (xs : List K) → ((x : K) → Has xs x → Q x) → (x : K) → Has (changed f i xs) x → Q x
changed_all Q f g i [] h x m = absurd m
changed_all Q f g zero (y ∷ ys) h x (inl e) = subst Q (sym e) (g y (h y (inl refl)))
changed_all Q f g zero (y ∷ ys) h x (inr m) = h x (inr m)
changed_all Q f g (suc i) (y ∷ ys) h x (inl e) = h x (inl e)
changed_all Q f g (suc i) (y ∷ ys) h x (inr m) = changed_all Q f g i ys (λ z k. h z (inr k)) x m

module _ (names : List Name) (n : ℕ) where
  change_fine : (i : ℕ) (f : Statement → Statement) (p : Program) → ((s : Statement) → StatementIn names n s → StatementIn names n (f s)) → ProgramIn names n p → ProgramIn names n (change i f p)
  change_fine i f p g h = record { start = h.start; statements = changed_all (StatementIn names n) f g i p.statements h.statements; labels = h.labels }

  linked_fine : (hole : Hole) (k : Link) (p : Program) → LinkIn n k → ProgramIn names n p → ProgramIn names n (linked hole k p)
  linked_fine AtStart k p l h = record { start = l; statements = h.statements; labels = h.labels }
  linked_fine Nowhere k p l h = h
  linked_fine (BehindStatement i) k p l h = change_fine i (λ s. record s { next = k }) p (λ s q. record { around = q.around; options = q.options; next = l }) h
  linked_fine (WithinOption i j) k p l h =
      change_fine i (λ s. record s { options = changed (λ o. record o { next = k }) j s.options }) p (λ s q.
      record { around = q.around; options = changed_all (OptionIn names n) (λ o. record o { next = k }) (λ o r. (r.0, l)) j s.options q.options; next = q.next }) h

linked_same : (hole : Hole) (k : Link) (p : Program) → (length (linked hole k p).statements ≡ length p.statements) × ((linked hole k p).names ≡ p.names) × ((linked hole k p).labels ≡ p.labels)
linked_same AtStart k p = (refl, refl, refl)
linked_same Nowhere k p = (refl, refl, refl)
linked_same (BehindStatement i) k p = (changed_length (λ s. record s { next = k }) i p.statements, refl, refl)
linked_same (WithinOption i j) k p = (changed_length (λ s. record s { options = changed (λ o. record o { next = k }) j s.options }) i p.statements, refl, refl)

-- ---- actions

first_selection : (is : List ℕ) (n : ℕ) → ((i : ℕ) → Has is i → i ≤ n) → IfSome (slice_get is 0) (λ j. j ≤ n)
first_selection [] n h = tt
first_selection (i ∷ is) n h = h i (inl refl)

-- a statement more, with fine options
stated_fine : (loops : Bool) (options : List ClaimOption) (b : Built) → ((o : ClaimOption) → Has options o → OptionIn b.program.names (length b.program.statements) o) → IsFine b
    → IsFine (stated loops options b) × (length (stated loops options b).program.statements ≡ length b.program.statements + 1)
stated_fine loops options b f h =
    let n = length b.program.statements in
    let q = linked b.hole (Go n) b.program in
    let same = linked_same b.hole (Go n) b.program in
    let names = b.program.names in
    let fine = linked_fine names n b.hole (Go n) b.program (omega arith) h.program in
    let s : Statement = record { around = slice_get b.selections 0; loops = loops; options = options; next = Nothing } in
    let long : length (q.statements ++ s ∷ []) ≡ n + 1 = length-append q.statements (s ∷ []) ∙ ap (λ k. k + 1) same.0 in
    let within : Within names q.names = λ x m. subst (λ xs. Has xs x) (sym same.1) m in
    let up : n ≤ length (q.statements ++ s ∷ []) = subst (λ k. n ≤ k) (sym long) (omega arith) in
    let one : StatementIn names n s = record { around = first_selection b.selections n h.selections; options = f; next = tt } in (
      record {
        guards = λ g m. guard_grows names q.names n _ within up g (h.guards g m);
        selections = λ i m. let a = h.selections i m in omega (arith, a, up);
        program = record {
          start = link_grows names q.names n _ within up q.start fine.start;
          statements = λ x m. elim (append_cases q.statements (s ∷ []) x m) [
            | inl k ↦ statement_grows names q.names n _ within up x (fine.statements x k)
            | inr k ↦ elim k [ inl e ↦ statement_grows names q.names n _ within up x (subst (StatementIn names n) (sym e) one) | inr e ↦ absurd e ]
          ];
          labels = λ x m. let a = fine.labels x m in omega (arith, a, up);
        };
        names = ap (list_all is_proposition) same.1 ∙ h.names;
      },
      long,
    )

-- an option more
option_fine : (first : First) (b c : Built) → FirstIn b.program.names (length b.program.statements) first → IsFine b → option_begun first b ≡ Some c → IsFine c
option_fine first b c f h e = go b.selections refl e
  where
    n : ℕ
    n = length b.program.statements

    o : ClaimOption
    o = record { first = first; next = Nothing }

    more : (i : ℕ) (is : List ℕ) → Built
    more i is = record b {
      hole = WithinOption i (length (statement_at b.program i).options);
      program = change i (λ s. record s { options = s.options ++ record { first = first; next = Nothing } ∷ [] }) b.program;
    }

    fine : (i : ℕ) (is : List ℕ) → IsFine (more i is)
    fine i is =
        let long : length (changed (λ (s : Statement). record s { options = s.options ++ o ∷ [] }) i b.program.statements) ≡ n = changed_length (λ s. record s { options = s.options ++ o ∷ [] }) i b.program.statements in
        record {
          guards = h.guards;
          selections = λ j m. subst (λ k. j ≤ k) (sym long) (h.selections j m);
          program = subst (λ k. ProgramIn b.program.names k (more i is).program) (sym long)
              (change_fine b.program.names n i (λ s. record s { options = s.options ++ o ∷ [] }) b.program (λ s q. record {
                around = q.around;
                options = λ x m. elim (append_cases s.options (o ∷ []) x m) [
                  | inl k ↦ q.options x k
                  | inr k ↦ elim k [ inl d ↦ subst (OptionIn b.program.names n) (sym d) (f, tt) | inr d ↦ absurd d ]
                ];
                next = q.next;
              }) h.program);
          names = h.names;
        }

    go : (is : List ℕ) → b.selections ≡ is → ◌≡◌ {A = Option Built} (elim is [
      | [] ↦ None
      | i ∷ is ↦ Some (record b {
        hole = WithinOption i (length (statement_at b.program i).options);
        program = change i (λ s. record s { options = s.options ++ record { first = first; next = Nothing } ∷ [] }) b.program;
      })
    ]) (Some c) → IsFine c
    go [] q e = cc
    go (i ∷ is) q e = subst IsFine (same_Some _ c e) (fine i is)

head_fine : (inside : Bool) (first : First) (b c : Built) → FirstIn b.program.names (length b.program.statements) first → IsFine b → head_ended inside first b ≡ Some c → IsFine c
head_fine true first b c f h e = option_fine first b c f h e
head_fine false first b c f h e =
    subst IsFine (same_Some _ c e)
    (stated_fine false (record { first = first; next = Nothing } ∷ []) b (λ o m. elim m [ inl d ↦ subst (OptionIn b.program.names (length b.program.statements)) (sym d) (f, tt) | inr d ↦ absurd d ]) h).0

abbrev Keeps : (Built → Option Built) → Type 0
Keeps f = (b c : Built) → IsFine b → f b ≡ Some c → IsFine c

with_guards : (b : Built) (gs : List Guard) → ((g : Guard) → Has gs g → IsNamed b.program.names g) → IsFine b → IsFine (record b { guards = gs })
with_guards b gs f h = record { guards = f; selections = h.selections; program = h.program; names = h.names }

pushed_fine : (v : Bool) → Keeps (pushed (Constant v))
pushed_fine v b c h e = subst IsFine (same_Some _ c e) (with_guards b (Constant v ∷ b.guards) (λ g m. elim m [ inl d ↦ subst (IsNamed b.program.names) (sym d) tt | inr d ↦ h.guards g d ]) h)

named_fine : (x : Name) → is_proposition x ≡ true → Keeps (named x)
named_fine x p b c h e =
    let names = b.program.names in
    let more = names ++ x ∷ [] in
    let n = length b.program.statements in
    let within : Within names more = append_left names (x ∷ []) in
    let up : n ≤ n = omega arith in
    subst IsFine (same_Some _ c e) (record {
      guards = λ g m. elim m [ inl d ↦ subst (IsNamed more) (sym d) (append_right names (x ∷ []) x (inl refl)) | inr d ↦ guard_grows names more n n within up g (h.guards g d) ];
      selections = h.selections;
      program = record { start = h.program.start; statements = λ s m. statement_grows names more n n within up s (h.program.statements s m); labels = h.program.labels };
      names = all_append is_proposition names (x ∷ []) h.names (ap (λ t. t && true) p);
    })

negated_fine : Keeps negated
negated_fine b c h e = go b.guards refl e
  where
    go : (gs : List Guard) → b.guards ≡ gs → ◌≡◌ {A = Option Built} (elim gs [ [] ↦ None | g ∷ gs ↦ Some (record b { guards = Not g ∷ gs }) ]) (Some c) → IsFine c
    go [] q e = cc
    go (g ∷ gs) q e =
        let has : (x : Guard) → Has (g ∷ gs) x → IsNamed b.program.names x = λ x m. h.guards x (subst (λ ys. Has ys x) (sym q) m) in
        subst IsFine (same_Some _ c e)
        (with_guards b (Not g ∷ gs) (λ x m. elim m [ inl d ↦ subst (IsNamed b.program.names) (sym d) (has g (inl refl)) | inr d ↦ has x (inr d) ]) h)

joined_fine : (f : Guard → Guard → Guard) → ((names : List Name) (g k : Guard) → IsNamed names g → IsNamed names k → IsNamed names (f g k)) → Keeps (joined f)
joined_fine f w b c h e = go b.guards refl e
  where
    go : (gs : List Guard) → b.guards ≡ gs → ◌≡◌ {A = Option Built} (elim gs [ h ∷ g ∷ gs ↦ Some (record b { guards = f g h ∷ gs }) | _ ↦ None ]) (Some c) → IsFine c
    go [] q e = cc
    go (k ∷ []) q e = cc
    go (k ∷ g ∷ gs) q e =
        let has : (x : Guard) → Has (k ∷ g ∷ gs) x → IsNamed b.program.names x = λ x m. h.guards x (subst (λ ys. Has ys x) (sym q) m) in
        subst IsFine (same_Some _ c e)
        (with_guards b (f g k ∷ gs) (λ x m. elim m [ inl d ↦ subst (IsNamed b.program.names) (sym d) (w b.program.names g k (has g (inr (inl refl))) (has k (inl refl))) | inr d ↦ has x (inr (inr d)) ]) h)

one_fine : (f : Guard → First) → ((names : List Name) (n : ℕ) (g : Guard) → IsNamed names g → FirstIn names n (f g)) → (inside : Bool) → Keeps (one_tested f inside)
one_fine f w inside b c h e = go b.guards refl e
  where
    go : (gs : List Guard) → b.guards ≡ gs → ◌≡◌ {A = Option Built} (elim gs [ g ∷ gs ↦ head_ended inside (f g) (record b { guards = gs }) | _ ↦ None ]) (Some c) → IsFine c
    go [] q e = cc
    go (g ∷ gs) q e =
        let has : (x : Guard) → Has (g ∷ gs) x → IsNamed b.program.names x = λ x m. h.guards x (subst (λ ys. Has ys x) (sym q) m) in
        head_fine inside (f g) (record b { guards = gs }) c (w b.program.names (length b.program.statements) g (has g (inl refl))) (with_guards b gs (λ x m. has x (inr m)) h) e

both_fine : (inside : Bool) → Keeps (both_tested inside)
both_fine inside b c h e = go b.guards refl e
  where
    go : (gs : List Guard) → b.guards ≡ gs → ◌≡◌ {A = Option Built} (elim gs [ h ∷ g ∷ gs ↦ head_ended inside (Both g h) (record b { guards = gs }) | _ ↦ None ]) (Some c) → IsFine c
    go [] q e = cc
    go (k ∷ []) q e = cc
    go (k ∷ g ∷ gs) q e =
        let has : (x : Guard) → Has (k ∷ g ∷ gs) x → IsNamed b.program.names x = λ x m. h.guards x (subst (λ ys. Has ys x) (sym q) m) in
        head_fine inside (Both g k) (record b { guards = gs }) c (has g (inr (inl refl)), has k (inl refl)) (with_guards b gs (λ x m. has x (inr (inr m))) h) e

label_fine : (l : Name) → Keeps (label_found l)
label_fine l b c h e = go (is_label l b.program.labels || starts_with nat_eq l (codes "end")) e
  where
    new : ClaimLabel
    new = record { name = l; statement = length b.program.statements }

    go : (t : Bool) → ◌≡◌ {A = Option Built} (if t then None else Some (record b { program = record (b.program) { labels = b.program.labels ++ record { name = l; statement = length b.program.statements } ∷ [] } })) (Some c) → IsFine c
    go true e = cc
    go false e = subst IsFine (same_Some _ c e) (record {
      guards = h.guards;
      selections = h.selections;
      program = record {
        start = h.program.start;
        statements = h.program.statements;
        labels = λ x m. elim (append_cases b.program.labels (new ∷ []) x m) [
          | inl k ↦ h.program.labels x k
          | inr k ↦ elim k [ inl d ↦ subst (λ (y : ClaimLabel). y.statement ≤ length b.program.statements) (sym d) (omega arith) | inr d ↦ absurd d ]
        ];
      };
      names = h.names;
    })

gone_fine : (k : Link) (words : List Name) → Keeps (gone k words)
gone_fine k words b c h e = go (may_leave k b) e
  where
    go : (t : Bool) → ◌≡◌ {A = Option Built} (if t then Some (record b { program = record (b.program) { gotos = b.program.gotos ++ words } }) else None) (Some c) → IsFine c
    go false e = cc
    go true e = subst IsFine (same_Some _ c e) (record {
      guards = h.guards;
      selections = h.selections;
      program = record { start = h.program.start; statements = h.program.statements; labels = h.program.labels };
      names = h.names;
    })

jumped_fine : (inside : Bool) (k : Link) (words : List Name) → ((n : ℕ) → LinkIn n k) → Keeps (jumped inside k words)
jumped_fine true k words l b c h e = go (gone k words b) refl e
  where
    go : (o : Option Built) → gone k words b ≡ o → option_and_then (option_begun (Leaps k)) o ≡ Some c → IsFine c
    go None q e = cc
    go (Some d) q e = option_fine (Leaps k) d c (l (length d.program.statements)) (gone_fine k words b d h q) e
jumped_fine false k words l b c h e = go (gone k words b) refl e
  where
    moved : (d : Built) → IsFine d → IsFine (record d { hole = Nowhere; program = linked d.hole k d.program })
    moved d f =
        let same = linked_same d.hole k d.program in
        let names = d.program.names in
        let n = length d.program.statements in
        let within : Within names (linked d.hole k d.program).names = λ x m. subst (λ xs. Has xs x) (sym same.1) m in
        let up : n ≤ length (linked d.hole k d.program).statements = subst (λ j. n ≤ j) (sym same.0) (omega arith) in
        let fine = linked_fine names n d.hole k d.program (l n) f.program in
        record {
          guards = λ g m. guard_grows names _ n _ within up g (f.guards g m);
          selections = λ i m. let a = f.selections i m in omega (arith, a, up);
          program = record {
            start = link_grows names (linked d.hole k d.program).names n _ within up (linked d.hole k d.program).start fine.start;
            statements = λ s m. statement_grows names _ n _ within up s (fine.statements s m);
            labels = λ x m. let a = fine.labels x m in omega (arith, a, up);
          };
          names = ap (list_all is_proposition) same.1 ∙ f.names;
        }

    go : (o : Option Built) → gone k words b ≡ o → option_map (λ (c : Built). record c { hole = Nowhere; program = linked c.hole k c.program }) o ≡ Some c → IsFine c
    go None q e = cc
    go (Some d) q e = subst IsFine (same_Some _ c e) (moved d (gone_fine k words b d h q))

otherwise_fine : Keeps otherwise
otherwise_fine b c h e = go (list_any is_otherwise (statement_at b.program (unwrap_or (slice_get b.selections 0) 0)).options) e
  where
    go : (t : Bool) → (if t then None else option_begun Otherwise b) ≡ Some c → IsFine c
    go true e = cc
    go false e = option_fine Otherwise b c tt h e

opened_fine : (loops : Bool) → Keeps (opened loops)
opened_fine loops b c h e =
    let n = length b.program.statements in
    let (f, long) = stated_fine loops [] b (λ o m. absurd m) h in
    subst IsFine (same_Some _ c e) (record {
      guards = f.guards;
      selections = λ i m. elim m [ inl d ↦ subst (λ j. j ≤ length (stated loops [] b).program.statements) (sym d) (subst (λ k. n ≤ k) (sym long) (omega arith)) | inr d ↦ f.selections i d ];
      program = f.program;
      names = f.names;
    })

closed_fine : Keeps closed
closed_fine b c h e = go b.selections refl e
  where
    go : (is : List ℕ) → b.selections ≡ is → ◌≡◌ {A = Option Built} (elim is [ [] ↦ None | i ∷ is ↦ Some (record b { selections = is; hole = BehindStatement i }) ]) (Some c) → IsFine c
    go [] q e = cc
    go (i ∷ is) q e =
        subst IsFine (same_Some _ c e) (record { guards = h.guards; selections = λ j m. h.selections j (subst (λ ys. Has ys j) (sym q) (inr m)); program = h.program; names = h.names })

-- ---- symbols

abbrev SymbolKeeps : Symbol → Type 0
SymbolKeeps (Now f) = Keeps f
SymbolKeeps s = ⊤

abbrev AllKeep : List Symbol → Type 0
AllKeep ss = AllByRecursion SymbolKeeps ss

both_keep : (ss ts : List Symbol) → AllKeep ss → AllKeep ts → AllKeep (ss ++ ts)
both_keep [] ts a b = b
both_keep (s ∷ ss) ts a b = (a.0, both_keep ss ts a.1 b)

-- what comes keeps programs fine
abbrev Comes : Option (List Symbol) → Type 0
Comes o = (more : List Symbol) → o ≡ Some more → AllKeep more

none_comes : Comes None
none_comes more e = cc

these_come : (ss : List Symbol) → AllKeep ss → Comes (Some ss)
these_come ss a more e = subst AllKeep (same_Some ss more e) a

more_come : (ss : List Symbol) (o : Option (List Symbol)) → AllKeep ss → Comes o → Comes (with_more ss o)
more_come ss None a f = none_comes
more_come ss (Some ts) a f = these_come (ts ++ ss) (both_keep ts ss (f ts refl) a)

and_named : (names : List Name) (g k : Guard) → IsNamed names g → IsNamed names k → IsNamed names (And g k)
and_named names g k a b = (a, b)

or_named : (names : List Name) (g k : Guard) → IsNamed names g → IsNamed names k → IsNamed names (Or g k)
or_named names g k a b = (a, b)

operand_comes : (t : ClaimToken) → Comes (operand t)
operand_comes NotSign = these_come (AnOperand ∷ Now negated ∷ []) (tt, (negated_fine, tt))
operand_comes OpenBracket = these_come (AGuard ∷ InCloseBracket ∷ []) (tt, (tt, tt))
operand_comes (Truth v) = these_come (Now (pushed (Constant v)) ∷ []) (pushed_fine v, tt)
operand_comes (Word x) = go (is_proposition x) refl
  where
    go : (t : Bool) → is_proposition x ≡ t → Comes (if t then Some (Now (named x) ∷ []) else None)
    go true e = these_come (Now (named x) ∷ []) (named_fine x e, tt)
    go false e = none_comes
operand_comes _ = none_comes

guard_comes : (t : ClaimToken) → Comes (guard t)
guard_comes t = more_come (May Conjunct ∷ May Disjunct ∷ []) (operand t) (tt, (tt, tt)) (operand_comes t)

test_comes : (inside : Bool) (t : ClaimToken) → Comes (with_more (Now (one_tested Test inside) ∷ []) (guard t))
test_comes inside t = more_come (Now (one_tested Test inside) ∷ []) (guard t) (one_fine Test (λ names n g h. h) inside, tt) (guard_comes t)

head_comes : (inside : Bool) (t : ClaimToken) → Comes (head inside t)
head_comes inside Assert = these_come (InOpenBracket ∷ AGuard ∷ InCloseBracket ∷ Now (one_tested Check inside) ∷ []) (tt, (tt, (tt, (one_fine Check (λ names n g h. h) inside, tt))))
head_comes inside Atomic =
    these_come (InOpenBrace ∷ AGuard ∷ Separators ∷ InAssert ∷ InOpenBracket ∷ AGuard ∷ InCloseBracket ∷ May Separators ∷ InCloseBrace ∷ Now (both_tested inside) ∷ [])
    (tt, (tt, (tt, (tt, (tt, (tt, (tt, (tt, (tt, (both_fine inside, tt))))))))))
head_comes inside t = test_comes inside t

statement_comes : (labels : Bool) (t : ClaimToken) → Comes (statement labels t)
statement_comes true (Word l) = these_come (InColon ∷ Now (label_found l) ∷ AStatement ∷ []) (tt, (label_fine l, (tt, tt)))
statement_comes labels If = these_come (Now (opened false) ∷ Options ∷ InFi ∷ Now closed ∷ []) (opened_fine false, (tt, (tt, (closed_fine, tt))))
statement_comes labels Do = these_come (Now (opened true) ∷ Options ∷ InOd ∷ Now closed ∷ []) (opened_fine true, (tt, (tt, (closed_fine, tt))))
statement_comes labels t = head_comes false t

item_comes : (labels : Bool) (t : ClaimToken) → Comes (item labels t)
item_comes labels Goto = these_come (JumpTo false ∷ []) (tt, tt)
item_comes labels Break = these_come (Now (jumped false Leave []) ∷ []) (jumped_fine false Leave [] (λ n. tt), tt)
item_comes labels t = statement_comes labels t

behind_comes : (labels : Bool) (s : Symbol) (t : ClaimToken) → Comes (behind labels s t)
behind_comes labels (May s) t = behind_comes labels s t
behind_comes labels Title (Word w) = these_come (InOpenBrace ∷ []) (tt, tt)
behind_comes labels Title OpenBrace = these_come [] tt
behind_comes labels AnItem t = item_comes labels t
behind_comes labels AStatement t = statement_comes labels t
behind_comes labels More Separator = these_come (May Another ∷ []) (tt, tt)
behind_comes labels Another Separator = these_come (May Another ∷ []) (tt, tt)
behind_comes labels Another t = more_come (May More ∷ []) (item labels t) (tt, tt) (item_comes labels t)
behind_comes labels Options OptionSign = these_come (AFirst ∷ May More ∷ May Options ∷ []) (tt, (tt, (tt, tt)))
behind_comes labels AFirst Goto = these_come (JumpTo true ∷ []) (tt, tt)
behind_comes labels AFirst Break = these_come (Now (jumped true Leave []) ∷ []) (jumped_fine true Leave [] (λ n. tt), tt)
behind_comes labels AFirst Else = these_come (Now otherwise ∷ []) (otherwise_fine, tt)
behind_comes labels AFirst t = head_comes true t
behind_comes labels (JumpTo inside) (Word l) = these_come (Now (jumped inside (Jump l) (l ∷ [])) ∷ []) (jumped_fine inside (Jump l) (l ∷ []) (λ n. tt), tt)
behind_comes labels AGuard t = guard_comes t
behind_comes labels AnOperand t = operand_comes t
behind_comes labels Conjunct AndSign = these_come (AnOperand ∷ Now (joined And) ∷ May Conjunct ∷ []) (tt, (joined_fine And and_named, (tt, tt)))
behind_comes labels Disjunct OrSign = these_come (AnOperand ∷ May Conjunct ∷ Now (joined Or) ∷ May Disjunct ∷ []) (tt, (tt, (joined_fine Or or_named, (tt, tt))))
behind_comes labels Separators Separator = these_come (May Separators ∷ []) (tt, tt)
behind_comes labels InNever Never = these_come [] tt
behind_comes labels InAssert Assert = these_come [] tt
behind_comes labels InFi Fi = these_come [] tt
behind_comes labels InOd Od = these_come [] tt
behind_comes labels InOpenBrace OpenBrace = these_come [] tt
behind_comes labels InCloseBrace CloseBrace = these_come [] tt
behind_comes labels InOpenBracket OpenBracket = these_come [] tt
behind_comes labels InCloseBracket CloseBracket = these_come [] tt
behind_comes labels InColon Colon = these_come [] tt
behind_comes labels s t = none_comes

-- ---- texts

abbrev Good : Sofar → Type 0
Good s = AllKeep s.symbols × IsFine s.built

module _ (labels : Bool) (t : ClaimToken) where
  abbrev Taken : List Symbol → Built → Type 0
  Taken symbols b = (s : Sofar) → take_token labels t symbols b ≡ Some s → Good s

  acted : (f : Built → Option Built) (symbols : List Symbol) (b : Built) → Keeps f → IsFine b → ((c : Built) → IsFine c → Taken symbols c) → Taken (Now f ∷ symbols) b
  acted f symbols b k h rest s e = go (f b) refl e
    where
      go : (o : Option Built) → f b ≡ o → ◌≡◌ {A = Option Sofar} (elim o [ Some c ↦ take_token labels t symbols c | None ↦ None ]) (Some s) → Good s
      go None q e = cc
      go (Some c) q e = rest c (k b c h q) s e

  other : (x : Symbol) (symbols : List Symbol) (b : Built) → AllKeep symbols → IsFine b → Taken symbols b → (s : Sofar) → ◌≡◌ {A = Option Sofar} (elim (behind labels x t) [
    | Some more ↦ Some (record { symbols = more ++ symbols; built = b })
    | None ↦ if may_be_left_out x then take_token labels t symbols b else None
  ]) (Some s) → Good s
  other x symbols b a h rest s e = go (behind labels x t) (behind_comes labels x t) e
    where
      left : (may : Bool) → (if may then take_token labels t symbols b else None) ≡ Some s → Good s
      left true e = rest s e
      left false e = cc

      go : (o : Option (List Symbol)) → Comes o → ◌≡◌ {A = Option Sofar} (elim o [
        | Some more ↦ Some (record { symbols = more ++ symbols; built = b })
        | None ↦ if may_be_left_out x then take_token labels t symbols b else None
      ]) (Some s) → Good s
      go (Some more) f e = subst Good (same_Some _ s e) (both_keep more symbols (f more refl) a, h)
      go None f e = left (may_be_left_out x) e

  take_good : (symbols : List Symbol) (b : Built) → AllKeep symbols → IsFine b → Taken symbols b
  take_good [] b a h s e = cc
  take_good (Now f ∷ symbols) b a h s e = acted f symbols b a.0 h (λ c k. take_good symbols c a.1 k) s e
  take_good (x ∷ symbols) b a h s e = other x symbols b a.1 h (take_good symbols b a.1 h) s e

taken_good : (ts : List ClaimToken) (s r : Sofar) → Good s → taken_all (Some s) ts ≡ Some r → Good r
taken_good [] s r h e = subst Good (same_Some s r e) h
taken_good (t ∷ ts) s r h e = go (take_token (begins_colon ts) t s.symbols s.built) (take_good (begins_colon ts) t s.symbols s.built h.0 h.1) (λ c k. taken_good ts c r k) e
  where
    go : (o : Option Sofar) → ((c : Sofar) → o ≡ Some c → Good c) → ((c : Sofar) → Good c → taken_all (Some c) ts ≡ Some r → Good r) → taken_all o ts ≡ Some r → Good r
    go None f k e = absurd (none ts e)
      where
        none : (us : List ClaimToken) → taken_all None us ≡ Some r → ⊥
        none [] e = cc
        none (u ∷ us) e = cc
    go (Some c) f k e = k c (f c refl) e

first_good : Good at_first
first_good = (
  (tt, (tt, (tt, (tt, (tt, tt))))),
  record {
    guards = λ g m. absurd m;
    selections = λ i m. absurd m;
    program = record { start = tt; statements = λ s m. absurd m; labels = λ x m. absurd m };
    names = refl;
  },
)

-- the program of a text is fine
abbrev IsFineProgram : Program → Type 0
IsFineProgram P = ProgramIn P.names (end P) P × (list_all is_proposition P.names ≡ true)

program_fine : (text : List ℕ) (P : Program) → claim_program text ≡ Some P → IsFineProgram P
program_fine text P e = go (taken_all (Some at_first) (claim_tokens text)) (λ r q. taken_good (claim_tokens text) at_first r first_good q) e
  where
    labelled_all : (t : Bool) (p : Program) → (if t then Some p else None) ≡ Some P → p ≡ P
    labelled_all true p e = same_Some p P e
    labelled_all false p e = cc

    finished : (ss : List Symbol) (b : Built) → IsFine b → ended ss b.program ≡ Some P → IsFineProgram P
    finished [] b h e = subst IsFineProgram (labelled_all (list_all (λ l. is_label l b.program.labels) b.program.gotos) b.program e) (h.program, h.names)
    finished (s ∷ ss) b h e = cc

    go : (o : Option Sofar) → ((r : Sofar) → o ≡ Some r → Good r) → option_and_then (λ (s : Sofar). ended s.symbols s.built.program) o ≡ Some P → IsFineProgram P
    go None f e = cc
    go (Some r) f e = finished r.symbols r.built (f r refl).1 e

-- ---- its moves

at_all : {K : Type 0} (Q : K → Type 0) (d : K) → Q d → (xs : List K) (i : ℕ) → ((x : K) → Has xs x → Q x) → Q (slice_index_or xs i d)
at_all Q d q [] zero h = q
at_all Q d q [] (suc i) h = q
at_all Q d q (x ∷ xs) zero h = h x (inl refl)
at_all Q d q (x ∷ xs) (suc i) h = at_all Q d q xs i (λ y m. h y (inr m))

found_there : {K : Type 0} (p : K → Bool) (xs : List K) (Q : K → Type 0) → ((x : K) → Has xs x → Q x) → IfSome (find p xs) Q
found_there p [] Q h = tt
found_there p (x ∷ xs) Q h = go (p x) (found_there p xs Q (λ y m. h y (inr m)))
  where
    go : (b : Bool) → IfSome (find p xs) Q → IfSome (if b then Some x else find p xs) Q
    go true k = h x (inl refl)
    go false k = k

module _ (P : Program) (fine : IsFineProgram P) where
  names : List Name
  names = P.names

  statement_good : (i : ℕ) → StatementIn P.names (end P) (statement_at P i)
  statement_good i = at_all (StatementIn P.names (end P)) no_statement (record { around = tt; options = λ o m. absurd m; next = tt }) P.statements i fine.0.statements

  labelled_in : (l : Name) → labelled P l ≤ end P
  labelled_in l = go (find (λ x. same_name l x.name) P.labels) (found_there (λ x. same_name l x.name) P.labels (λ x. x.statement ≤ end P) fine.0.labels)
    where
      go : (o : Option ClaimLabel) → IfSome o (λ x. x.statement ≤ end P) → unwrap_or (option_map (λ x. x.statement) o) (end P) ≤ end P
      go None h = omega arith
      go (Some x) h = h

  follow_in : (n : ℕ) (k : Link) (c : Option ℕ) → LinkIn (end P) k → IfSome c (λ i. i ≤ end P) → follow P n k c ≤ end P
  follow_in n (Go i) c l h = l
  follow_in n (Jump x) c l h = labelled_in x
  follow_in n Leave None l h = omega arith
  follow_in n Nothing None l h = omega arith
  follow_in zero Leave (Some i) l h = omega arith
  follow_in zero Nothing (Some i) l h = omega arith
  follow_in (suc n) Nothing (Some i) l h = go (statement_at P i).loops (follow_in n (statement_at P i).next (statement_at P i).around (statement_good i).next (statement_good i).around)
    where
      go : (b : Bool) → follow P n (statement_at P i).next (statement_at P i).around ≤ end P → (if b then i else follow P n (statement_at P i).next (statement_at P i).around) ≤ end P
      go true k = h
      go false k = k
  follow_in (suc n) Leave (Some i) l h =
      let j = nearest P n i in
      follow_in n (statement_at P j).next (statement_at P j).around (statement_good j).next (statement_good j).around

  abbrev MoveIn : Guard × ℕ → Type 0
  MoveIn m = IsNamed P.names m.0 × (m.1 ≤ end P)

  abbrev MovesIn : List (Guard × ℕ) → Type 0
  MovesIn ms = (m : Guard × ℕ) → Has ms m → MoveIn m

  one_in : (m : Guard × ℕ) → MoveIn m → MovesIn (m ∷ [])
  one_in m h x (inl e) = subst MoveIn (sym e) h
  one_in m h x (inr k) = absurd k

  two_in : (m n : Guard × ℕ) → MoveIn m → MoveIn n → MovesIn (m ∷ n ∷ [])
  two_in m n h k x (inl e) = subst MoveIn (sym e) h
  two_in m n h k x (inr q) = one_in n k x q

  end_in : end P ≤ end P
  end_in = omega arith

  -- a guard under which an `else` is taken
  enabled_named : (f : First) → FirstIn P.names (end P) f → (g : Guard) → Has (enabled P f) g → IsNamed P.names g
  enabled_named (Test g) h x (inl e) = subst (IsNamed P.names) (sym e) h
  enabled_named (Test g) h x (inr m) = absurd m
  enabled_named (Both g k) h x (inl e) = subst (IsNamed P.names) (sym e) h.0
  enabled_named (Both g k) h x (inr m) = absurd m
  enabled_named Otherwise h x m = absurd m
  enabled_named (Check g) h x (inl e) = subst (IsNamed P.names) (sym e) tt
  enabled_named (Check g) h x (inr m) = absurd m
  enabled_named (Leaps k) h x (inl e) = subst (IsNamed P.names) (sym e) tt
  enabled_named (Leaps k) h x (inr m) = absurd m

  sum_named : (gs : List Guard) (g : Guard) → IsNamed P.names g → ((x : Guard) → Has gs x → IsNamed P.names x) → IsNamed P.names (fold Or g gs)
  sum_named [] g h f = h
  sum_named (k ∷ gs) g h f = sum_named gs (Or g k) (h, f k (inl refl)) (λ x m. f x (inr m))

  one_of_named : (gs : List Guard) → ((x : Guard) → Has gs x → IsNamed P.names x) → IsNamed P.names (one_of P gs)
  one_of_named [] f = tt
  one_of_named (g ∷ gs) f = sum_named gs g (f g (inl refl)) (λ x m. f x (inr m))

  made_in : (i t : ℕ) (first : First) → t ≤ end P → IfSome (Some i) (λ j. j ≤ end P) → FirstIn P.names (end P) first → MovesIn (made_moves P i first t)
  made_in i t (Test g) l a h = one_in (g, t) (h, l)
  made_in i t (Check g) l a h = two_in (g, t) (Not g, end P) (h, l) (h, end_in)
  made_in i t (Both g k) l a h = go (same_guard k (Not g))
    where
      go : (b : Bool) → MovesIn (if b then (g, end P) ∷ [] else (And g k, t) ∷ (And g (Not k), end P) ∷ [])
      go true = one_in (g, end P) (h.0, end_in)
      go false = two_in (And g k, t) (And g (Not k), end P) (h, l) (h, end_in)
  made_in i t Otherwise l a h =
      one_in (Not (one_of P (flat_map (λ o. enabled P o.first) (statement_at P i).options)), t) (
        one_of_named (flat_map (λ o. enabled P o.first) (statement_at P i).options) (λ g m.
            let (o, n, q) = flat_map_cases (λ (o : ClaimOption). enabled P o.first) (statement_at P i).options g m in
            enabled_named o.first ((statement_good i).options o n).0 g q),
        l,
      )
  made_in i t (Leaps k) l a h = one_in (Constant true, leads P k (Some i)) (tt, follow_in (suc (end P)) k (Some i) h a)

  moves_in : (i : ℕ) → i < end P → MovesIn (statement_moves P i)
  moves_in i l m h =
      let (o, n, q) = flat_map_cases (λ (o : ClaimOption). made_moves P i o.first (leads P o.next (Some i))) (statement_at P i).options m h in
      let good = (statement_good i).options o n in
      let inside : i ≤ end P = omega (arith, l) in
      made_in i (leads P o.next (Some i)) o.first (follow_in (suc (end P)) o.next (Some i) good.1 inside) inside good.0 m q

  -- the names where they first stand
  first_named : (g : Guard) → IsNamed P.names g → IsNamed (program_names P) g
  first_named g h = guard_grows P.names (program_names P) 0 0 (λ x m. Has-first_occurrences same_name same_name_Decides P.names x m) (omega arith) g h

  program_sound : IsSound P
  program_sound = record {
    inside = record { start = follow_in (suc (end P)) P.start None fine.0.start tt; moves = λ i m l h. (moves_in i l m h).1 };
    named = λ i m l h. first_named m.0 (moves_in i l m h).0;
    propositions = (all_Decides is_proposition (program_names P)).1 (λ x m. (all_Decides is_proposition P.names).0 fine.1 x (first_occurrences_cases same_name same_name_Decides P.names x m));
  }

-- the program of a text is sound
pub read_sound : (text : List ℕ) (P : Program) → claim_program text ≡ Some P → IsSound P
read_sound text P e = program_sound P (program_fine text P e)
