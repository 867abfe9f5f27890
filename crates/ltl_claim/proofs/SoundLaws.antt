-- The program of a claim is sound: each step of the grammar keeps it so.
use Rattle.std.proofs.Common.{◌≡◌, ◌∙◌, ℕ, zero, suc, ◌+◌, ◌<◌, ◌≤◌, Bool, true, false, ◌||◌, ◌&&◌, List, [], ◌∷◌, ◌++◌, length, Option, Some, None, IfSome, refl, sym, ap, subst, arith, inl, inr}
use Rattle.std.specs.Prelude.{option_map, option_and_then, unwrap_or, slice_get, slice_index_or, if◌then◌else◌, ⊤, codes, nat_eq, ◌⊎◌}
use Rattle.std.specs.List.{list_all, list_any, starts_with}
use Rattle.std.proofs.lemmas.List.{get_or_past, length_push}
use Rattle.ltl_spec.specs.Semantics.Word.{Name}
use Rattle.ltl_spec.specs.Collections.Sets.{Has}
use Rattle.ltl_spec.specs.Formulas.Names.{is_proposition}
use Rattle.ltl_spec.specs.Claims.ClaimTokens.{ClaimToken, Word, Truth, Never, Assert, Atomic, Do, Od, If, Fi, Goto, Break, Else, OpenBrace, CloseBrace, OpenBracket, CloseBracket, OptionSign, Colon, Separator, NotSign, AndSign, OrSign, claim_tokens}
use Rattle.ltl_spec.specs.Claims.ClaimProgram.{Guard, Constant, Named, Not, And, Or, Link, Go, Jump, Leave, Nothing, First, Test, Check, Both, Otherwise, Leaps, ClaimOption, Statement, ClaimLabel, Program}
use Rattle.ltl_spec.specs.Claims.ClaimMachine.{Hole, AtStart, Nowhere, BehindStatement, WithinOption, Built, Sofar, Symbol, Title, AnItem, AStatement, Another, More, Options, AFirst, AGuard, AnOperand, Conjunct, Disjunct, Separators, InNever, InAssert, InFi, InOd, InOpenBrace, InCloseBrace, InOpenBracket, InCloseBracket, InColon, May, JumpTo, Now, at_first, behind, begins_colon, both_tested, change, changed, claim_program, closed, ended, gone, guard, head, head_ended, is_label, is_otherwise, item, joined, jumped, label_found, linked, may_be_left_out, may_leave, named, negated, no_statement, one_tested, opened, operand, option_begun, otherwise, pushed, stated, statement, statement_at, take_token, taken_all, with_more}
use Rattle.ltl_spec.proofs.Collections.SetLaws.{append_left, append_right}
use Rattle.ltl_claim.specs.Soundness.{AllFrom, AllOf, IsFirstWithin, IsGuardOver, IsLinkWithin, IsOptionWithin, IsProgramWithin, IsSound, IsStatementWithin}

-- ---- lists

module _ {X : Type 0} where
  all_imply : (Q R : ℕ → X → Type 0) → ((i : ℕ) (x : X) → Q i x → R i x) → (n : ℕ) (xs : List X) → AllFrom Q n xs → AllFrom R n xs
  all_imply Q R f n [] a = tt
  all_imply Q R f n (x ∷ xs) a = (f n x a.0, all_imply Q R f (n + 1) xs a.1)

  pub of_imply : (Q R : X → Type 0) → ((x : X) → Q x → R x) → (xs : List X) → AllOf Q xs → AllOf R xs
  of_imply Q R f [] a = tt
  of_imply Q R f (x ∷ xs) a = (f x a.0, of_imply Q R f xs a.1)

  of_push : (Q : X → Type 0) (xs : List X) (x : X) → AllOf Q xs → Q x → AllOf Q (xs ++ x ∷ [])
  of_push Q [] x a q = (q, tt)
  of_push Q (y ∷ ys) x a q = (a.0, of_push Q ys x a.1 q)

  pub of_append : (Q : X → Type 0) (xs ys : List X) → AllOf Q xs → AllOf Q ys → AllOf Q (xs ++ ys)
  of_append Q [] ys a b = b
  of_append Q (x ∷ xs) ys a b = (a.0, of_append Q xs ys a.1 b)

  of_changed : (Q : X → Type 0) (f : X → X) → ((x : X) → Q x → Q (f x)) → (j : ℕ) (xs : List X) → AllOf Q xs → AllOf Q (changed f j xs)
  of_changed Q f k j [] a = tt
  of_changed Q f k zero (x ∷ xs) a = (k x a.0, a.1)
  of_changed Q f k (suc j) (x ∷ xs) a = (a.0, of_changed Q f k j xs a.1)

  of_first : (Q : X → Type 0) (xs : List X) → AllOf Q xs → IfSome (slice_get xs 0) Q
  of_first Q [] a = tt
  of_first Q (x ∷ xs) a = a.0

  module _ (Q : ℕ → X → Type 0) where
    all_push : (n : ℕ) (xs : List X) (x : X) → AllFrom Q n xs → Q (n + length xs) x → AllFrom Q n (xs ++ x ∷ [])
    all_push n [] x a q = (subst (λ i. Q i x) (none n) q, tt)
      where
        none : (n : ℕ) → n + 0 ≡ n
        none n = omega arith
    all_push n (y ∷ ys) x a q = (a.0, all_push (n + 1) ys x a.1 (subst (λ i. Q i x) (shift n (length ys)) q))
      where
        shift : (n m : ℕ) → n + suc m ≡ n + 1 + m
        shift n m = omega arith

    all_changed : (f : X → X) → ((i : ℕ) (x : X) → Q i x → Q i (f x)) → (j n : ℕ) (xs : List X) → AllFrom Q n xs → AllFrom Q n (changed f j xs)
    all_changed f k j n [] a = tt
    all_changed f k zero n (x ∷ xs) a = (k n x a.0, a.1)
    all_changed f k (suc j) n (x ∷ xs) a = (a.0, all_changed f k j (n + 1) xs a.1)

    pub all_at : (n i : ℕ) (d : X) (xs : List X) → AllFrom Q n xs → i < length xs → Q (n + i) (slice_index_or xs i d)
    all_at n i d [] a l = absurd (omega (arith, l))
    all_at n zero d (x ∷ xs) a l = subst (λ j. Q j x) (none n) a.0
      where
        none : (n : ℕ) → n ≡ n + 0
        none n = omega arith
    all_at n (suc i) d (x ∷ xs) a l = subst (λ j. Q j (slice_index_or xs i d)) (shift n i) (all_at (n + 1) i d xs a.1 (omega (arith, l)))
      where
        shift : (n m : ℕ) → n + 1 + m ≡ n + suc m
        shift n m = omega arith

pub changed_length : {X : Type 0} (f : X → X) (j : ℕ) (xs : List X) → length (changed f j xs) ≡ length xs
changed_length f j [] = refl
changed_length f zero (x ∷ xs) = refl
changed_length f (suc j) (x ∷ xs) = ap suc (changed_length f j xs)

all_names : (p : Name → Bool) (ns : List Name) (n : Name) → list_all p ns ≡ true → p n ≡ true → list_all p (ns ++ n ∷ []) ≡ true
all_names p [] n a e = ap (λ b. b && true) e
all_names p (m ∷ ns) n a e = go (p m) (list_all p ns) (list_all p (ns ++ n ∷ [])) (λ h. all_names p ns n h e) a
  where
    go : (a b c : Bool) → (b ≡ true → c ≡ true) → (a && b) ≡ true → (a && c) ≡ true
    go true b c f h = f h
    go false b c f h = h

-- ---- more names, and more statements

link_more : (n m : ℕ) → n ≤ m → (k : Link) → IsLinkWithin n k → IsLinkWithin m k
link_more n m l (Go i) h = omega (arith, h, l)
link_more n m l (Jump x) h = tt
link_more n m l Leave h = tt
link_more n m l Nothing h = tt

module _ (names more : List Name) (sub : (x : Name) → Has names x → Has more x) where
  guard_more : (g : Guard) → IsGuardOver names g → IsGuardOver more g
  guard_more (Constant b) h = tt
  guard_more (Named n) h = sub n h
  guard_more (Not g) h = guard_more g h
  guard_more (And g k) h = (guard_more g h.0, guard_more k h.1)
  guard_more (Or g k) h = (guard_more g h.0, guard_more k h.1)

  module _ (n m : ℕ) (l : n ≤ m) where
    first_more : (f : First) → IsFirstWithin names n f → IsFirstWithin more m f
    first_more (Test g) h = guard_more g h
    first_more (Check g) h = guard_more g h
    first_more (Both g k) h = (guard_more g h.0, guard_more k h.1)
    first_more Otherwise h = tt
    first_more (Leaps k) h = link_more n m l k h

    option_more : (o : ClaimOption) → IsOptionWithin names n o → IsOptionWithin more m o
    option_more o h = (first_more o.first h.0, link_more n m l o.next h.1)

    statement_more : (i : ℕ) (s : Statement) → IsStatementWithin names n i s → IsStatementWithin more m i s
    statement_more i s h = (h.0, of_imply (IsOptionWithin names n) (IsOptionWithin more m) option_more s.options h.1, link_more n m l s.next h.2)

program_more : (n m : ℕ) → n ≤ m → (P : Program) → IsProgramWithin n P → IsProgramWithin m P
program_more n m l P p = record {
  start = link_more n m l P.start p.start;
  statements = all_imply (IsStatementWithin P.names n) (IsStatementWithin P.names m) (statement_more P.names P.names (λ x h. h) n m l) 0 P.statements p.statements;
  labels = of_imply (λ l. l.statement ≤ n) (λ l. l.statement ≤ m) (λ x h. omega (arith, h, l)) P.labels p.labels;
  names = p.names;
}

-- ---- what is built

pub record IsBuilt (b : Built) : Type 0 where
  pub n : ℕ
  pub count : length b.program.statements ≡ n
  pub program : IsProgramWithin n b.program
  pub guards : AllOf (IsGuardOver b.program.names) b.guards
  pub selections : AllOf (λ i. i < n) b.selections

abbrev pub Keeps : (Built → Option Built) → Type 0
Keeps f = (b : Built) → IsBuilt b → IfSome (f b) IsBuilt

module _ (n : ℕ) (k : Link) (l : IsLinkWithin n k) where
  linked_within : (h : Hole) (P : Program) → IsProgramWithin n P → IsProgramWithin n (linked h k P)
  linked_within AtStart P p = record { start = l; statements = p.statements; labels = p.labels; names = p.names }
  linked_within Nowhere P p = p
  linked_within (BehindStatement i) P p = record {
    start = p.start;
    statements = all_changed (IsStatementWithin P.names n) (λ s. record s { next = k }) (λ j s h. (h.0, h.1, l)) i 0 P.statements p.statements;
    labels = p.labels;
    names = p.names;
  }
  linked_within (WithinOption i j) P p = record {
    start = p.start;
    statements =
        all_changed (IsStatementWithin P.names n) (λ s. record s { options = changed (λ o. record o { next = k }) j s.options })
        (λ m s h. (h.0, of_changed (IsOptionWithin P.names n) (λ o. record o { next = k }) (λ o q. (q.0, l)) j s.options h.1, h.2)) i 0 P.statements p.statements;
    labels = p.labels;
    names = p.names;
  }

pub linked_length : (h : Hole) (k : Link) (P : Program) → length (linked h k P).statements ≡ length P.statements
linked_length AtStart k P = refl
linked_length Nowhere k P = refl
linked_length (BehindStatement i) k P = changed_length (λ s. record s { next = k }) i P.statements
linked_length (WithinOption i j) k P = changed_length (λ s. record s { options = changed (λ o. record o { next = k }) j s.options }) i P.statements

linked_names : (h : Hole) (k : Link) (P : Program) → (linked h k P).names ≡ P.names
linked_names AtStart k P = refl
linked_names Nowhere k P = refl
linked_names (BehindStatement i) k P = refl
linked_names (WithinOption i j) k P = refl

pub from_zero : (n : ℕ) → n ≡ 0 + n
from_zero n = omega arith

-- a statement is added
module _ (loops : Bool) (os : List ClaimOption) (b : Built) (s : IsBuilt b) (h : AllOf (IsOptionWithin b.program.names (s.n + 1)) os) where
  abbrev before : Program
  before = b.program

  abbrev after : Program
  after = linked b.hole (Go (length before.statements)) before

  abbrev new : Statement
  new = record { around = slice_get b.selections 0; loops = loops; options = os; next = Nothing }

  long : length after.statements ≡ s.n
  long = linked_length b.hole (Go (length before.statements)) before ∙ s.count

  same_names : after.names ≡ before.names
  same_names = linked_names b.hole (Go (length before.statements)) before

  linked_so : IsProgramWithin (s.n + 1) after
  linked_so = let e = s.count in linked_within (s.n + 1) (Go (length before.statements)) (omega (arith, e)) b.hole before (program_more s.n (s.n + 1) (omega arith) before s.program)

  around : IfSome (slice_get b.selections 0) (λ c. c < length after.statements)
  around = of_first (λ c. c < length after.statements) b.selections (of_imply (λ c. c < s.n) (λ c. c < length after.statements) (λ c l. omega (arith, l, long)) b.selections s.selections)

  abbrev stated_built : IsBuilt (stated loops os b)
  stated_built = record {
    n = s.n + 1;
    count = let k = length_push after.statements new in omega (arith, k, long);
    program = record {
      start = linked_so.start;
      statements = all_push (IsStatementWithin after.names (s.n + 1)) 0 after.statements new linked_so.statements
          (subst (λ i. IfSome (slice_get b.selections 0) (λ c. c < i)) (from_zero (length after.statements)) around, subst (λ ns. AllOf (IsOptionWithin ns (s.n + 1)) os) (sym same_names) h, tt);
      labels = linked_so.labels;
      names = linked_so.names;
    };
    guards = subst (λ ns. AllOf (IsGuardOver ns) b.guards) (sym same_names) s.guards;
    selections = of_imply (λ c. c < s.n) (λ c. c < s.n + 1) (λ c l. omega (arith, l)) b.selections s.selections;
  }

-- an option is begun
option_built : (first : First) (b : Built) (s : IsBuilt b) → IsFirstWithin b.program.names s.n first → IfSome (option_begun first b) IsBuilt
option_built first b s h = go b.selections
  where
    o : ClaimOption
    o = record { first = first; next = Nothing }

    add : Statement → Statement
    add t = record t { options = t.options ++ o ∷ [] }

    made : ℕ → Hole → Built
    made i at = record b { hole = at; program = change i add b.program }

    built : (i : ℕ) (at : Hole) → IsBuilt (made i at)
    built i at = record {
      n = s.n;
      count = changed_length add i b.program.statements ∙ s.count;
      program = record {
        start = s.program.start;
        statements =
            all_changed (IsStatementWithin b.program.names s.n) add (λ j t q. (q.0, of_push (IsOptionWithin b.program.names s.n) t.options o q.1 (h, tt), q.2)) i 0 b.program.statements s.program.statements;
        labels = s.program.labels;
        names = s.program.names;
      };
      guards = s.guards;
      selections = s.selections;
    }

    go : (is : List ℕ) → IfSome {T = Built} (elim is [
      | [] ↦ None
      | i ∷ js ↦ Some (record b {
        hole = WithinOption i (length (statement_at b.program i).options);
        program = change i (λ t. record t { options = t.options ++ record { first = first; next = Nothing } ∷ [] }) b.program;
      })
    ]) IsBuilt
    go [] = tt
    go (i ∷ js) = built i (WithinOption i (length (statement_at b.program i).options))

head_built : (inside : Bool) (first : First) (b : Built) (s : IsBuilt b) → IsFirstWithin b.program.names s.n first → IfSome (head_ended inside first b) IsBuilt
head_built true first b s h = option_built first b s h
head_built false first b s h =
    stated_built false (record { first = first; next = Nothing } ∷ []) b s ((first_more b.program.names b.program.names (λ x k. k) s.n (s.n + 1) (omega arith) first h, tt), tt)

abbrev with_guards : (gs : List Guard) (b : Built) (s : IsBuilt b) → AllOf (IsGuardOver b.program.names) gs → IsBuilt (record b { guards = gs })
with_guards gs b s a = record { n = s.n; count = s.count; program = s.program; guards = a; selections = s.selections }

-- ---- each action

keeps_pushed : (c : Bool) → Keeps (pushed (Constant c))
keeps_pushed c b s = with_guards (Constant c ∷ b.guards) b s (tt, s.guards)

keeps_named : (n : Name) → is_proposition n ≡ true → Keeps (named n)
keeps_named n e b s = record {
  n = s.n;
  count = s.count;
  program = record {
    start = s.program.start;
    statements = all_imply (IsStatementWithin ns s.n) (IsStatementWithin (ns ++ n ∷ []) s.n) (statement_more ns (ns ++ n ∷ []) sub s.n s.n (omega arith)) 0 b.program.statements s.program.statements;
    labels = s.program.labels;
    names = all_names is_proposition ns n s.program.names e;
  };
  guards = (append_right ns (n ∷ []) n (inl refl), of_imply (IsGuardOver ns) (IsGuardOver (ns ++ n ∷ [])) (guard_more ns (ns ++ n ∷ []) sub) b.guards s.guards);
  selections = s.selections;
}
  where
    ns : List Name
    ns = b.program.names

    sub : (x : Name) → Has ns x → Has (ns ++ n ∷ []) x
    sub x h = append_left ns (n ∷ []) x h

keeps_negated : Keeps negated
keeps_negated b s = go b.guards s.guards
  where
    go : (gs : List Guard) → AllOf (IsGuardOver b.program.names) gs → IfSome {T = Built} (elim gs [ [] ↦ None | g ∷ hs ↦ Some (record b { guards = Not g ∷ hs }) ]) IsBuilt
    go [] a = tt
    go (g ∷ gs) a = with_guards (Not g ∷ gs) b s a

keeps_joined : (f : Guard → Guard → Guard) → ((names : List Name) (g h : Guard) → IsGuardOver names g → IsGuardOver names h → IsGuardOver names (f g h)) → Keeps (joined f)
keeps_joined f over b s = go b.guards s.guards
  where
    go : (gs : List Guard) → AllOf (IsGuardOver b.program.names) gs → IfSome {T = Built} (elim gs [ h ∷ g ∷ hs ↦ Some (record b { guards = f g h ∷ hs }) | _ ↦ None ]) IsBuilt
    go [] a = tt
    go (h ∷ []) a = tt
    go (h ∷ g ∷ gs) a = with_guards (f g h ∷ gs) b s (over b.program.names g h a.1.0 a.0, a.1.1)

keeps_one : (f : Guard → First) → ((names : List Name) (n : ℕ) (g : Guard) → IsGuardOver names g → IsFirstWithin names n (f g)) → (inside : Bool) → Keeps (one_tested f inside)
keeps_one f over inside b s = go b.guards s.guards
  where
    go : (gs : List Guard) → AllOf (IsGuardOver b.program.names) gs → IfSome {T = Built} (elim gs [ g ∷ hs ↦ head_ended inside (f g) (record b { guards = hs }) | _ ↦ None ]) IsBuilt
    go [] a = tt
    go (g ∷ gs) a = head_built inside (f g) (record b { guards = gs }) (with_guards gs b s a.1) (over b.program.names s.n g a.0)

keeps_test : (inside : Bool) → Keeps (one_tested Test inside)
keeps_test inside = keeps_one Test (λ names n g h. h) inside

keeps_check : (inside : Bool) → Keeps (one_tested Check inside)
keeps_check inside = keeps_one Check (λ names n g h. h) inside

keeps_both : (inside : Bool) → Keeps (both_tested inside)
keeps_both inside b s = go b.guards s.guards
  where
    go : (gs : List Guard) → AllOf (IsGuardOver b.program.names) gs → IfSome {T = Built} (elim gs [ h ∷ g ∷ hs ↦ head_ended inside (Both g h) (record b { guards = hs }) | _ ↦ None ]) IsBuilt
    go [] a = tt
    go (h ∷ []) a = tt
    go (h ∷ g ∷ gs) a = head_built inside (Both g h) (record b { guards = gs }) (with_guards gs b s a.1.1) (a.1.0, a.0)

keeps_label : (l : Name) → Keeps (label_found l)
keeps_label l b s = go (is_label l b.program.labels || starts_with nat_eq l (codes "end"))
  where
    new : ClaimLabel
    new = record { name = l; statement = length b.program.statements }

    go : (c : Bool) → IfSome {T = Built} (if c then None else Some (record b { program = record b.program { labels = b.program.labels ++ new ∷ [] } })) IsBuilt
    go true = tt
    go false = record {
      n = s.n;
      count = s.count;
      program = record {
        start = s.program.start;
        statements = s.program.statements;
        labels = of_push (λ x. x.statement ≤ s.n) b.program.labels new s.program.labels (let e = s.count in omega (arith, e));
        names = s.program.names;
      };
      guards = s.guards;
      selections = s.selections;
    }

gone_built : (k : Link) (words : List Name) → Keeps (gone k words)
gone_built k words b s = go (may_leave k b)
  where
    go : (c : Bool) → IfSome {T = Built} (if c then Some (record b { program = record b.program { gotos = b.program.gotos ++ words } }) else None) IsBuilt
    go true = record {
      n = s.n;
      count = s.count;
      program = record { start = s.program.start; statements = s.program.statements; labels = s.program.labels; names = s.program.names };
      guards = s.guards;
      selections = s.selections;
    }
    go false = tt

keeps_jumped : (k : Link) → ((n : ℕ) → IsLinkWithin n k) → (words : List Name) (inside : Bool) → Keeps (jumped inside k words)
keeps_jumped k within words true b s = go (gone k words b) (gone_built k words b s)
  where
    go : (o : Option Built) → IfSome o IsBuilt → IfSome (option_and_then (option_begun (Leaps k)) o) IsBuilt
    go None h = tt
    go (Some c) h = option_built (Leaps k) c h (within h.n)
keeps_jumped k within words false b s = go (gone k words b) (gone_built k words b s)
  where
    go : (o : Option Built) → IfSome o IsBuilt → IfSome (option_map (λ (c : Built). record c { hole = Nowhere; program = linked c.hole k c.program }) o) IsBuilt
    go None h = tt
    go (Some c) h = record {
      n = h.n;
      count = linked_length c.hole k c.program ∙ h.count;
      program = linked_within h.n k (within h.n) c.hole c.program h.program;
      guards = subst (λ ns. AllOf (IsGuardOver ns) c.guards) (sym (linked_names c.hole k c.program)) h.guards;
      selections = h.selections;
    }

keeps_otherwise : Keeps otherwise
keeps_otherwise b s = go (list_any is_otherwise (statement_at b.program (unwrap_or (slice_get b.selections 0) 0)).options)
  where
    go : (c : Bool) → IfSome (if c then None else option_begun Otherwise b) IsBuilt
    go true = tt
    go false = option_built Otherwise b s tt

keeps_opened : (loops : Bool) → Keeps (opened loops)
keeps_opened loops b s =
    let t = stated_built loops [] b s tt in
    record {
      n = s.n + 1;
      count = t.count;
      program = t.program;
      guards = t.guards;
      selections = (let e = s.count in omega (arith, e), t.selections);
    }

keeps_closed : Keeps closed
keeps_closed b s = go b.selections s.selections
  where
    go : (is : List ℕ) → AllOf (λ i. i < s.n) is → IfSome {T = Built} (elim is [ [] ↦ None | i ∷ js ↦ Some (record b { selections = js; hole = BehindStatement i }) ]) IsBuilt
    go [] a = tt
    go (i ∷ is) a = record { n = s.n; count = s.count; program = s.program; guards = s.guards; selections = a.1 }

-- ---- the grammar

abbrev Safe : Symbol → Type 0
Safe (Now f) = Keeps f
Safe s = ⊤

abbrev Safes : List Symbol → Type 0
Safes ss = AllOf Safe ss

more_safe : (more : List Symbol) → Safes more → (o : Option (List Symbol)) → IfSome o Safes → IfSome (with_more more o) Safes
more_safe more m None h = tt
more_safe more m (Some ss) h = of_append Safe ss more h m

operand_safe : (t : ClaimToken) → IfSome (operand t) Safes
operand_safe NotSign = (tt, (keeps_negated, tt))
operand_safe OpenBracket = (tt, (tt, tt))
operand_safe (Truth b) = (keeps_pushed b, tt)
operand_safe (Word n) = go (is_proposition n) refl
  where
    go : (c : Bool) → is_proposition n ≡ c → IfSome (if c then Some (Now (named n) ∷ []) else None) Safes
    go true e = (keeps_named n e, tt)
    go false e = tt
operand_safe t = tt

guard_safe : (t : ClaimToken) → IfSome (guard t) Safes
guard_safe t = more_safe (May Conjunct ∷ May Disjunct ∷ []) (tt, (tt, tt)) (operand t) (operand_safe t)

head_safe : (inside : Bool) (t : ClaimToken) → IfSome (head inside t) Safes
head_safe inside Assert = (tt, (tt, (tt, (keeps_check inside, tt))))
head_safe inside Atomic = (tt, (tt, (tt, (tt, (tt, (tt, (tt, (tt, (tt, (keeps_both inside, tt))))))))))
head_safe inside t = more_safe (Now (one_tested Test inside) ∷ []) (keeps_test inside, tt) (guard t) (guard_safe t)

statement_safe : (labels : Bool) (t : ClaimToken) → IfSome (statement labels t) Safes
statement_safe true (Word l) = (tt, (keeps_label l, (tt, tt)))
statement_safe labels If = (keeps_opened false, (tt, (tt, (keeps_closed, tt))))
statement_safe labels Do = (keeps_opened true, (tt, (tt, (keeps_closed, tt))))
statement_safe labels t = head_safe false t

item_safe : (labels : Bool) (t : ClaimToken) → IfSome (item labels t) Safes
item_safe labels Goto = (tt, tt)
item_safe labels Break = (keeps_jumped Leave (λ n. tt) [] false, tt)
item_safe labels t = statement_safe labels t

behind_safe : (labels : Bool) (s : Symbol) (t : ClaimToken) → IfSome (behind labels s t) Safes
behind_safe labels (May s) t = behind_safe labels s t
behind_safe labels Title (Word w) = (tt, tt)
behind_safe labels Title OpenBrace = tt
behind_safe labels AnItem t = item_safe labels t
behind_safe labels AStatement t = statement_safe labels t
behind_safe labels More Separator = (tt, tt)
behind_safe labels Another Separator = (tt, tt)
behind_safe labels Another t = more_safe (May More ∷ []) (tt, tt) (item labels t) (item_safe labels t)
behind_safe labels Options OptionSign = (tt, (tt, (tt, tt)))
behind_safe labels AFirst Goto = (tt, tt)
behind_safe labels AFirst Break = (keeps_jumped Leave (λ n. tt) [] true, tt)
behind_safe labels AFirst Else = (keeps_otherwise, tt)
behind_safe labels AFirst t = head_safe true t
behind_safe labels (JumpTo inside) (Word l) = (keeps_jumped (Jump l) (λ n. tt) (l ∷ []) inside, tt)
behind_safe labels AGuard t = guard_safe t
behind_safe labels AnOperand t = operand_safe t
behind_safe labels Conjunct AndSign = (tt, (keeps_joined And (λ names g h p q. (p, q)), (tt, tt)))
behind_safe labels Disjunct OrSign = (tt, (tt, (keeps_joined Or (λ names g h p q. (p, q)), (tt, tt))))
behind_safe labels Separators Separator = (tt, tt)
behind_safe labels InNever Never = tt
behind_safe labels InAssert Assert = tt
behind_safe labels InFi Fi = tt
behind_safe labels InOd Od = tt
behind_safe labels InOpenBrace OpenBrace = tt
behind_safe labels InCloseBrace CloseBrace = tt
behind_safe labels InOpenBracket OpenBracket = tt
behind_safe labels InCloseBracket CloseBracket = tt
behind_safe labels InColon Colon = tt
behind_safe labels s t = tt

-- ---- texts

abbrev IsGood : Sofar → Type 0
IsGood s = Safes s.symbols × IsBuilt s.built

take_safe : (labels : Bool) (t : ClaimToken) (ss : List Symbol) (b : Built) → Safes ss → IsBuilt b → IfSome (take_token labels t ss b) IsGood
take_safe labels t [] b a s = tt
take_safe labels t (Now f ∷ ss) b a s = go (λ c h. take_safe labels t ss c a.1 h) (f b) (a.0 b s)
  where
    go : ((c : Built) → IsBuilt c → IfSome (take_token labels t ss c) IsGood) → (o : Option Built) → IfSome o IsBuilt → IfSome {T = Sofar} (elim o [ Some c ↦ take_token labels t ss c | None ↦ None ]) IsGood
    go rest None h = tt
    go rest (Some c) h = rest c h
take_safe labels t (x ∷ ss) b a s = go (take_safe labels t ss b a.1 s) (behind labels x t) (behind_safe labels x t) (may_be_left_out x)
  where
    go : IfSome (take_token labels t ss b) IsGood → (o : Option (List Symbol)) → IfSome o Safes → (may : Bool) → IfSome {T = Sofar} (elim o [
      | Some more ↦ Some (record { symbols = more ++ ss; built = b })
      | None ↦ if may then take_token labels t ss b else None
    ]) IsGood
    go rest (Some more) h may = (of_append Safe more ss h a.1, s)
    go rest None h true = rest
    go rest None h false = tt

taken_safe : (ts : List ClaimToken) (o : Option Sofar) → IfSome o IsGood → IfSome (taken_all o ts) IsGood
taken_safe [] o h = h
taken_safe (t ∷ ts) None h = tt
taken_safe (t ∷ ts) (Some s) h = taken_safe ts (take_token (begins_colon ts) t s.symbols s.built) (take_safe (begins_colon ts) t s.symbols s.built h.0 h.1)

first_good : IsGood at_first
first_good = (
  (tt, (tt, (tt, (tt, (tt, tt))))),
  record {
    n = 0;
    count = refl;
    program = record { start = tt; statements = tt; labels = tt; names = refl };
    guards = tt;
    selections = tt;
  },
)

-- the program of a claim is sound
pub sound : (text : List ℕ) (P : Program) → claim_program text ≡ Some P → IsSound P
sound text P e = subst (λ o. IfSome o IsSound) e (go (taken_all (Some at_first) (claim_tokens text)) (taken_safe (claim_tokens text) (Some at_first) first_good))
  where
    labelled : (c : Bool) (s : Sofar) → IsBuilt s.built → IfSome (if c then Some s.built.program else None) IsSound
    labelled true s b = subst (λ n. IsProgramWithin n s.built.program) (sym b.count) b.program
    labelled false s b = tt

    whole : (ss : List Symbol) (s : Sofar) → IsBuilt s.built → IfSome (ended ss s.built.program) IsSound
    whole [] s b = labelled (list_all (λ l. is_label l s.built.program.labels) s.built.program.gotos) s b
    whole (x ∷ ss) s b = tt

    go : (o : Option Sofar) → IfSome o IsGood → IfSome (option_and_then (λ (s : Sofar). ended s.symbols s.built.program) o) IsSound
    go None h = tt
    go (Some s) h = whole s.symbols s h.1

pub inside_or_past : (a b : ℕ) → (a < b) ⊎ (b ≤ a)
inside_or_past a b = grind arith

-- what stands around a statement stands before it
pub nested : (P : Program) → IsSound P → (i : ℕ) → IfSome (statement_at P i).around (λ c. c < i)
nested P p i = elim (inside_or_past i (length P.statements)) [
  | inl l ↦ subst (λ j. IfSome (statement_at P i).around (λ c. c < j)) (sym (from_zero i)) (all_at (IsStatementWithin P.names (length P.statements)) 0 i no_statement P.statements p.statements l).0
  | inr l ↦ subst (λ (s : Statement). IfSome s.around (λ c. c < i)) (sym (get_or_past P.statements i no_statement l)) tt
]
