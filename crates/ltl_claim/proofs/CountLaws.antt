-- A claim that is read has at most as many statements as there may be: one is added only behind a token that is refused where there are so many.
use Rattle.std.proofs.Common.{◌≡◌, ◌∙◌, ℕ, ◌+◌, ◌<◌, ◌≤◌, Bool, true, false, ◌||◌, ◌&&◌, List, [], ◌∷◌, ◌++◌, length, Option, Some, None, IfSome, refl, ap, subst, arith, inl, inr}
use Rattle.std.specs.Prelude.{Result, Ok, Err, option_map, option_and_then, unwrap_or, slice_get, if◌then◌else◌, ⊤, codes, nat_eq, nat_le, nat_lt, ◌⊎◌}
use Rattle.std.specs.List.{list_all, list_any, starts_with}
use Rattle.std.proofs.lemmas.Bool.Decides.{nat_tests}
use Rattle.std.proofs.lemmas.List.{length_push}
use Rattle.ltl_spec.specs.Semantics.Word.{Name}
use Rattle.ltl_spec.specs.Formulas.Names.{is_proposition}
use Rattle.ltl_spec.specs.Claims.ClaimTokens.{ClaimToken, Word, Truth, Never, Assert, Atomic, Do, Od, If, Fi, Goto, Break, Else, OpenBrace, CloseBrace, OpenBracket, CloseBracket, OptionSign, Colon, Separator, NotSign, AndSign, OrSign}
use Rattle.ltl_spec.specs.Claims.ClaimProgram.{Guard, Constant, Not, And, Or, Link, Go, Jump, Leave, Nothing, First, Test, Check, Both, Otherwise, Leaps, ClaimOption, Program}
use Rattle.ltl_spec.specs.Claims.ClaimMachine.{Nowhere, BehindStatement, WithinOption, Built, Sofar, Symbol, Title, AnItem, AStatement, Another, More, Options, AFirst, AGuard, AnOperand, Conjunct, Disjunct, Separators, InNever, InAssert, InFi, InOd, InOpenBrace, InCloseBrace, InOpenBracket, InCloseBracket, InColon, May, JumpTo, Now, at_first, behind, both_tested, change, closed, gone, guard, head, head_ended, is_label, is_otherwise, item, joined, jumped, label_found, linked, may_be_left_out, may_leave, named, negated, one_tested, opened, operand, option_begun, otherwise, pushed, stated, statement, statement_at, with_more}
use Rattle.ltl_claim.specs.Soundness.{AllOf}
use Rattle.ltl_claim.specs.ClaimItems.{ClaimItem, claim_items, colon_next}
use Rattle.ltl_claim.specs.ClaimFault.{ClaimFault, ClaimFaultKind, BadToken, LimitPassed, UndefinedLabel}
use Rattle.ltl_claim.specs.ClaimStep.{begins_item, fits, fitting_fault, is_another, is_full, most_statements, refusal, step, unless_fault}
use Rattle.ltl_claim.specs.ClaimAnswer.{claim_answer, end_kind, ended_with, most_bytes, read_items, undefined, unless_undefined}
use Rattle.ltl_claim.proofs.SoundLaws.{changed_length, linked_length, of_append, of_imply}

abbrev size : Built → ℕ
size b = length b.program.statements

-- the action adds so many statements
abbrev AddsTo : ℕ → (Built → Option Built) → Type 0
AddsTo n f = (b : Built) → IfSome (f b) (λ c. size c ≡ size b + n)

same_size : (n : ℕ) → n ≡ n + 0
same_size n = omega arith

-- ---- each action

option_size : (first : First) → AddsTo 0 (option_begun first)
option_size first b = go b.selections
  where
    go : (is : List ℕ) → IfSome {T = Built} (elim is [
      | [] ↦ None
      | i ∷ js ↦ Some (record b {
        hole = WithinOption i (length (statement_at b.program i).options);
        program = change i (λ t. record t { options = t.options ++ record { first = first; next = Nothing } ∷ [] }) b.program;
      })
    ]) (λ c. size c ≡ size b + 0)
    go [] = tt
    go (i ∷ js) = changed_length (λ t. record t { options = t.options ++ record { first = first; next = Nothing } ∷ [] }) i b.program.statements ∙ same_size (size b)

stated_size : (loops : Bool) (os : List ClaimOption) (b : Built) → size (stated loops os b) ≡ size b + 1
stated_size loops os b =
    length_push (linked b.hole (Go (size b)) b.program).statements (record { around = slice_get b.selections 0; loops = loops; options = os; next = Nothing })
    ∙ ap (λ n. n + 1) (linked_length b.hole (Go (size b)) b.program)

-- inside of a selection a head is an option
head_inside : (first : First) → AddsTo 0 (head_ended true first)
head_inside first = option_size first

head_outside : (first : First) → AddsTo 1 (head_ended false first)
head_outside first b = stated_size false (record { first = first; next = Nothing } ∷ []) b

-- how many statements a head adds
abbrev added : Bool → ℕ
added true = 0
added false = 1

head_adds : (inside : Bool) (first : First) → AddsTo (added inside) (head_ended inside first)
head_adds true first = head_inside first
head_adds false first = head_outside first

pushed_size : (g : Guard) → AddsTo 0 (pushed g)
pushed_size g b = same_size (size b)

named_size : (n : Name) → AddsTo 0 (named n)
named_size n b = same_size (size b)

negated_size : AddsTo 0 negated
negated_size b = go b.guards
  where
    go : (gs : List Guard) → IfSome {T = Built} (elim gs [ [] ↦ None | g ∷ hs ↦ Some (record b { guards = Not g ∷ hs }) ]) (λ c. size c ≡ size b + 0)
    go [] = tt
    go (g ∷ gs) = same_size (size b)

joined_size : (f : Guard → Guard → Guard) → AddsTo 0 (joined f)
joined_size f b = go b.guards
  where
    go : (gs : List Guard) → IfSome {T = Built} (elim gs [ h ∷ g ∷ hs ↦ Some (record b { guards = f g h ∷ hs }) | _ ↦ None ]) (λ c. size c ≡ size b + 0)
    go [] = tt
    go (h ∷ []) = tt
    go (h ∷ g ∷ gs) = same_size (size b)

one_size : (f : Guard → First) (inside : Bool) → AddsTo (added inside) (one_tested f inside)
one_size f inside b = go b.guards
  where
    go : (gs : List Guard) → IfSome {T = Built} (elim gs [ g ∷ hs ↦ head_ended inside (f g) (record b { guards = hs }) | _ ↦ None ]) (λ c. size c ≡ size b + added inside)
    go [] = tt
    go (g ∷ gs) = head_adds inside (f g) (record b { guards = gs })

both_size : (inside : Bool) → AddsTo (added inside) (both_tested inside)
both_size inside b = go b.guards
  where
    go : (gs : List Guard) → IfSome {T = Built} (elim gs [ h ∷ g ∷ hs ↦ head_ended inside (Both g h) (record b { guards = hs }) | _ ↦ None ]) (λ c. size c ≡ size b + added inside)
    go [] = tt
    go (h ∷ []) = tt
    go (h ∷ g ∷ gs) = head_adds inside (Both g h) (record b { guards = gs })

label_size : (l : Name) → AddsTo 0 (label_found l)
label_size l b = go (is_label l b.program.labels || starts_with nat_eq l (codes "end"))
  where
    go : (c : Bool) → IfSome {T = Built} (if c then None else Some (record b { program = record b.program { labels = b.program.labels ++ record { name = l; statement = size b } ∷ [] } })) (λ c. size c ≡ size b + 0)
    go true = tt
    go false = same_size (size b)

gone_size : (k : Link) (words : List Name) → AddsTo 0 (gone k words)
gone_size k words b = go (may_leave k b)
  where
    go : (c : Bool) → IfSome {T = Built} (if c then Some (record b { program = record b.program { gotos = b.program.gotos ++ words } }) else None) (λ c. size c ≡ size b + 0)
    go true = same_size (size b)
    go false = tt

jumped_size : (k : Link) (words : List Name) (inside : Bool) → AddsTo 0 (jumped inside k words)
jumped_size k words true b = go (gone k words b) (gone_size k words b)
  where
    then_one : (c : Built) → size c ≡ size b + 0 → (o : Option Built) → IfSome o (λ d. size d ≡ size c + 0) → IfSome o (λ d. size d ≡ size b + 0)
    then_one c e None h = tt
    then_one c e (Some d) h = omega (arith, e, h)

    go : (o : Option Built) → IfSome o (λ c. size c ≡ size b + 0) → IfSome (option_and_then (option_begun (Leaps k)) o) (λ c. size c ≡ size b + 0)
    go None h = tt
    go (Some c) h = then_one c h (option_begun (Leaps k) c) (option_size (Leaps k) c)
jumped_size k words false b = go (gone k words b) (gone_size k words b)
  where
    go : (o : Option Built) → IfSome o (λ c. size c ≡ size b + 0) → IfSome (option_map (λ (c : Built). record c { hole = Nowhere; program = linked c.hole k c.program }) o) (λ c. size c ≡ size b + 0)
    go None h = tt
    go (Some c) h = linked_length c.hole k c.program ∙ h

otherwise_size : AddsTo 0 otherwise
otherwise_size b = go (list_any is_otherwise (statement_at b.program (unwrap_or (slice_get b.selections 0) 0)).options)
  where
    go : (c : Bool) → IfSome (if c then None else option_begun Otherwise b) (λ c. size c ≡ size b + 0)
    go true = tt
    go false = option_size Otherwise b

opened_size : (loops : Bool) → AddsTo 1 (opened loops)
opened_size loops b = stated_size loops [] b

closed_size : AddsTo 0 closed
closed_size b = go b.selections
  where
    go : (is : List ℕ) → IfSome {T = Built} (elim is [ [] ↦ None | i ∷ js ↦ Some (record b { selections = js; hole = BehindStatement i }) ]) (λ c. size c ≡ size b + 0)
    go [] = tt
    go (i ∷ is) = same_size (size b)

-- ---- symbols

-- a symbol that is expanded to no item, as long as it isn't done
abbrev Inner : Symbol → Type 0
Inner (Now f) = AddsTo 0 f
Inner AGuard = ⊤
Inner AnOperand = ⊤
Inner Conjunct = ⊤
Inner Disjunct = ⊤
Inner Separators = ⊤
Inner (May Conjunct) = ⊤
Inner (May Disjunct) = ⊤
Inner (May Separators) = ⊤
Inner InAssert = ⊤
Inner InOpenBrace = ⊤
Inner InCloseBrace = ⊤
Inner InOpenBracket = ⊤
Inner InCloseBracket = ⊤
Inner InColon = ⊤
Inner s = ⊥

-- a symbol that adds no statement by itself
abbrev Calm : Symbol → Type 0
Calm (Now f) = AddsTo 0 f
Calm Another = ⊥
Calm (May Another) = ⊤
Calm (May More) = ⊤
Calm (May Options) = ⊤
Calm (May Conjunct) = ⊤
Calm (May Disjunct) = ⊤
Calm (May Separators) = ⊤
Calm (May s) = ⊥
Calm s = ⊤

abbrev Adds : Symbol → Type 0
Adds (Now f) = AddsTo 1 f
Adds s = ⊥

-- one statement is added before an item begins
abbrev Due : List Symbol → Type 0
Due [] = ⊥
Due (s ∷ ss) = (Adds s × AllOf Calm ss) ⊎ (Inner s × Due ss)

-- where there are so many statements, these symbols add no more than there may be
abbrev Fits : ℕ → List Symbol → Type 0
Fits n ss = ((n ≤ most_statements) × AllOf Calm ss) ⊎ ((n < most_statements) × Due ss)

if_imply : {X : Type 0} {Q R : X → Type 0} (o : Option X) → IfSome o Q → ((x : X) → Q x → R x) → IfSome o R
if_imply None h f = tt
if_imply (Some x) h f = f x h

inner_calm : (s : Symbol) → Inner s → Calm s
inner_calm (Now f) h = h
inner_calm AGuard h = tt
inner_calm AnOperand h = tt
inner_calm Conjunct h = tt
inner_calm Disjunct h = tt
inner_calm Separators h = tt
inner_calm (May Conjunct) h = tt
inner_calm (May Disjunct) h = tt
inner_calm (May Separators) h = tt
inner_calm InAssert h = tt
inner_calm InOpenBrace h = tt
inner_calm InCloseBrace h = tt
inner_calm InOpenBracket h = tt
inner_calm InCloseBracket h = tt
inner_calm InColon h = tt
inner_calm s h = absurd h

all_calm : (ss : List Symbol) → AllOf Inner ss → AllOf Calm ss
all_calm ss a = of_imply Inner Calm inner_calm ss a

due_append : (more ss : List Symbol) → AllOf Inner more → Due ss → Due (more ++ ss)
due_append [] ss a d = d
due_append (s ∷ more) ss a d = inr (a.0, due_append more ss a.1 d)

due_push : (more ss : List Symbol) → Due more → AllOf Calm ss → Due (more ++ ss)
due_push [] ss d c = absurd d
due_push (s ∷ more) ss (inl (a, k)) c = inl (a, of_append Calm more ss k c)
due_push (s ∷ more) ss (inr (i, d)) c = inr (i, due_push more ss d c)

-- ---- the grammar

more_all : (Q : Symbol → Type 0) (more : List Symbol) → AllOf Q more → (o : Option (List Symbol)) → IfSome o (AllOf Q) → IfSome (with_more more o) (AllOf Q)
more_all Q more m None h = tt
more_all Q more m (Some ss) h = of_append Q ss more h m

operand_inner : (t : ClaimToken) → IfSome (operand t) (AllOf Inner)
operand_inner NotSign = (tt, (negated_size, tt))
operand_inner OpenBracket = (tt, (tt, tt))
operand_inner (Truth b) = (pushed_size (Constant b), tt)
operand_inner (Word n) = go (is_proposition n)
  where
    go : (c : Bool) → IfSome (if c then Some (Now (named n) ∷ []) else None) (AllOf Inner)
    go true = (named_size n, tt)
    go false = tt
operand_inner t = tt

guard_inner : (t : ClaimToken) → IfSome (guard t) (AllOf Inner)
guard_inner t = more_all Inner (May Conjunct ∷ May Disjunct ∷ []) (tt, (tt, tt)) (operand t) (operand_inner t)

-- an option begins
first_inner : (t : ClaimToken) → IfSome (head true t) (AllOf Inner)
first_inner Assert = (tt, (tt, (tt, (one_size Check true, tt))))
first_inner Atomic = (tt, (tt, (tt, (tt, (tt, (tt, (tt, (tt, (tt, (both_size true, tt))))))))))
first_inner t = more_all Inner (Now (one_tested Test true) ∷ []) (one_size Test true, tt) (guard t) (guard_inner t)

due_last : (o : Option (List Symbol)) → IfSome o (AllOf Inner) → IfSome (with_more (Now (one_tested Test false) ∷ []) o) Due
due_last None h = tt
due_last (Some ss) h = due_append ss (Now (one_tested Test false) ∷ []) h (inl (one_size Test false, tt))

-- a statement begins
head_due : (t : ClaimToken) → IfSome (head false t) Due
head_due Assert = inr (tt, inr (tt, inr (tt, inl (one_size Check false, tt))))
head_due Atomic = inr (tt, inr (tt, inr (tt, inr (tt, inr (tt, inr (tt, inr (tt, inr (tt, inr (tt, inl (both_size false, tt))))))))))
head_due t = due_last (guard t) (guard_inner t)

-- what is expanded adds no statement, or the token is refused where there are too many
abbrev Opens : Bool → Bool → Symbol → ClaimToken → Built → List Symbol → Type 0
Opens labels begins s t b more = AllOf Calm more ⊎ (Due more × (fitting_fault labels begins s t b ≡ None → is_full b ≡ false))

full_none : (c : Bool) (k : Option ClaimFaultKind) → (if true && c then Some LimitPassed else k) ≡ None → c ≡ false
full_none true k e = cc
full_none false k e = refl

head_opens : (labels : Bool) (t : ClaimToken) (s : Symbol) (b : Built) → (fitting_fault labels true s t b ≡ None → is_full b ≡ false) → IfSome (head false t) (Opens labels true s t b)
head_opens labels t s b f = if_imply (head false t) (head_due t) (λ more d. inr (d, f))

statement_opens : (labels : Bool) (t : ClaimToken) (s : Symbol) (b : Built) → IfSome (statement labels t) (Opens labels true s t b)
statement_opens true (Word l) s b = inl (tt, (label_size l, (tt, tt)))
statement_opens labels If s b = inr (inl (opened_size false, (tt, (tt, (closed_size, tt)))), full_none (is_full b) None)
statement_opens labels Do s b = inr (inl (opened_size true, (tt, (tt, (closed_size, tt)))), full_none (is_full b) None)
statement_opens false (Word n) s b = head_opens false (Word n) s b (full_none (is_full b) _)
statement_opens labels Assert s b = head_opens labels Assert s b (full_none (is_full b) None)
statement_opens labels Atomic s b = head_opens labels Atomic s b (full_none (is_full b) None)
statement_opens labels (Truth c) s b = head_opens labels (Truth c) s b (full_none (is_full b) None)
statement_opens labels NotSign s b = head_opens labels NotSign s b (full_none (is_full b) None)
statement_opens labels OpenBracket s b = head_opens labels OpenBracket s b (full_none (is_full b) None)
statement_opens labels t s b = tt

item_opens : (labels : Bool) (t : ClaimToken) (s : Symbol) (b : Built) → IfSome (item labels t) (Opens labels true s t b)
item_opens labels Goto s b = inl (tt, tt)
item_opens labels Break s b = inl (jumped_size Leave [] false, tt)
item_opens labels t s b = statement_opens labels t s b

another_opens : (labels : Bool) (t : ClaimToken) (b : Built) (o : Option (List Symbol)) → IfSome o (Opens labels true (May Another) t b) → IfSome (with_more (May More ∷ []) o) (Opens labels true (May Another) t b)
another_opens labels t b None h = tt
another_opens labels t b (Some ss) (inl c) = inl (of_append Calm ss (May More ∷ []) c (tt, tt))
another_opens labels t b (Some ss) (inr (d, f)) = inr (due_push ss (May More ∷ []) d (tt, tt), f)

calm_opens : (labels begins : Bool) (s : Symbol) (t : ClaimToken) (b : Built) (o : Option (List Symbol)) → IfSome o (AllOf Inner) → IfSome o (Opens labels begins s t b)
calm_opens labels begins s t b o h = if_imply o h (λ more a. inl (all_calm more a))

behind_opens : (labels : Bool) (s : Symbol) (t : ClaimToken) (b : Built) → Calm s → IfSome (behind labels s t) (Opens labels (begins_item s) s t b)
behind_opens labels (May Another) Separator b h = inl (tt, tt)
behind_opens labels (May Another) t b h = another_opens labels t b (item labels t) (item_opens labels t (May Another) b)
behind_opens labels (May More) Separator b h = inl (tt, tt)
behind_opens labels (May More) t b h = tt
behind_opens labels (May Options) OptionSign b h = inl (tt, (tt, (tt, tt)))
behind_opens labels (May Options) t b h = tt
behind_opens labels (May Conjunct) AndSign b h = inl (tt, (joined_size And, (tt, tt)))
behind_opens labels (May Conjunct) t b h = tt
behind_opens labels (May Disjunct) OrSign b h = inl (tt, (tt, (joined_size Or, (tt, tt))))
behind_opens labels (May Disjunct) t b h = tt
behind_opens labels (May Separators) Separator b h = inl (tt, tt)
behind_opens labels (May Separators) t b h = tt
behind_opens labels (May s) t b h = absurd h
behind_opens labels Title (Word w) b h = inl (tt, tt)
behind_opens labels Title OpenBrace b h = inl tt
behind_opens labels AnItem t b h = item_opens labels t AnItem b
behind_opens labels AStatement t b h = statement_opens labels t AStatement b
behind_opens labels More Separator b h = inl (tt, tt)
behind_opens labels Another t b h = absurd h
behind_opens labels Options OptionSign b h = inl (tt, (tt, (tt, tt)))
behind_opens labels AFirst Goto b h = inl (tt, tt)
behind_opens labels AFirst Break b h = inl (jumped_size Leave [] true, tt)
behind_opens labels AFirst Else b h = inl (otherwise_size, tt)
behind_opens labels AFirst t b h = calm_opens labels false AFirst t b (head true t) (first_inner t)
behind_opens labels (JumpTo inside) (Word l) b h = inl (jumped_size (Jump l) (l ∷ []) inside, tt)
behind_opens labels AGuard t b h = calm_opens labels false AGuard t b (guard t) (guard_inner t)
behind_opens labels AnOperand t b h = calm_opens labels false AnOperand t b (operand t) (operand_inner t)
behind_opens labels Conjunct AndSign b h = inl (tt, (joined_size And, (tt, tt)))
behind_opens labels Disjunct OrSign b h = inl (tt, (tt, (joined_size Or, (tt, tt))))
behind_opens labels Separators Separator b h = inl (tt, tt)
behind_opens labels InNever Never b h = inl tt
behind_opens labels InAssert Assert b h = inl tt
behind_opens labels InFi Fi b h = inl tt
behind_opens labels InOd Od b h = inl tt
behind_opens labels InOpenBrace OpenBrace b h = inl tt
behind_opens labels InCloseBrace CloseBrace b h = inl tt
behind_opens labels InOpenBracket OpenBracket b h = inl tt
behind_opens labels InCloseBracket CloseBracket b h = inl tt
behind_opens labels InColon Colon b h = inl tt
behind_opens labels s t b h = tt

behind_inner : (labels : Bool) (s : Symbol) (t : ClaimToken) → Inner s → IfSome (behind labels s t) (AllOf Inner)
behind_inner labels (Now f) t h = tt
behind_inner labels AGuard t h = guard_inner t
behind_inner labels AnOperand t h = operand_inner t
behind_inner labels Conjunct AndSign h = (tt, (joined_size And, (tt, tt)))
behind_inner labels Conjunct t h = tt
behind_inner labels Disjunct OrSign h = (tt, (tt, (joined_size Or, (tt, tt))))
behind_inner labels Disjunct t h = tt
behind_inner labels Separators Separator h = (tt, tt)
behind_inner labels Separators t h = tt
behind_inner labels (May Conjunct) AndSign h = (tt, (joined_size And, (tt, tt)))
behind_inner labels (May Conjunct) t h = tt
behind_inner labels (May Disjunct) OrSign h = (tt, (tt, (joined_size Or, (tt, tt))))
behind_inner labels (May Disjunct) t h = tt
behind_inner labels (May Separators) Separator h = (tt, tt)
behind_inner labels (May Separators) t h = tt
behind_inner labels InAssert Assert h = tt
behind_inner labels InAssert t h = tt
behind_inner labels InOpenBrace OpenBrace h = tt
behind_inner labels InOpenBrace t h = tt
behind_inner labels InCloseBrace CloseBrace h = tt
behind_inner labels InCloseBrace t h = tt
behind_inner labels InOpenBracket OpenBracket h = tt
behind_inner labels InOpenBracket t h = tt
behind_inner labels InCloseBracket CloseBracket h = tt
behind_inner labels InCloseBracket t h = tt
behind_inner labels InColon Colon h = tt
behind_inner labels InColon t h = tt
behind_inner labels s t h = absurd h

-- ---- a token

below_most : (n : ℕ) → nat_le most_statements n ≡ false → n < most_statements
below_most n e = grind (arith, nat_tests, e)

module _ (f : Built → Option Built) (ss : List Symbol) (b : Built) where
  action_fits : Fits (size b) (Now f ∷ ss) → IfSome (f b) (λ c. Fits (size c) ss)
  action_fits (inl (l, c)) = if_imply (f b) (c.0 b) (λ d e. inl (omega (arith, l, e), c.1))
  action_fits (inr (l, inl (a, c))) = if_imply (f b) (a b) (λ d e. inl (omega (arith, l, e), c))
  action_fits (inr (l, inr (i, d))) = if_imply (f b) (i b) (λ c e. inr (omega (arith, l, e), d))

module _ (x : Symbol) (none : Adds x → ⊥) (ss : List Symbol) where
  rest_fits : (n : ℕ) → Fits n (x ∷ ss) → Fits n ss
  rest_fits n (inl (l, c)) = inl (l, c.1)
  rest_fits n (inr (l, inl (a, c))) = absurd (none a)
  rest_fits n (inr (l, inr (i, d))) = inr (l, d)

  expand_fits : (labels : Bool) (t : ClaimToken) (b : Built) → Fits (size b) (x ∷ ss) → IfSome (behind labels x t) (λ more. fitting_fault labels (begins_item x) x t b ≡ None → Fits (size b) (more ++ ss))
  expand_fits labels t b (inl (l, c)) = if_imply (behind labels x t) (behind_opens labels x t b c.0) opened_fits
    where
      opened_fits : (more : List Symbol) → Opens labels (begins_item x) x t b more → fitting_fault labels (begins_item x) x t b ≡ None → Fits (size b) (more ++ ss)
      opened_fits more (inl k) e = inl (l, of_append Calm more ss k c.1)
      opened_fits more (inr (d, f)) e = inr (below_most (size b) (f e), due_push more ss d c.1)
  expand_fits labels t b (inr (l, inl (a, c))) = absurd (none a)
  expand_fits labels t b (inr (l, inr (i, d))) = if_imply (behind labels x t) (behind_inner labels x t i) (λ more k e. inr (l, due_append more ss k d))

abbrev OkSo : {K : Type 0} → Result Sofar K → Type 0
OkSo (Ok s) = Fits (size s.built) s.symbols
OkSo (Err k) = ⊤

step_fits : (labels in_list : Bool) (i : ClaimItem) (ss : List Symbol) (b : Built) → Fits (size b) ss → OkSo (step labels in_list i ss b)
step_fits labels in_list i [] b h = tt
step_fits labels in_list i (Now f ∷ ss) b h = go (λ c k. step_fits labels in_list i ss c k) (f b) (action_fits f ss b h)
  where
    go : ((c : Built) → Fits (size c) ss → OkSo (step labels in_list i ss c)) → (o : Option Built) → IfSome o (λ c. Fits (size c) ss)
        → OkSo (elim o [ Some c ↦ step labels in_list i ss c | None ↦ Err BadToken ])
    go rest None h = tt
    go rest (Some c) h = rest c h
step_fits labels in_list i (x ∷ ss) b h =
    go (step_fits labels (in_list || is_another x) i ss b (rest_fits x (λ a. a) ss (size b) h)) (fits i.tell) (behind labels x i.token) (expand_fits x (λ a. a) ss labels i.token b h) (may_be_left_out x)
  where
    taken : (more : List Symbol) (k : Option ClaimFaultKind) → (k ≡ None → Fits (size b) (more ++ ss)) → OkSo (unless_fault k (record { symbols = more ++ ss; built = b }))
    taken more None f = f refl
    taken more (Some k) f = tt

    go : OkSo (step labels (in_list || is_another x) i ss b) → (fit : Bool) (o : Option (List Symbol))
        → IfSome o (λ more. fitting_fault labels (begins_item x) x i.token b ≡ None → Fits (size b) (more ++ ss)) → (may : Bool)
        → OkSo (elim (if fit then o else None) [
          | Some more ↦ unless_fault (fitting_fault labels (begins_item x) x i.token b) (record { symbols = more ++ ss; built = b })
          | None ↦ if may then step labels (in_list || is_another x) i ss b else Err (refusal labels in_list x ss i)
        ])
    go rest true (Some more) f may = taken more (fitting_fault labels (begins_item x) x i.token b) f
    go rest true None f true = rest
    go rest true None f false = tt
    go rest false o f true = rest
    go rest false o f false = tt

-- ---- a text

read_fits : (is : List ClaimItem) (s : Sofar) → Fits (size s.built) s.symbols → OkSo (read_items s is)
read_fits [] s h = h
read_fits (i ∷ is) s h = go (read_fits is) (step (colon_next is) false i s.symbols s.built) (step_fits (colon_next is) false i s.symbols s.built h)
  where
    go : ((c : Sofar) → Fits (size c.built) c.symbols → OkSo (read_items c is)) → (q : Result Sofar ClaimFaultKind) → OkSo q
        → OkSo {K = ClaimFault} (elim q [ Ok c ↦ read_items c is | Err k ↦ Err (record { kind = k; at = i.at }) ])
    go rest (Ok c) k = rest c k
    go rest (Err e) k = tt

abbrev IsFew : Result Program ClaimFault → Type 0
IsFew (Ok P) = length P.statements ≤ most_statements
IsFew (Err f) = ⊤

few_of : (n : ℕ) (ss : List Symbol) → Fits n ss → n ≤ most_statements
few_of n ss (inl (l, c)) = l
few_of n ss (inr (l, d)) = omega (arith, l)

-- the number of statements of a claim
pub few_statements : (text : List ℕ) (P : Program) → claim_answer text ≡ Ok P → length P.statements ≤ most_statements
few_statements text P e = subst IsFew e (short (nat_lt most_bytes (length text)))
  where
    at_most : 0 ≤ most_statements
    at_most = omega arith

    labelled : (s : Sofar) (all : Bool) → Fits (size s.built) s.symbols
        → IsFew (if all then Ok s.built.program else Err (record { kind = UndefinedLabel; at = unwrap_or (undefined s.built.program.labels false (claim_items text)) (length text) }))
    labelled s true h = few_of (size s.built) s.symbols h
    labelled s false h = tt

    ended : (s : Sofar) (k : Option ClaimFaultKind) → Fits (size s.built) s.symbols
        → IsFew (elim k [ Some k ↦ Err (record { kind = k; at = length text }) | None ↦ unless_undefined (claim_items text) (length text) s.built.program ])
    ended s (Some k) h = tt
    ended s None h = labelled s (list_all (λ l. is_label l s.built.program.labels) s.built.program.gotos) h

    whole : (q : Result Sofar ClaimFault) → OkSo q → IsFew (ended_with (claim_items text) (length text) q)
    whole (Ok s) h = ended s (end_kind s (length text)) h
    whole (Err f) h = tt

    short : (long : Bool) → IsFew (if long then Err (record { kind = LimitPassed; at = most_bytes }) else ended_with (claim_items text) (length text) (read_items at_first (claim_items text)))
    short true = tt
    short false = whole (read_items at_first (claim_items text)) (read_fits (claim_items text) at_first (inl (at_most, (tt, (tt, (tt, (tt, (tt, tt))))))))
