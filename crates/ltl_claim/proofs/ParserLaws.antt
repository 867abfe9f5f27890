-- The stack of symbols, and tokens that begin nothing.
use Rattle.std.proofs.Common.{◌≡◌, ◌∙◌, ℕ, ◌≤◌, Bool, true, false, cond, not, ◌||◌, List, [], ◌∷◌, ◌++◌, map, length, Option, Some, None, refl, sym, ap, subst, append_assoc, arith}
use Rattle.std.proofs.lemmas.Bool.Decides.{nat_tests}
use Rattle.std.proofs.lemmas.List.Sums.{fold-append}
use Rattle.std.proofs.lemmas.List.{map-append}
use Rattle.std.specs.Prelude.{fold, if◌then◌else◌, ◌&&◌, ◌==◌, nat_le, Result, Ok, Err, option_map, is_some, unwrap_or}
use Rattle.ltl_spec.specs.Semantics.Word.{Name}
use Rattle.ltl_spec.specs.Formulas.Tokens.{same_name}
use Rattle.ltl_spec.specs.Formulas.Names.{is_proposition}
use Rattle.ltl_spec.specs.Collections.Lists.{first_occurrences, with_new}
use Rattle.ltl_spec.specs.Claims.ClaimMachine.{Built, Sofar, Now, behind, may_be_left_out, with_more}
use Rattle.ltl_spec.specs.Claims.ClaimProgram as program
use Rattle.ltl_claim.specs.ClaimItems.{ClaimItem, Tell, Plain, Arrow, Known, Broken}
use Rattle.ltl_claim.specs.ClaimFault.{ClaimFaultKind, BadToken, ElseTwice, Unsupported}
use Rattle.ltl_claim.specs.ClaimAnswer.{end_item, end_kind}
use Rattle.indexmap.specs.IndexSet.{insert_key}
use Rattle.std.specs.List.{list_any}
use Rattle.ltl_claim.specs.ClaimStep.{action_of, behind_item, begins_item, fitting_fault, is_another, is_full, is_past, else_fault, has_otherwise, label_fault, most_names, most_statements, number_fault, word_fault, refusal, step, unless_fault}
use Rattle.ltl_claim.specs.declared.symbol.Symbol.TheVariants as code
use Rattle.ltl_claim.specs.declared.token.TokenKind.{TokenKind}
use Rattle.ltl_claim.specs.declared.token.TokenKind.TheVariants as kind
use Rattle.ltl_claim.specs.TokenView.{kind_of, tell_of, token_of}
use Rattle.ltl_claim.specs.declared.fault.ClaimFaultKind as codes
use Rattle.ltl_claim.specs.ParserView.{Does, ParserView, Pushes, Takes, first_part, only}
use Rattle.ltl_claim.specs.ProgramView.{Acts, BuiltView, built_of, statement_of}
use Rattle.ltl_claim.proofs.ProgramLaws.{mapped_length}
use Rattle.ltl_spec.specs.Claims.ClaimMachine as machine
use Rattle.ltl_claim.specs.declared.symbol.Symbol.{Symbol}
use Rattle.ltl_claim.specs.declared.symbol.Action.{Action}
use Rattle.ltl_claim.specs.SymbolView.{is_first, symbol_of, symbols_of, with_symbol}

-- symbols on a stack
pub stacked : (ys : List Symbol) (acc : List machine.Symbol) → fold with_symbol acc ys ≡ symbols_of ys ++ acc
stacked [] acc = refl
stacked (y ∷ ys) acc =
    stacked ys (symbol_of y ∷ acc) ∙ sym (append_assoc (symbols_of ys) (symbol_of y ∷ []) acc) ∙ ap (λ s. s ++ acc) (sym (stacked ys (symbol_of y ∷ [])))

-- ---- the definition's step

-- a symbol that is no action
pub no_action : (s : Symbol) → ((a : Action) → s ≡ code.Now a → ⊥) → action_of (symbol_of s) ≡ None
no_action (code.Now a) n = absurd (n a refl)
no_action s n = refl

module _ (labels in_list : Bool) (i : ClaimItem) (ss : List machine.Symbol) (b : Built) where
  -- an action was done
  pub step_acts : (f : Built → Option Built) (c : Built) → f b ≡ Some c → step labels in_list i (Now f ∷ ss) b ≡ step labels in_list i ss c
  step_acts f c e = ap (λ (o : Option Built). elim o [ Some d ↦ step labels in_list i ss d | None ↦ Err BadToken ]) e

  -- it can't be done
  pub step_stops : (f : Built → Option Built) → f b ≡ None → step labels in_list i (Now f ∷ ss) b ≡ Err BadToken
  step_stops f e = ap (λ (o : Option Built). elim o [ Some d ↦ step labels in_list i ss d | None ↦ Err BadToken ]) e

  module _ (s : machine.Symbol) (none : action_of s ≡ None) where
    at_symbol : step labels in_list i (s ∷ ss) b ≡ elim (behind_item labels s i) [
      | Some more ↦ unless_fault (fitting_fault labels (begins_item s) s i.token b) (record { symbols = more ++ ss; built = b })
      | None ↦ if may_be_left_out s then step labels (in_list || is_another s) i ss b else Err (refusal labels in_list s ss i)
    ]
    at_symbol =
        ap (λ (o : Option (Built → Option Built)). elim o [
          | Some f ↦ elim (f b) [ Some c ↦ step labels in_list i ss c | None ↦ Err BadToken ]
          | None ↦ elim (behind_item labels s i) [
            | Some more ↦ unless_fault (fitting_fault labels (begins_item s) s i.token b) (record { symbols = more ++ ss; built = b })
            | None ↦ if may_be_left_out s then step labels (in_list || is_another s) i ss b else Err (refusal labels in_list s ss i)
          ]
        ]) none

    -- a token that fits
    pub step_fits : (more new : List machine.Symbol) → option_map (λ m. m ++ ss) (behind_item labels s i) ≡ Some new
        → step labels in_list i (s ∷ ss) b ≡ unless_fault (fitting_fault labels (begins_item s) s i.token b) (record { symbols = new; built = b })
    step_fits more new e = at_symbol ∙ go (behind_item labels s i) e
      where
        go : (o : Option (List machine.Symbol)) → option_map (λ m. m ++ ss) o ≡ Some new → elim o [
          | Some more ↦ unless_fault (fitting_fault labels (begins_item s) s i.token b) (record { symbols = more ++ ss; built = b })
          | None ↦ if may_be_left_out s then step labels (in_list || is_another s) i ss b else Err (refusal labels in_list s ss i)
        ] ≡ unless_fault (fitting_fault labels (begins_item s) s i.token b) (record { symbols = new; built = b })
        go (Some m) e = ap (λ (o : Option (List machine.Symbol)). elim o [
          | Some l ↦ unless_fault (fitting_fault labels (begins_item s) s i.token b) (record { symbols = l; built = b })
          | None ↦ Err BadToken
        ]) e
        go None e = cc

    -- one that doesn't
    pub step_leaves : behind_item labels s i ≡ None → may_be_left_out s ≡ true → step labels in_list i (s ∷ ss) b ≡ step labels (in_list || is_another s) i ss b
    step_leaves e m = at_symbol ∙ rw (e, m) refl

    pub step_refuses : behind_item labels s i ≡ None → may_be_left_out s ≡ false → step labels in_list i (s ∷ ss) b ≡ Err (refusal labels in_list s ss i)
    step_refuses e m = at_symbol ∙ rw (e, m) refl

-- ---- tokens that begin nothing

pub operand_none : (w : Name) (k : TokenKind) → (k ≡ kind.NotSign → ⊥) → (k ≡ kind.OpenBracket → ⊥) → ((b : Bool) → k ≡ kind.Truth b → ⊥) → (k ≡ kind.Word → machine.operand (token_of w kind.Word) ≡ None)
    → only (tell_of k) (machine.operand (token_of w k)) ≡ None
operand_none w kind.NotSign a b c d = absurd (a refl)
operand_none w kind.OpenBracket a b c d = absurd (b refl)
operand_none w (kind.Truth t) a b c d = absurd (c t refl)
operand_none w kind.Word a b c d = d refl
operand_none w k a b c d = refl

-- ---- more symbols behind a token

pub with_pushed : (ys ss new : List machine.Symbol) (t : Tell) (o : Option (List machine.Symbol)) → option_map (λ m. m ++ (ys ++ ss)) (only t o) ≡ Some new
    → option_map (λ m. m ++ ss) (only t (with_more ys o)) ≡ Some new
with_pushed ys ss new Plain (Some m) e = ap (λ l. Some l) (append_assoc m ys ss) ∙ e
with_pushed ys ss new Plain None e = cc
with_pushed ys ss new Arrow (Some m) e = ap (λ l. Some l) (append_assoc m ys ss) ∙ e
with_pushed ys ss new Arrow None e = cc
with_pushed ys ss new Known o e = cc
with_pushed ys ss new Broken o e = cc

pub none_pushed : (ys : List machine.Symbol) (t : Tell) (o : Option (List machine.Symbol)) → is_some (only t o) ≡ false → only t (with_more ys o) ≡ None
none_pushed ys Plain (Some m) e = cc
none_pushed ys Plain None e = refl
none_pushed ys Arrow (Some m) e = cc
none_pushed ys Arrow None e = refl
none_pushed ys Known o e = refl
none_pushed ys Broken o e = refl

-- a token that is no word of a head begins a guard there
pub head_other : (inside : Bool) (w : Name) (k : TokenKind) → (k ≡ kind.Assert → ⊥) → (k ≡ kind.Atomic → ⊥)
    → machine.head inside (token_of w k) ≡ with_more (Now (machine.one_tested program.Test inside) ∷ []) (machine.guard (token_of w k))
head_other inside w kind.Assert a b = absurd (a refl)
head_other inside w kind.Atomic a b = absurd (b refl)
head_other inside w k a b = refl

-- another token begins no more than a head
pub statement_other : (labels : Bool) (w : Name) (k : TokenKind) → (labels ≡ true → k ≡ kind.Word → ⊥) → (k ≡ kind.If → ⊥) → (k ≡ kind.Do → ⊥)
    → machine.statement labels (token_of w k) ≡ machine.head false (token_of w k)
statement_other true w kind.Word a b c = absurd (a refl refl)
statement_other labels w kind.If a b c = absurd (b refl)
statement_other labels w kind.Do a b c = absurd (c refl)
statement_other true w k a b c = refl
statement_other false w k a b c = refl

pub item_other : (labels : Bool) (w : Name) (k : TokenKind) → (k ≡ kind.Goto → ⊥) → (k ≡ kind.Break → ⊥) → machine.item labels (token_of w k) ≡ machine.statement labels (token_of w k)
item_other labels w kind.Goto a b = absurd (a refl)
item_other labels w kind.Break a b = absurd (b refl)
item_other labels w k a b = refl

pub first_other : (w : Name) (k : TokenKind) → (k ≡ kind.Goto → ⊥) → (k ≡ kind.Break → ⊥) → (k ≡ kind.Else → ⊥) → first_part (token_of w k) ≡ machine.head true (token_of w k)
first_other w kind.Goto a b c = absurd (a refl)
first_other w kind.Break a b c = absurd (b refl)
first_other w kind.Else a b c = absurd (c refl)
first_other w k a b c = refl

-- ---- what is pushed

pub pushed_symbols : (xs ys new : List Symbol) → new ≡ xs ++ ys → symbols_of ys ++ symbols_of xs ≡ symbols_of new
pushed_symbols xs ys new e = sym (ap symbols_of e ∙ fold-append with_symbol [] xs ys ∙ stacked ys (symbols_of xs))

pub some_more : (ys : List machine.Symbol) (t : Tell) (o : Option (List machine.Symbol)) → is_some (only t (with_more ys o)) ≡ is_some (only t o)
some_more ys Plain (Some m) = refl
some_more ys Plain None = refl
some_more ys Arrow (Some m) = refl
some_more ys Arrow None = refl
some_more ys Known o = refl
some_more ys Broken o = refl

module _ {E : Type 0} (ys : List machine.Symbol) (t : Tell) (o : Option (List machine.Symbol)) (v u x : ParserView) where
  -- symbols that were pushed before those of a token
  pub pushed_below : (r : Result Bool E) (b : Bool) → is_some (only t o) ≡ true → Pushes {E = E} (Some ys) v (Ok b) u → Pushes (only t o) u r x → Pushes (only t (with_more ys o)) v r x
  pushed_below (Ok true) true s p q =
      let below : symbols_of u.symbols ≡ ys ++ symbols_of v.symbols = ap (λ (l : Option (List machine.Symbol)). unwrap_or l []) (sym p.0) in
      (with_pushed ys (symbols_of v.symbols) (symbols_of x.symbols) t o (ap (λ l. option_map (λ m. m ++ l) (only t o)) (sym below) ∙ q.0), q.1 ∙ p.1, q.2 ∙ p.2)
  pushed_below (Ok false) true s p q = absurd (go (only t o) s q.0)
    where
      go : (l : Option (List machine.Symbol)) → is_some l ≡ true → l ≡ None → ⊥
      go (Some m) s e = cc
      go None s e = cc
  pushed_below (Err e) true s p q = tt
  pushed_below r false s p q = absurd (go p.0)
    where
      go : ◌≡◌ {A = Option (List machine.Symbol)} (Some ys) None → ⊥
      go e = cc

another_more : (labels : Bool) (w : Name) (k : TokenKind) → (k ≡ kind.Semicolon → ⊥) → (k ≡ kind.Arrow → ⊥)
    → machine.behind labels machine.Another (token_of w k) ≡ with_more (machine.May machine.More ∷ []) (machine.item labels (token_of w k))
another_more labels w kind.Semicolon a b = absurd (a refl)
another_more labels w kind.Arrow a b = absurd (b refl)
another_more labels w k a b = refl

pub another_other : {E : Type 0} (labels : Bool) (w : Name) (k : TokenKind) (v x : ParserView) (r : Result Bool E) → (k ≡ kind.Semicolon → ⊥) → (k ≡ kind.Arrow → ⊥)
    → Pushes (only (tell_of k) (with_more (machine.May machine.More ∷ []) (machine.item labels (token_of w k)))) v r x → Pushes (only (tell_of k) (machine.behind labels machine.Another (token_of w k))) v r x
another_other labels w k v x r a b p = subst (λ o. Pushes (only (tell_of k) o) v r x) (sym (another_more labels w k a b)) p

-- ---- which tokens begin an item

pub item_begins : (labels : Bool) (w : Name) (k : TokenKind) → (k ≡ kind.Goto → ⊥) → (k ≡ kind.Break → ⊥) → (k ≡ kind.If → ⊥) → (k ≡ kind.Do → ⊥) → (k ≡ kind.Assert → ⊥) → (k ≡ kind.Atomic → ⊥)
    → (k ≡ kind.Word → ⊥) → is_some (only (tell_of k) (machine.operand (token_of w k))) ≡ is_some (only (tell_of k) (machine.item labels (token_of w k)))
item_begins labels w kind.Goto a b c d e f g = absurd (a refl)
item_begins labels w kind.Break a b c d e f g = absurd (b refl)
item_begins labels w kind.If a b c d e f g = absurd (c refl)
item_begins labels w kind.Do a b c d e f g = absurd (d refl)
item_begins labels w kind.Assert a b c d e f g = absurd (e refl)
item_begins labels w kind.Atomic a b c d e f g = absurd (f refl)
item_begins labels w kind.Word a b c d e f g = absurd (g refl)
item_begins true w k a b c d e f g = refl
item_begins false w k a b c d e f g = refl

pub word_begins : (labels : Bool) (w : Name) → (labels || is_proposition w) ≡ is_some (only (tell_of kind.Word) (machine.item labels (token_of w kind.Word)))
word_begins true w = refl
word_begins false w = go (is_proposition w)
  where
    go : (b : Bool) → b ≡ is_some (with_more (Now (machine.one_tested program.Test false) ∷ []) (with_more (machine.May machine.Conjunct ∷ machine.May machine.Disjunct ∷ []) (if b then Some (Now (machine.named w) ∷ []) else None)))
    go true = refl
    go false = refl

-- ---- symbols by themselves

only_none : (t : Tell) → only t None ≡ None
only_none Plain = refl
only_none Arrow = refl
only_none Known = refl
only_none Broken = refl

module _ (labels : Bool) (w : Name) where
  pub now_other : (f : Built → Option Built) (k : TokenKind) → only (tell_of k) (machine.behind labels (Now f) (token_of w k)) ≡ None
  now_other f k = only_none (tell_of k)

-- ---- tokens that fit

pub full_view : (all : List Name) (v : BuiltView) → nat_le most_statements (length v.statements) ≡ is_full (built_of all v)
full_view all v = ap (nat_le most_statements) (sym (mapped_length statement_of v.statements))

module _ (n : Name) (b : Built) where
  pub word_label : (item : Bool) (s : machine.Symbol) → item ≡ true → word_fault true item s n b ≡ label_fault n b
  word_label item s e = ap (λ x. word_fault true x s n b) e

  pub word_first : (item : Bool) (s : machine.Symbol) → item ≡ false → is_first s ≡ true → word_fault true item s n b ≡ Some Unsupported
  word_first item machine.AFirst e f = ap (λ x. word_fault true x machine.AFirst n b) e
  word_first item s e f = cc

  pub word_plain : (item : Bool) (s : machine.Symbol) → item ≡ false → is_first s ≡ false → word_fault true item s n b ≡ word_fault false item s n b
  word_plain true s e f = cc
  word_plain false machine.AFirst e f = cc
  word_plain false s e f = refl

pub else_first : (item : Bool) (s : machine.Symbol) (b : Built) → is_first s ≡ true → else_fault item s b ≡ (if has_otherwise b then Some ElseTwice else None)
else_first item machine.AFirst b e = refl
else_first item s b e = cc

pub else_other : (item : Bool) (s : machine.Symbol) (b : Built) → is_first s ≡ false → else_fault item s b ≡ number_fault item b
else_other item machine.AFirst b e = cc
else_other item s b e = refl

pub fitting_other : (labels item : Bool) (s : machine.Symbol) (w : Name) (k : TokenKind) (b : Built) → (k ≡ kind.Word → ⊥) → (k ≡ kind.Goto → ⊥) → (k ≡ kind.Break → ⊥) → (k ≡ kind.Else → ⊥)
    → (k ≡ kind.Semicolon → ⊥) → (k ≡ kind.Arrow → ⊥) → fitting_fault labels item s (token_of w k) b ≡ number_fault item b
fitting_other labels item s w kind.Word b n1 n2 n3 n4 n5 n6 = absurd (n1 refl)
fitting_other labels item s w kind.Goto b n1 n2 n3 n4 n5 n6 = absurd (n2 refl)
fitting_other labels item s w kind.Break b n1 n2 n3 n4 n5 n6 = absurd (n3 refl)
fitting_other labels item s w kind.Else b n1 n2 n3 n4 n5 n6 = absurd (n4 refl)
fitting_other labels item s w kind.Semicolon b n1 n2 n3 n4 n5 n6 = absurd (n5 refl)
fitting_other labels item s w kind.Arrow b n1 n2 n3 n4 n5 n6 = absurd (n6 refl)
fitting_other labels item s w k b n1 n2 n3 n4 n5 n6 = refl

pub and_then : (a b c : Bool) → a ≡ true → c ≡ b → c ≡ (a && b)
and_then a b c e f = f ∙ ap (λ x. x && b) (sym e)

pub and_else : (a b : Bool) → a ≡ false → false ≡ (a && b)
and_else a b e = ap (λ x. x && b) (sym e)

-- ---- actions

pub acts_does : {E : Type 0} (f : Built → Option Built) (v w : ParserView) (r : Result Bool E) → w.symbols ≡ v.symbols → w.names ≡ v.names → Acts f v.built r w.built → Does f v r w
acts_does f v w (Ok true) s n a = (s, λ all e. (all, n ∙ e, a all))
acts_does f v w (Ok false) s n a = a
acts_does f v w (Err x) s n a = tt

pub name_does : (E : Type 0) (v w : ParserView) (n : Name) → w.symbols ≡ v.symbols → w.names ≡ with_new same_name v.names n
    → ((names : List Name) → machine.named n (built_of names v.built) ≡ Some (built_of (names ++ n ∷ []) w.built)) → Does {E = E} (machine.named n) v (Ok true) w
name_does E v w n s e a =
    (s, λ all h. (all ++ n ∷ [], e ∙ ap (λ ns. with_new same_name ns n) h ∙ sym (fold-append (with_new same_name) [] all (n ∷ [])), a all))

-- ---- the stack

pub popped_symbols : (xs old : List Symbol) (s : Symbol) → old ≡ xs ++ s ∷ [] → symbols_of old ≡ symbol_of s ∷ symbols_of xs
popped_symbols xs old s e = ap symbols_of e ∙ fold-append with_symbol [] xs (s ∷ [])

pub end_some : (ss : List machine.Symbol) (b : Built) (size : ℕ) (k : ClaimFaultKind) → (ss ≡ [] → ⊥) → step false false (end_item size) ss b ≡ Err k
    → end_kind (record { symbols = ss; built = b }) size ≡ Some k
end_some [] b size k n e = absurd (n refl)
end_some (s ∷ ss) b size k n e = ap (λ (r : Result Sofar ClaimFaultKind). elim r [ Ok c ↦ Some BadToken | Err f ↦ Some f ]) e

pub no_symbols : (xs : List Symbol) → symbols_of xs ≡ [] → xs ≡ []
no_symbols [] e = refl
no_symbols (x ∷ xs) e = absurd (go (symbols_of xs) (sym (stacked xs (symbol_of x ∷ [])) ∙ e))
  where
    go : (ss : List machine.Symbol) → ss ++ symbol_of x ∷ [] ≡ [] → ⊥
    go [] e = cc
    go (s ∷ ss) e = cc

-- ---- names by their keys

le_true : (a b : ℕ) → a ≤ b → nat_le a b ≡ true
le_true a b l = grind (arith, nat_tests)

module _ {K : Type 0} (name : K → Name) where
  both_any : {a b c d : Bool} → a ≡ b → c ≡ d → (a || c) ≡ (b || d)
  both_any e f = λ i. e i || f i

  pub any_view : (test : K → Bool) (n : Name) → ((x : K) → test x ≡ same_name n (name x)) → (ks : List K) → list_any test ks ≡ list_any (same_name n) (map name ks)
  any_view test n is [] = refl
  any_view test n is (k ∷ ks) = both_any (is k) (any_view test n is ks)

  pub keys_inserted : (eq : K → K → Bool) → ((x y : K) → eq x y ≡ same_name (name x) (name y)) → (ks : List K) (k : K) → map name (insert_key eq ks k) ≡ with_new same_name (map name ks) (name k)
  keys_inserted eq is ks k =
      ap (λ b. map name (cond b ks (ks ++ k ∷ []))) (any_view (eq k) (name k) (is k) ks)
      ∙ (elim (list_any (same_name (name k)) (map name ks)) as (λ b. map name (cond b ks (ks ++ k ∷ [])) ≡ cond b (map name ks) (map name ks ++ name k ∷ [])) [
        | true ↦ refl
        | false ↦ map-append name ks (k ∷ [])
      ])

  pub past_view : (test : K → Bool) (n : Name) → ((x : K) → test x ≡ same_name n (name x)) → (ks : List K) (all : List Name) (v : BuiltView) (size : ℕ) (c : Bool)
      → map name ks ≡ first_occurrences same_name all → size ≡ length ks → most_names ≤ size → c ≡ list_any test ks → not c ≡ is_past n (built_of all v)
  past_view test n is ks all v size c e l m h =
      let k : most_names ≤ length (map name ks) = let j = mapped_length name ks in omega (arith, j, l, m) in
      ap not (h ∙ any_view test n is ks) ∙ ap (λ b. b && not (list_any (same_name n) (map name ks))) (sym (le_true most_names (length (map name ks)) k))
      ∙ ap (λ ns. nat_le most_names (length ns) && not (list_any (same_name n) ns)) e

-- ---- a symbol that a token begins

module _ (E : Type 0) (labels in_list : Bool) (i : ClaimItem) (s : Symbol) (v u p w : ParserView)
    (inv : (all : List Name) → v.names ≡ first_occurrences same_name all → (more : List Name) × (u.names ≡ first_occurrences same_name more)
    × (step labels false i (symbols_of v.symbols) (built_of all v.built) ≡ step labels in_list i (symbols_of u.symbols) (built_of more u.built)))
    (stack : symbols_of u.symbols ≡ symbol_of s ∷ symbols_of p.symbols) (same_names : p.names ≡ u.names) (same_built : p.built ≡ u.built) (none : action_of (symbol_of s) ≡ None) where
  pub take_fits : (b : Bool) → b ≡ true → Pushes {E = E} (behind_item labels (symbol_of s) i) p (Ok b) w → (r : Option codes.ClaimFaultKind)
      → ((all : List Name) → w.names ≡ first_occurrences same_name all → option_map kind_of r ≡ fitting_fault labels (begins_item (symbol_of s)) (symbol_of s) i.token (built_of all w.built))
      → Takes {E = E} labels i v (Ok r) w
  take_fits true t x r early = go r early
    where
      full : (more : List Name) → step labels in_list i (symbols_of u.symbols) (built_of more u.built)
          ≡ unless_fault (fitting_fault labels (begins_item (symbol_of s)) (symbol_of s) i.token (built_of more u.built)) (record { symbols = symbols_of w.symbols; built = built_of more u.built })
      full more =
          ap (λ ss. step labels in_list i ss (built_of more u.built)) stack
          ∙ step_fits labels in_list i (symbols_of p.symbols) (built_of more u.built) (symbol_of s) none [] (symbols_of w.symbols) x.0

      told : (more : List Name) → u.names ≡ first_occurrences same_name more → (q : Option codes.ClaimFaultKind)
          → ((all : List Name) → w.names ≡ first_occurrences same_name all → option_map kind_of q ≡ fitting_fault labels (begins_item (symbol_of s)) (symbol_of s) i.token (built_of all w.built))
          → fitting_fault labels (begins_item (symbol_of s)) (symbol_of s) i.token (built_of more u.built) ≡ option_map kind_of q
      told more f q early =
          sym (early more (x.2 ∙ same_names ∙ f) ∙ ap (λ c. fitting_fault labels (begins_item (symbol_of s)) (symbol_of s) i.token (built_of more c)) (x.1 ∙ same_built))

      go : (q : Option codes.ClaimFaultKind)
          → ((all : List Name) → w.names ≡ first_occurrences same_name all → option_map kind_of q ≡ fitting_fault labels (begins_item (symbol_of s)) (symbol_of s) i.token (built_of all w.built))
          → Takes {E = E} labels i v (Ok q) w
      go None early = λ all e.
          let (more, f, q) = inv all e in (
            more,
            x.2 ∙ same_names ∙ f,
            q ∙ full more ∙ ap (λ o. unless_fault o (record { symbols = symbols_of w.symbols; built = built_of more u.built })) (told more f None early)
                ∙ ap (λ c. Ok (record { symbols = symbols_of w.symbols; built = built_of more c })) (sym (x.1 ∙ same_built)),
          )
      go (Some k) early = λ all e.
          let (more, f, q) = inv all e in
          q ∙ full more ∙ ap (λ o. unless_fault o (record { symbols = symbols_of w.symbols; built = built_of more u.built })) (told more f (Some k) early)
  take_fits false t x r early = cc

pub taken_some : (E : Type 0) (labels : Bool) (i : ClaimItem) (v w : ParserView) (o : Option codes.ClaimFaultKind) (k : codes.ClaimFaultKind) → o ≡ Some k → Takes {E = E} labels i v (Ok o) w
    → (all : List Name) → v.names ≡ first_occurrences same_name all → step labels false i (symbols_of v.symbols) (built_of all v.built) ≡ Err (kind_of k)
taken_some E labels i v w o k e t = subst (λ q. Takes {E = E} labels i v (Ok q) w) e t

pub not_empty : (n : ℕ) (r : Bool) → r ≡ (n == 0) → r ≡ false → n ≡ 0 → ⊥
not_empty n r e f z = go (sym f ∙ e ∙ ap (λ m. m == 0) z)
  where
    go : false ≡ true → ⊥
    go q = cc
