-- A reader with one explicit stack: it goes over the tokens once, from the left, and answers the formula.
-- The stack's top is the head of its list.
use Rattle.std.proofs.Common.{◌≡◌, ℕ, zero, suc, ◌-◌, ◌<◌, ◌≤◌, true, false, cond, nat_eq, nat_le, List, [], ◌∷◌, ◌++◌, fold, Option, Some, None, slice_get, refl, sym, ◌∙◌, ap, subst, arith, le-leb, leb-true, leb-false, append_assoc, append-nil}
use Rattle.std.proofs.lemmas.Bool.{lt-leb}
use Rattle.std.proofs.lemmas.Bool.Decides.{nat_tests}
use Rattle.std.specs.Prelude.{⊤, if◌then◌else◌}
use Rattle.std.specs.List.{AllByRecursion}
use Rattle.std.proofs.lemmas.Option.{slice_get-get_or, same_Some}
use Rattle.std.proofs.lemmas.Slice.Eq.{bytes_eq-Decides}
use Rattle.ltl_spec.specs.Collections.Sets.{Has}
use Rattle.ltl_spec.specs.Collections.Lists.{HasNoRepeats, place_of}
use Rattle.ltl_spec.specs.Semantics.Word.{Name}
use Rattle.ltl_spec.specs.Formulas.Formula.{Formula, Constant, Proposition, Unary, Binary, BinaryOperator, Implies, Until}
use Rattle.ltl_spec.specs.Formulas.Tokens.{Token, ConstantWord, NameWord, UnarySign, BinarySign, Open, Close, same_name}
use Rattle.ltl_spec.proofs.Collections.ListLaws.{place_below, at_place}
use Rattle.ltl_spec.specs.Formulas.Grammar.{Parses, of_constant, of_name, of_brackets, of_unary, of_tighter, of_left, of_right, rank_of, groups_right}
use Rattle.ltl_spec.proofs.Formulas.NameLaws.{place_only}
pub use Rattle.ltl_spec.specs.Formulas.GrammarMachine.{Frame, Bracket, Prefix, Pending, Reader, Wanting, Having, left_rank, close, unbracketed, unopened, read_step, finished}

-- and of a right one
abbrev pub right_rank : BinaryOperator → ℕ
right_rank op = if groups_right op then rank_of op else rank_of op - 1

-- the same from a reader that may be stuck
abbrev pub read_on : List Name → Option Reader → Token → Option Reader
read_on names None t = None
read_on names (Some r) t = read_step names r t

-- the reader after these tokens, `None` where it got stuck
abbrev pub run : List Name → Option Reader → List Token → Option Reader
run names r ts = fold (read_on names) r ts

-- the formula of a reader that may be stuck
abbrev pub finished_if : Option Reader → Option Formula
finished_if None = None
finished_if (Some r) = finished r

-- the formula that is read from all these tokens
abbrev pub read : List Name → List Token → Option Formula
read names ts = finished_if (run names (Some (Wanting [])) ts)

-- ranks

-- the bounds of the ranks
pub rank_bounds : (op : BinaryOperator) → (1 ≤ rank_of op) × (rank_of op ≤ 5) × (left_rank op ≤ rank_of op) × (right_rank op ≤ rank_of op)
rank_bounds Until = omega arith
rank_bounds _ = omega arith

-- operators of one rank group to one side
grouping : (op : BinaryOperator) → groups_right op ≡ nat_eq (rank_of op) 4
grouping Until = refl
grouping _ = refl

-- an operator stays open before another exactly where the other may stand in its right operand
stays_open : (op op' : BinaryOperator) → left_rank op < rank_of op' → rank_of op ≤ right_rank op'
stays_open op op' l = let b = rank_bounds op in let e = grouping op in let f = grouping op' in grind (arith, nat_tests)

-- and the other way round
opens_again : (op op' : BinaryOperator) → rank_of op ≤ right_rank op' → left_rank op < rank_of op'
opens_again op op' l = let b = rank_bounds op in let e = grouping op in let f = grouping op' in grind (arith, nat_tests)

-- the steps of closing

-- an operator that binds tightly enough closes
pub closes_over : (op : BinaryOperator) (n : ℕ) (a b : Formula) (s : List Frame) → rank_of op ≤ n → close n b (Pending a op ∷ s) ≡ close n (Binary op a b) s
closes_over op n a b s l = ap (λ c. cond c (close n (Binary op a b) s) (b, Pending a op ∷ s)) (le-leb _ _ l)

-- one that doesn't stays
pub closes_no_more : (op : BinaryOperator) (n : ℕ) (a b : Formula) (s : List Frame) → n < rank_of op → close n b (Pending a op ∷ s) ≡ (b, Pending a op ∷ s)
closes_no_more op n a b s l = ap (λ c. cond c (close n (Binary op a b) s) (b, Pending a op ∷ s)) (lt-leb _ _ l)

-- what has a rank has each higher one
pub of_higher : {names : List Name} (n m : ℕ) (ts : List Token) (F : Formula) → m ≤ n → Parses names m ts F → Parses names n ts F
of_higher {names} zero m ts F l d = let e : m ≡ 0 = omega arith in subst (λ k. Parses names k ts F) e d
of_higher {names} (suc n) m ts F l d =
    elim (nat_le m n) as (λ b. nat_le m n ≡ b → Parses names (suc n) ts F) [
      | true ↦ λ e. of_tighter n ts F (of_higher n m ts F (leb-true m n e) d)
      | false ↦ λ e. let g = leb-false m n e in let same : m ≡ suc n = omega arith in subst (λ k. Parses names k ts F) same d
    ] refl

-- a binary operator with its operands, however it groups
pub of_binary : {names : List Name} (op : BinaryOperator) (xs ys us : List Token) (a b : Formula)
    → us ≡ xs ++ BinarySign op ∷ ys → Parses names (left_rank op) xs a → Parses names (right_rank op) ys b → Parses names (rank_of op) us (Binary op a b)
of_binary Implies xs ys us a b e d f = of_right Implies 3 xs ys us a b refl refl e d f
of_binary op xs ys us a b e d f = of_left op (rank_of op - 1) xs ys us a b refl refl e d f

-- the ranks of the operands of an operator that groups to the left
left_ranks : (op : BinaryOperator) (r : ℕ) → rank_of op ≡ suc r → groups_right op ≡ false → (left_rank op ≡ suc r) × (right_rank op ≡ r)
left_ranks op r e g = grind (arith, nat_tests)

-- and of one that groups to the right
right_ranks : (op : BinaryOperator) (r : ℕ) → rank_of op ≡ suc r → groups_right op ≡ true → (left_rank op ≡ r) × (right_rank op ≡ suc r)
right_ranks op r e g = grind (arith, nat_tests)

-- what the reader has read

-- the highest rank of the operand that stands on these frames
abbrev pub room : List Frame → ℕ
room [] = 5
room (Bracket ∷ s) = 5
room (Prefix op ∷ s) = 0
room (Pending a op ∷ s) = right_rank op

-- these tokens were read as these frames
abbrev pub Opened : List Name → List Token → List Frame → Type 0
Opened names ts [] = ts ≡ []
Opened names ts (Bracket ∷ s) = (us : List Token) × (ts ≡ us ++ Open ∷ []) × Opened names us s
Opened names ts (Prefix op ∷ s) = (us : List Token) × (ts ≡ us ++ UnarySign op ∷ []) × Opened names us s
Opened names ts (Pending a op ∷ s) =
    (us : List Token) × (xs : List Token) × (ts ≡ us ++ (xs ++ BinarySign op ∷ [])) × (rank_of op ≤ room s) × Parses names (left_rank op) xs a × Opened names us s

-- these tokens were read as these frames and an operand on them of at most this rank
pub record Standing (names : List Name) (n : ℕ) (ts : List Token) (F : Formula) (s : List Frame) : Type 0 where
  pub before : List Token
  pub operand : List Token
  pub rank : ℕ
  pub are : ts ≡ before ++ operand
  pub within : rank ≤ n
  pub fits : rank ≤ room s
  pub parses : Parses names rank operand F
  pub opened : Opened names before s

-- these tokens were read to this state
abbrev pub Stands : List Name → List Token → Reader → Type 0
Stands names ts (Wanting s) = Opened names ts s
Stands names ts (Having F s) = Standing names 0 ts F s

-- a list in three parts
regrouped : (ts bs us ms zs : List Token) → ts ≡ bs ++ zs → bs ≡ us ++ ms → ts ≡ us ++ (ms ++ zs)
regrouped ts bs us ms zs e f = e ∙ ap (λ l. l ++ zs) f ∙ append_assoc us ms zs

-- closing keeps that
close_stands : {names : List Name} (n : ℕ) (ts : List Token) (F : Formula) (s : List Frame) → Standing names n ts F s → Standing names n ts (close n F s).0 (close n F s).1
close_stands n ts F [] w = w
close_stands n ts F (Bracket ∷ s) w = w
close_stands {names} n ts F (Prefix op ∷ s) w =
    let f = w.fits in
    let none : w.rank ≡ 0 = omega arith in
    close_stands n ts (Unary op F) s (record {
      before = w.opened.0;
      operand = UnarySign op ∷ w.operand;
      rank = 0;
      are = regrouped ts w.before w.opened.0 (UnarySign op ∷ []) w.operand w.are w.opened.1;
      within = omega arith;
      fits = omega arith;
      parses = of_unary op w.operand F (subst (λ k. Parses names k w.operand F) none w.parses);
      opened = w.opened.2;
    })
close_stands {names} n ts F (Pending a op ∷ s) w =
    let o = w.opened in
    elim (nat_le (rank_of op) n) as (λ b. nat_le (rank_of op) n ≡ b
    → let c = cond b (close n (Binary op a F) s) (F, Pending a op ∷ s) in Standing names n ts c.0 c.1) [
      | true ↦ λ e. close_stands n ts (Binary op a F) s (record {
        before = o.0;
        operand = o.1 ++ BinarySign op ∷ w.operand;
        rank = rank_of op;
        are = regrouped ts w.before o.0 (o.1 ++ BinarySign op ∷ []) w.operand w.are o.2 ∙ ap (λ l. o.0 ++ l) (append_assoc o.1 (BinarySign op ∷ []) w.operand);
        within = leb-true _ _ e;
        fits = o.3;
        parses = of_binary op o.1 w.operand _ a F refl o.4 (of_higher (right_rank op) w.rank w.operand F w.fits w.parses);
        opened = o.5;
      })
      | false ↦ λ e. w
    ] refl

-- after closing before an operator the operator fits
fits_closed : (op : BinaryOperator) (F : Formula) (s : List Frame) → rank_of op ≤ room (close (left_rank op) F s).1
fits_closed op F [] = (rank_bounds op).1
fits_closed op F (Bracket ∷ s) = (rank_bounds op).1
fits_closed op F (Prefix op' ∷ s) = fits_closed op (Unary op' F) s
fits_closed op F (Pending a op' ∷ s) =
    elim (nat_le (rank_of op') (left_rank op)) as (λ b. nat_le (rank_of op') (left_rank op) ≡ b
    → rank_of op ≤ room (cond b (close (left_rank op) (Binary op' a F) s) (F, Pending a op' ∷ s)).1) [
      | true ↦ λ e. fits_closed op (Binary op' a F) s
      | false ↦ λ e. stays_open op op' (leb-false _ _ e)
    ] refl

-- a name that the list has stands at its place
name_at : (names : List Name) (n : Name) → Has names n → slice_get names (place_of same_name n names) ≡ Some n
name_at names n h = slice_get-get_or names _ n (place_below same_name bytes_eq-Decides n names h) ∙ ap Some (at_place same_name bytes_eq-Decides n names n h)

-- the list has the name, if the token is one
abbrev pub Knows : List Name → Token → Type 0
Knows names (NameWord n) = Has names n
Knows names _ = ⊤

-- a stuck reader has read nothing to be told
abbrev pub StandsIfSome : List Name → List Token → Option Reader → Type 0
StandsIfSome names ts None = ⊤
StandsIfSome names ts (Some r) = Stands names ts r

-- a bracket closes
unbracketed_stands : {names : List Name} (ts : List Token) (F : Formula) (s : List Frame) → Standing names 5 ts F s → StandsIfSome names (ts ++ Close ∷ []) (unbracketed F s)
unbracketed_stands ts F [] w = tt
unbracketed_stands ts F (Bracket ∷ s) w =
    let o = w.opened in
    record {
      before = o.0;
      operand = Open ∷ w.operand ++ Close ∷ [];
      rank = 0;
      are = ap (λ l. l ++ Close ∷ []) (regrouped ts w.before o.0 (Open ∷ []) w.operand w.are o.1) ∙ append_assoc o.0 (Open ∷ w.operand) (Close ∷ []);
      within = omega arith;
      fits = omega arith;
      parses = of_brackets w.operand _ F refl (of_higher 5 w.rank w.operand F w.within w.parses);
      opened = o.2;
    }
unbracketed_stands ts F (Prefix op ∷ s) w = tt
unbracketed_stands ts F (Pending a op ∷ s) w = tt

-- one token stands alone as an operand
one_stands : {names : List Name} (ts : List Token) (t : Token) (F : Formula) (s : List Frame) → Opened names ts s → Parses names 0 (t ∷ []) F → Standing names 0 (ts ++ t ∷ []) F s
one_stands ts t F s o d = record { before = ts; operand = t ∷ []; rank = 0; are = refl; within = omega arith; fits = omega arith; parses = d; opened = o }

-- an operator is put on the frames
pending_stands : {names : List Name} (op : BinaryOperator) (ts : List Token) (F : Formula) (s : List Frame)
    → rank_of op ≤ room s → Standing names (left_rank op) ts F s → Opened names (ts ++ BinarySign op ∷ []) (Pending F op ∷ s)
pending_stands op ts F s l w = (
  w.before,
  w.operand,
  ap (λ l. l ++ BinarySign op ∷ []) w.are ∙ append_assoc w.before w.operand (BinarySign op ∷ []),
  l,
  of_higher (left_rank op) w.rank w.operand F w.within w.parses,
  w.opened,
)

-- a unary operand has at most each rank
at_most : {names : List Name} (n : ℕ) (ts : List Token) (F : Formula) (s : List Frame) → Standing names 0 ts F s → Standing names n ts F s
at_most n ts F s w =
    let l = w.within in
    record { before = w.before; operand = w.operand; rank = w.rank; are = w.are; within = omega arith; fits = w.fits; parses = w.parses; opened = w.opened }

-- a token more
step_stands : (names : List Name) (r : Reader) (ts : List Token) (t : Token) → Knows names t → Stands names ts r → StandsIfSome names (ts ++ t ∷ []) (read_step names r t)
step_stands names (Wanting s) ts (ConstantWord b) k w = one_stands ts (ConstantWord b) (Constant b) s w (of_constant b)
step_stands names (Wanting s) ts (NameWord n) k w = one_stands ts (NameWord n) _ s w (of_name n _ (name_at names n k))
step_stands names (Wanting s) ts (UnarySign op) k w = (ts, refl, w)
step_stands names (Wanting s) ts Open k w = (ts, refl, w)
step_stands names (Wanting s) ts _ k w = tt
step_stands names (Having F s) ts (BinarySign op) k w =
    pending_stands op ts _ _ (fits_closed op F s) (close_stands (left_rank op) ts F s (at_most _ ts F s w))
step_stands names (Having F s) ts Close k w = unbracketed_stands ts _ _ (close_stands 5 ts F s (at_most _ ts F s w))
step_stands names (Having F s) ts _ k w = tt

-- the same from a reader that may be stuck
step_on_stands : (names : List Name) (r : Option Reader) (ts : List Token) (t : Token) → Knows names t → StandsIfSome names ts r → StandsIfSome names (ts ++ t ∷ []) (read_on names r t)
step_on_stands names None ts t k w = tt
step_on_stands names (Some r) ts t k w = step_stands names r ts t k w

-- many tokens more
run_stands : (names : List Name) (r : Option Reader) (ts us : List Token) → AllByRecursion (Knows names) us → StandsIfSome names ts r → StandsIfSome names (ts ++ us) (run names r us)
run_stands names r ts [] k w = subst (λ l. StandsIfSome names l r) (sym (append-nil ts)) w
run_stands names r ts (u ∷ us) k w =
    subst (λ l. StandsIfSome names l (run names (read_on names r u) us)) (append_assoc ts (u ∷ []) us)
    (run_stands names (read_on names r u) (ts ++ u ∷ []) us k.1 (step_on_stands names r ts u k.0 w))

-- the tokens parse as the formula, if there is one
abbrev pub ParsesIfSome : List Name → List Token → Option Formula → Type 0
ParsesIfSome names ts None = ⊤
ParsesIfSome names ts (Some F) = Parses names 5 ts F

-- what has nothing open parses
unopened_parses : {names : List Name} (ts : List Token) (F : Formula) (s : List Frame) → Standing names 5 ts F s → ParsesIfSome names ts (unopened F s)
unopened_parses {names} ts F [] w =
    let e : ts ≡ w.operand = w.are ∙ ap (λ l. l ++ w.operand) w.opened in
    subst (λ l. Parses names 5 l F) (sym e) (of_higher 5 w.rank w.operand F w.within w.parses)
unopened_parses ts F (f ∷ s) w = tt

-- what is finished parses
finished_parses : (names : List Name) (r : Option Reader) (ts : List Token) → StandsIfSome names ts r → ParsesIfSome names ts (finished_if r)
finished_parses names None ts w = tt
finished_parses names (Some (Wanting s)) ts w = tt
finished_parses names (Some (Having F s)) ts w = unopened_parses ts _ _ (close_stands 5 ts F s (at_most _ ts F s w))

-- what is read parses
pub read_sound : (names : List Name) (ts : List Token) (F : Formula) → AllByRecursion (Knows names) ts → read names ts ≡ Some F → Parses names 5 ts F
read_sound names ts F k e =
    subst (ParsesIfSome names ts) e (finished_parses names (run names (Some (Wanting [])) ts) ts (run_stands names (Some (Wanting [])) [] ts k refl))

-- what parses is read

-- These tokens bring the reader from these frames to a state that closes as the formula on these frames does
abbrev Reaches : List Name → ℕ → List Token → Formula → List Frame → Type 0
Reaches names m ts F s =
    (G : Formula) × (t : List Frame) × (run names (Some (Wanting s)) ts ≡ Some (Having G t)) × ((n : ℕ) → m ≤ n → close n G t ≡ close n F s)

-- nothing closes before an operator that fits
stays_closed : (op : BinaryOperator) (F : Formula) (s : List Frame) → rank_of op ≤ room s → close (left_rank op) F s ≡ (F, s)
stays_closed op F [] l = refl
stays_closed op F (Bracket ∷ s) l = refl
stays_closed op F (Prefix op' ∷ s) l = let b = rank_bounds op in absurd (omega arith)
stays_closed op F (Pending a op' ∷ s) l =
    closes_no_more op' (left_rank op) a F s (opens_again op op' l)

-- tokens in a row are read in a row
pub run_append : (names : List Name) (r : Option Reader) (xs ys : List Token) → run names r (xs ++ ys) ≡ run names (run names r xs) ys
run_append names r [] ys = refl
run_append names r (x ∷ xs) ys = run_append names (read_on names r x) xs ys

-- an operator comes
operator_on : (names : List Name) (op : BinaryOperator) (G F : Formula) (t s : List Frame)
    → close (left_rank op) G t ≡ (F, s) → read_on names (Some (Having G t)) (BinarySign op) ≡ Some (Wanting (Pending F op ∷ s))
operator_on names op G F t s e = ap (λ c. Some (Wanting (Pending c.0 op ∷ c.1))) e

-- an operator between two operands
reaches_binary : (names : List Name) (op : BinaryOperator) (k i j : ℕ) (xs ys us : List Token) (a b : Formula) (s : List Frame)
    → rank_of op ≡ k → (left_rank op ≡ i) × (right_rank op ≡ j) → us ≡ xs ++ BinarySign op ∷ ys → k ≤ room s
    → Reaches names i xs a s → Reaches names j ys b (Pending a op ∷ s) → Reaches names k us (Binary op a b) s
reaches_binary names op k i j xs ys us a b s f g e l v w =
    let bounds = rank_bounds op in
    let g0 = g.0 in
    let g1 = g.1 in
    let open_now : close (left_rank op) v.0 v.1 ≡ (a, s) = v.3 (left_rank op) (omega arith) ∙ stays_closed op a s (omega arith) in (
      w.0,
      w.1,
      ap (run names (Some (Wanting s))) e ∙ run_append names (Some (Wanting s)) xs (BinarySign op ∷ ys) ∙ ap (λ r. run names r (BinarySign op ∷ ys)) v.2
          ∙ ap (λ r. run names r ys) (operator_on names op v.0 a v.1 s open_now) ∙ w.2,
      λ n m. w.3 n (omega arith) ∙ closes_over op n a b s (omega arith),
    )

-- a bracket closes
bracket_on : (names : List Name) (us ts : List Token) (F G : Formula) (t s : List Frame)
    → us ≡ Open ∷ ts ++ Close ∷ [] → run names (Some (Wanting (Bracket ∷ s))) ts ≡ Some (Having G t) → close 5 G t ≡ (F, Bracket ∷ s)
    → run names (Some (Wanting s)) us ≡ Some (Having F s)
bracket_on names us ts F G t s e r c =
    ap (run names (Some (Wanting s))) e ∙ run_append names (Some (Wanting (Bracket ∷ s))) ts (Close ∷ []) ∙ ap (λ q. run names q (Close ∷ [])) r
    ∙ ap (λ q. unbracketed q.0 q.1) c

-- what parses is gone through
reaches : {names : List Name} → HasNoRepeats names → (m : ℕ) (ts : List Token) (F : Formula) → Parses names m ts F → (s : List Frame) → m ≤ room s → Reaches names m ts F s
reaches d m ts F (of_constant b) s l = (F, s, refl, λ n k. refl)
reaches {names} d m ts F (of_name n p e) s l = (F, s, ap (λ q. Some (Having (Proposition q) s)) (place_only names n p d e), λ n k. refl)
reaches {names} d m us F (of_brackets ts us' F' e p) s l =
    let v = reaches d 5 ts F p (Bracket ∷ s) (omega arith) in
    (F, s, bracket_on names us' ts F v.0 v.1 s e v.2 (v.3 5 (omega arith)), λ n k. refl)
reaches {names} d m us F (of_unary op ts F' p) s l =
    let v = reaches d 0 ts F' p (Prefix op ∷ s) (omega arith) in
    (v.0, v.1, v.2, v.3)
reaches d m us F (of_tighter r ts F' p) s l =
    let v = reaches d r ts F' p s (omega arith) in
    (v.0, v.1, v.2, λ n k. v.3 n (omega arith))
reaches {names} d m us F (of_left op r xs ys us' a b i g e p q) s l =
    let k = left_ranks op r i g in
    let k1 = k.1 in
    reaches_binary names op (suc r) (suc r) r xs ys us' a b s i k e l (reaches d (suc r) xs a p s l) (reaches d r ys b q (Pending a op ∷ s) (omega arith))
reaches {names} d m us F (of_right op r xs ys us' a b i g e p q) s l =
    let k = right_ranks op r i g in
    let k1 = k.1 in
    reaches_binary names op (suc r) r (suc r) xs ys us' a b s i k e l (reaches d r xs a p s (omega arith)) (reaches d (suc r) ys b q (Pending a op ∷ s) (omega arith))

-- what parses is read
pub read_complete : (names : List Name) (ts : List Token) (F : Formula) → HasNoRepeats names → Parses names 5 ts F → read names ts ≡ Some F
read_complete names ts F d p =
    let v = reaches d 5 ts F p [] (omega arith) in
    ap finished_if v.2 ∙ ap (λ c. unopened c.0 c.1) (v.3 5 (omega arith))

-- no rank is above 5
pub of_five : {names : List Name} (r : ℕ) (ts : List Token) (F : Formula) → Parses names r ts F → Parses names 5 ts F
of_five r ts F (of_constant b) = of_higher 5 0 ts F (omega arith) (of_constant b)
of_five r ts F (of_name n p e) = of_higher 5 0 ts F (omega arith) (of_name n p e)
of_five r us F (of_brackets ts us' F' e d) = of_higher 5 0 us F' (omega arith) (of_brackets ts us' F' e d)
of_five r us F (of_unary op ts F' d) = of_higher 5 0 us F (omega arith) (of_unary op ts F' d)
of_five r ts F (of_tighter r' ts' F' d) = of_five r' ts F d
of_five r us F (of_left op r' xs ys us' a b i g e d f) =
    let l = rank_bounds op in of_higher 5 (suc r') us F (omega arith) (of_left op r' xs ys us' a b i g e d f)
of_five r us F (of_right op r' xs ys us' a b i g e d f) =
    let l = rank_bounds op in of_higher 5 (suc r') us F (omega arith) (of_right op r' xs ys us' a b i g e d f)

-- tokens have one formula
pub parses_once : (names : List Name) (r : ℕ) (ts : List Token) (F G : Formula) → HasNoRepeats names → Parses names r ts F → Parses names r ts G → F ≡ G
parses_once names r ts F G d p q =
    same_Some _ _ (sym (read_complete names ts F d (of_five r ts F p)) ∙ read_complete names ts G d (of_five r ts G q))
