-- Which tokens begin a formula, and which are one: two states and a count of the open brackets tell.
use Rattle.std.proofs.Common.{◌≡◌, ℕ, zero, suc, true, false, cond, inl, inr, List, [], ◌∷◌, ◌++◌, fold, filter_map, Option, Some, None, refl, sym, ◌∙◌, ap, subst, arith, le-leb}
use Rattle.std.specs.Prelude.{nat_le}
use Rattle.std.specs.List.{AllByRecursion}
use Rattle.std.proofs.lemmas.Slice.Eq.{bytes_eq-Decides}
use Rattle.std.proofs.lemmas.Option.{same_Some, none-some}
use Rattle.ltl_spec.specs.Collections.Sets.{Has}
use Rattle.ltl_spec.specs.Collections.Lists.{HasNoRepeats}
use Rattle.ltl_spec.specs.Semantics.Word.{Name}
use Rattle.ltl_spec.specs.Formulas.Formula.{Formula, Unary, Binary, BinaryOperator, Reading}
use Rattle.ltl_spec.specs.Formulas.Tokens.{Token, ConstantWord, NameWord, UnarySign, BinarySign, Open, Close, same_name}
use Rattle.ltl_spec.specs.Formulas.Grammar.{Parses, rank_of, name_in, names_of, Reads, IsBeginning}
use Rattle.ltl_spec.proofs.Collections.ListLaws.{Has-first_occurrences, HasNoRepeats-first_occurrences}
use Rattle.ltl_spec.proofs.Formulas.GrammarMachine.{Frame, Bracket, Prefix, Pending, Reader, Wanting, Having, close, left_rank, unbracketed, unopened, read_step, read_on, run, finished_if, read, Knows, read_sound, read_complete, rank_bounds}
pub use Rattle.ltl_spec.specs.Formulas.Outline.{Outline, Before, After, brackets, outline}

-- the outline with one token more, `None` where it fits nowhere
abbrev pub walk_step : Outline → Token → Option Outline
walk_step (Before n) (ConstantWord b) = Some (After n)
walk_step (Before n) (NameWord x) = Some (After n)
walk_step (Before n) (UnarySign op) = Some (Before n)
walk_step (Before n) Open = Some (Before (suc n))
walk_step (Before n) _ = None
walk_step (After n) (BinarySign op) = Some (Before n)
walk_step (After (suc n)) Close = Some (After n)
walk_step (After _) _ = None

-- the same from an outline that may be missing
abbrev pub walk_on : Option Outline → Token → Option Outline
walk_on None t = None
walk_on (Some o) t = walk_step o t

-- the outline after these tokens, `None` where one fits nowhere
abbrev pub walk : Option Outline → List Token → Option Outline
walk o ts = fold walk_on o ts

-- the reader and its outline

-- the outline of a reader that may be stuck
abbrev pub outline_if : Option Reader → Option Outline
outline_if None = None
outline_if (Some r) = Some (outline r)

-- closing keeps the brackets
close_brackets : (n : ℕ) (F : Formula) (s : List Frame) → brackets (close n F s).1 ≡ brackets s
close_brackets n F [] = refl
close_brackets n F (Bracket ∷ s) = refl
close_brackets n F (Prefix op ∷ s) = close_brackets n (Unary op F) s
close_brackets n F (Pending a op ∷ s) =
    elim (nat_le (rank_of op) n) as (λ b. brackets (cond b (close n (Binary op a F) s) (F, Pending a op ∷ s)).1 ≡ brackets s) [
      | true ↦ close_brackets n (Binary op a F) s
      | false ↦ refl
    ]

-- every operator closes at rank 5
close_pending : (op : BinaryOperator) (a F : Formula) (s : List Frame) → close 5 F (Pending a op ∷ s) ≡ close 5 (Binary op a F) s
close_pending op a F s = let l = rank_bounds op in ap (λ b. cond b (close 5 (Binary op a F) s) (F, Pending a op ∷ s)) (le-leb (rank_of op) 5 (omega arith))

-- the bracket that closes, in the reader and in its outline
bracket_outline : (F : Formula) (s : List Frame) → outline_if (unbracketed (close 5 F s).0 (close 5 F s).1) ≡ walk_step (After (brackets s)) Close
bracket_outline F [] = refl
bracket_outline F (Bracket ∷ s) = refl
bracket_outline F (Prefix op ∷ s) = bracket_outline (Unary op F) s
bracket_outline F (Pending a op ∷ s) = ap (λ c. outline_if (unbracketed c.0 c.1)) (close_pending op a F s) ∙ bracket_outline (Binary op a F) s

-- the outline takes the reader's steps
pub step_outline : (names : List Name) (r : Reader) (t : Token) → outline_if (read_step names r t) ≡ walk_step (outline r) t
step_outline names (Wanting s) (ConstantWord b) = refl
step_outline names (Wanting s) (NameWord n) = refl
step_outline names (Wanting s) (UnarySign op) = refl
step_outline names (Wanting s) Open = refl
step_outline names (Wanting s) _ = refl
step_outline names (Having F s) (BinarySign op) = ap (λ n. Some (Before n)) (close_brackets (left_rank op) F s)
step_outline names (Having F s) Close = bracket_outline F s
step_outline names (Having F s) _ = refl

-- also where it may be stuck
step_on_outline : (names : List Name) (r : Option Reader) (t : Token) → outline_if (read_on names r t) ≡ walk_on (outline_if r) t
step_on_outline names None t = refl
step_on_outline names (Some r) t = step_outline names r t

-- the outline after many tokens
pub run_outline : (names : List Name) (r : Option Reader) (ts : List Token) → outline_if (run names r ts) ≡ walk (outline_if r) ts
run_outline names r [] = refl
run_outline names r (t ∷ ts) = run_outline names (read_on names r t) ts ∙ ap (λ o. walk o ts) (step_on_outline names r t)

-- the number of open brackets of an outline, and 0 of none
abbrev count : Option Outline → ℕ
count None = 0
count (Some (Before n)) = n
count (Some (After n)) = n

-- with no bracket open the reader has a formula
unopened_closed : (F : Formula) (s : List Frame) → brackets s ≡ 0 → (G : Formula) × (unopened (close 5 F s).0 (close 5 F s).1 ≡ Some G)
unopened_closed F [] e = (F, refl)
unopened_closed F (Bracket ∷ s) e = absurd (omega arith)
unopened_closed F (Prefix op ∷ s) e = unopened_closed (Unary op F) s e
unopened_closed F (Pending a op ∷ s) e =
    let w = unopened_closed (Binary op a F) s e in (w.0, ap (λ c. unopened c.0 c.1) (close_pending op a F s) ∙ w.1)

-- and with a formula there is no bracket open
unopened_brackets : (F G : Formula) (s : List Frame) → unopened F s ≡ Some G → brackets s ≡ 0
unopened_brackets F G [] e = refl
unopened_brackets F G (f ∷ s) e = cc

-- the reader is finished exactly where its outline is
pub finished_outline : (r : Option Reader) (F : Formula) → finished_if r ≡ Some F → outline_if r ≡ Some (After 0)
finished_outline None F e = cc
finished_outline (Some (Wanting s)) F e = cc
finished_outline (Some (Having G s)) F e = ap (λ n. Some (After n)) (sym (close_brackets 5 G s) ∙ unopened_brackets _ F _ e)

-- and the other way round
pub outline_finished : (r : Option Reader) → outline_if r ≡ Some (After 0) → (F : Formula) × (finished_if r ≡ Some F)
outline_finished None e = absurd (none-some (After 0) e)
outline_finished (Some (Wanting s)) e = absurd (cc)
outline_finished (Some (Having F s)) e = unopened_closed F s (ap count e)

-- names

-- the tokens' names are in their list
names_known : (ts : List Token) (names : List Name) → ((n : Name) → Has (filter_map name_in ts) n → Has names n) → AllByRecursion (Knows names) ts
names_known [] names h = tt
names_known (NameWord n ∷ ts) names h = (h n (inl refl), names_known ts names (λ m k. h m (inr k)))
names_known (ConstantWord b ∷ ts) names h = (tt, names_known ts names h)
names_known (_ ∷ ts) names h = (tt, names_known ts names h)

-- the tokens' names are in `names_of`
pub names_of_known : (ts : List Token) → AllByRecursion (Knows (names_of ts)) ts
names_of_known ts = names_known ts (names_of ts) (λ n h. Has-first_occurrences same_name bytes_eq-Decides (filter_map name_in ts) n h)

-- no name stands twice
pub names_of_differ : (ts : List Token) → HasNoRepeats (names_of ts)
names_of_differ ts = HasNoRepeats-first_occurrences same_name bytes_eq-Decides (filter_map name_in ts)

-- readings

-- what is read with the tokens' names is their reading, and each reading is so
pub Reads-from_read : (ts : List Token) (F : Formula) → read (names_of ts) ts ≡ Some F → Reads ts (record { formula = F; names = names_of ts })
Reads-from_read ts F e = (refl, read_sound (names_of ts) ts F (names_of_known ts) e)

-- each reading is what is read
pub read_reading : (ts : List Token) (R : Reading) → Reads ts R → read (names_of ts) ts ≡ Some R.formula
read_reading ts R w = read_complete (names_of ts) ts R.formula (names_of_differ ts) (subst (λ n. Parses n 5 ts R.formula) w.0 w.1)

-- tokens have one reading
pub reads_once : (ts : List Token) (R S : Reading) → Reads ts R → Reads ts S → R ≡ S
reads_once ts R S v w =
    let f : R.formula ≡ S.formula = same_Some _ _ (sym (read_reading ts R v) ∙ read_reading ts S w) in
    let n : R.names ≡ S.names = v.0 ∙ sym w.0 in
    λ i. record { formula = f i; names = n i }

-- beginnings

-- The tokens are a formula exactly where they lead to a complete operand with no bracket open
pub reads_walk : (ts : List Token) (R : Reading) → Reads ts R → walk (Some (Before 0)) ts ≡ Some (After 0)
reads_walk ts R w = sym (run_outline (names_of ts) (Some (Wanting [])) ts) ∙ finished_outline _ R.formula (read_reading ts R w)

-- and the other way round
pub walk_reads : (ts : List Token) → walk (Some (Before 0)) ts ≡ Some (After 0) → (R : Reading) × Reads ts R
walk_reads ts e =
    let w = outline_finished (run (names_of ts) (Some (Wanting [])) ts) (run_outline (names_of ts) (Some (Wanting [])) ts ∙ e) in
    (record { formula = w.0; names = names_of ts }, Reads-from_read ts w.0 w.1)

-- tokens in a row are walked in a row
pub walk_append : (o : Option Outline) (xs ys : List Token) → walk o (xs ++ ys) ≡ walk (walk o xs) ys
walk_append o [] ys = refl
walk_append o (x ∷ xs) ys = walk_append (walk_on o x) xs ys

-- what is stuck stays so
pub walk_none : (ts : List Token) → walk None ts ≡ None
walk_none [] = refl
walk_none (t ∷ ts) = walk_none ts

-- what completes the tokens
abbrev closes : ℕ → List Token
closes zero = []
closes (suc n) = Close ∷ closes n

-- an operand, if one is missing, and the brackets
abbrev completion : Outline → List Token
completion (Before n) = ConstantWord true ∷ closes n
completion (After n) = closes n

-- open brackets may close
walk_closes : (n : ℕ) → walk (Some (After n)) (closes n) ≡ Some (After 0)
walk_closes zero = refl
walk_closes (suc n) = walk_closes n

-- the completion leads to a complete operand with no bracket open
walk_completion : (o : Outline) → walk (Some o) (completion o) ≡ Some (After 0)
walk_completion (Before n) = walk_closes n
walk_completion (After n) = walk_closes n

-- The tokens begin a formula exactly where each fits
pub walk_begins : (ts : List Token) (o : Outline) → walk (Some (Before 0)) ts ≡ Some o → IsBeginning ts
walk_begins ts o e =
    let w = walk_reads (ts ++ completion o) (walk_append (Some (Before 0)) ts (completion o) ∙ ap (λ q. walk q (completion o)) e ∙ walk_completion o) in
    (completion o, w.0, w.1)

-- what walks on to the end was not stuck
walk_start : (o : Option Outline) (ts : List Token) → walk o ts ≡ Some (After 0) → (q : Outline) × (o ≡ Some q)
walk_start None ts e = absurd (none-some (After 0) (sym (walk_none ts) ∙ e))
walk_start (Some q) ts e = (q, refl)

-- and the other way round
pub begins_walk : (ts : List Token) → IsBeginning ts → (o : Outline) × (walk (Some (Before 0)) ts ≡ Some o)
begins_walk ts b = walk_start (walk (Some (Before 0)) ts) b.0 (sym (walk_append (Some (Before 0)) ts b.0) ∙ reads_walk (ts ++ b.0) b.1 b.2)
