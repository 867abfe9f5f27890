-- The open selections, and how many of them are a `do`.
use Rattle.std.proofs.Common.{◌≡◌, ◌∙◌, ℕ, zero, suc, ◌+◌, ◌-◌, ◌<◌, ◌≤◌, Bool, true, false, ◌||◌, List, [], ◌∷◌, ◌++◌, length, slice_index_or, slice_set, refl, sym, ap, subst, arith}
use Rattle.std.specs.Prelude.{if◌then◌else◌, nat_lt, sum_by}
use Rattle.std.specs.List.{list_any}
use Rattle.std.proofs.lemmas.Bool.Decides.{nat_tests}
use Rattle.std.proofs.lemmas.List.Sums.{sum_by-cons, sum_by_push}
use Rattle.std.proofs.lemmas.List.{length_push}
use Rattle.ltl_spec.specs.Claims.ClaimProgram.{Link, Go}
use Rattle.ltl_spec.specs.Claims.ClaimMachine.{Hole, AtStart, Nowhere, BehindStatement, WithinOption, changed}
use Rattle.ltl_claim.specs.ProgramView.{AreOpen, BuiltView, OptionView, StatementView, loop_at, new_statement, next_set, no_statement, option_added, option_next_set, statements_linked, with_statement}
use Rattle.ltl_claim.specs.Soundness.{AllOf}
use Rattle.ltl_claim.proofs.SoundLaws.{changed_length}

-- no selection is open
pub none_open : (is : List ℕ) (ss : List StatementView) → is ≡ [] → AreOpen 0 is ss
none_open is ss e = subst (λ js. AreOpen 0 js ss) (sym e) (record { count = refl; stated = tt })

at_most_one : (b : Bool) → (if b then 1 else 0) ≤ 1
at_most_one true = omega arith
at_most_one false = omega arith

-- no more of them are a `do` than there are
pub few_open : (n : ℕ) (is : List ℕ) (ss : List StatementView) → AreOpen n is ss → n ≤ length is
few_open n is ss a = let c = a.count in let l = few is in omega (arith, c, l)
  where
    few : (is : List ℕ) → sum_by (loop_at ss) is ≤ length is
    few [] = omega arith
    few (i ∷ is) = let e = sum_by-cons (loop_at ss) i is in let l = few is in let m = at_most_one (slice_index_or ss i no_statement).loops in omega (arith, e, l, m)

-- some are a `do` exactly if one of them is
pub loops_any : (n : ℕ) (is : List ℕ) (ss : List StatementView) → AreOpen n is ss → nat_lt 0 n ≡ list_any (λ i. (slice_index_or ss i no_statement).loops) is
loops_any n is ss a = ap (nat_lt 0) a.count ∙ go is
  where
    one : (b : Bool) (rest : ℕ) → nat_lt 0 ((if b then 1 else 0) + rest) ≡ (b || nat_lt 0 rest)
    one true rest = grind (arith, nat_tests)
    one false rest = ap (nat_lt 0) (omega arith)

    go : (is : List ℕ) → nat_lt 0 (sum_by (loop_at ss) is) ≡ list_any (λ i. (slice_index_or ss i no_statement).loops) is
    go [] = refl
    go (i ∷ is) =
        ap (nat_lt 0) (sum_by-cons (loop_at ss) i is) ∙ one (slice_index_or ss i no_statement).loops (sum_by (loop_at ss) is)
        ∙ ap (λ b. (slice_index_or ss i no_statement).loops || b) (go is)

-- ---- other statements

pub kept_set : {T : Type 0} (i : ℕ) (xs : List T) (old new : T) → old ≡ slice_index_or xs i old → i < length xs → new ≡ old → slice_set xs i new ≡ xs
kept_set i [] old new o l e = absurd (omega (arith, l))
kept_set zero (x ∷ xs) old new o l e = ap (λ y. y ∷ xs) (e ∙ o)
kept_set (suc i) (x ∷ xs) old new o l e = ap (λ ys. x ∷ ys) (kept_set i xs old new o (omega (arith, l)) e)

-- the selections are the same in both lists of statements
record AreAlike (old new : List StatementView) : Type 0 where
  pub loops : (i : ℕ) → i < length old → loop_at new i ≡ loop_at old i
  pub longer : length old ≤ length new

alike : (n : ℕ) (is : List ℕ) (old new : List StatementView) → AreAlike old new → AreOpen n is old → AreOpen n is new
alike n is old new h a = record { count = a.count ∙ sym (counted is a.stated); stated = inside is a.stated }
  where
    counted : (is : List ℕ) → AllOf (λ i. i < length old) is → sum_by (loop_at new) is ≡ sum_by (loop_at old) is
    counted [] s = refl
    counted (i ∷ is) s =
        sum_by-cons (loop_at new) i is ∙ (λ j. h.loops i s.0 j + counted is s.1 j) ∙ sym (sum_by-cons (loop_at old) i is)

    inside : (is : List ℕ) → AllOf (λ i. i < length old) is → AllOf (λ i. i < length new) is
    inside [] s = tt
    inside (i ∷ is) s = ((let l = s.0 in let m = h.longer in omega (arith, l, m)), inside is s.1)

-- a statement was changed, but not whether it loops
changed_open : (f : StatementView → StatementView) → ((s : StatementView) → (f s).loops ≡ s.loops) → (j n : ℕ) (is : List ℕ) (old new : List StatementView) → new ≡ changed f j old
    → AreOpen n is old → AreOpen n is new
changed_open f k j n is old new e a = subst (λ ss. AreOpen n is ss) (sym e) (alike n is old (changed f j old) (record { loops = λ i l. ap (λ b. if b then 1 else 0) (go j old i); longer = (let l = changed_length f j old in omega (arith, l)) }) a)
  where
    go : (j : ℕ) (ss : List StatementView) (i : ℕ) → (slice_index_or (changed f j ss) i no_statement).loops ≡ (slice_index_or ss i no_statement).loops
    go j [] i = refl
    go zero (s ∷ ss) zero = k s
    go zero (s ∷ ss) (suc i) = refl
    go (suc j) (s ∷ ss) zero = refl
    go (suc j) (s ∷ ss) (suc i) = go j ss i

pub open_next : (k : Link) (j n : ℕ) (is : List ℕ) (old new : List StatementView) → new ≡ changed (next_set k) j old → AreOpen n is old → AreOpen n is new
open_next k j n is old new e a = changed_open (next_set k) (λ s. refl) j n is old new e a

pub open_option_next : (k : Link) (o j n : ℕ) (is : List ℕ) (old new : List StatementView) → new ≡ changed (option_next_set o k) j old → AreOpen n is old → AreOpen n is new
open_option_next k o j n is old new e a = changed_open (option_next_set o k) (λ s. refl) j n is old new e a

pub open_option_added : (o : OptionView) (j n : ℕ) (is : List ℕ) (old new : List StatementView) → new ≡ changed (option_added o) j old → AreOpen n is old → AreOpen n is new
open_option_added o j n is old new e a = changed_open (option_added o) (λ s. refl) j n is old new e a

-- a statement was added
pub open_added : (s : StatementView) (n : ℕ) (is : List ℕ) (old new : List StatementView) → new ≡ old ++ s ∷ [] → AreOpen n is old → AreOpen n is new
open_added s n is old new e a = subst (λ ss. AreOpen n is ss) (sym e) (alike n is old (old ++ s ∷ []) (record { loops = λ i l. ap (λ (t : StatementView). if t.loops then 1 else 0) (go old i l); longer = more old }) a)
  where
    go : (ss : List StatementView) (i : ℕ) → i < length ss → slice_index_or (ss ++ s ∷ []) i no_statement ≡ slice_index_or ss i no_statement
    go [] i l = absurd (omega (arith, l))
    go (t ∷ ss) zero l = refl
    go (t ∷ ss) (suc i) l = go ss i (omega (arith, l))

    more : (ss : List StatementView) → length ss ≤ length (ss ++ s ∷ [])
    more [] = omega arith
    more (t ∷ ss) = let l = more ss in omega (arith, l)

linked_length : (h : Hole) (k : Link) (ss : List StatementView) → length (statements_linked h k ss) ≡ length ss
linked_length AtStart k ss = refl
linked_length Nowhere k ss = refl
linked_length (BehindStatement i) k ss = changed_length (next_set k) i ss
linked_length (WithinOption i j) k ss = changed_length (option_next_set j k) i ss

-- there is a statement with the number that came next
pub stated_inside : (loops : Bool) (os : List OptionView) (v w : BuiltView) (i : ℕ) → length v.statements ≡ i → w ≡ with_statement loops os v → i < length w.statements
stated_inside loops os v w i e f =
    subst (λ (u : BuiltView). i < length u.statements) (sym f) (
    let ss = statements_linked v.hole (Go (length v.statements)) v.statements in
    let l = linked_length v.hole (Go (length v.statements)) v.statements in
    let p = length_push ss (new_statement loops os v) in
    omega (arith, l, p, e)
    )

-- ---- one selection more or less

-- one was opened
pub one_opened : (i n m : ℕ) (old new : List ℕ) (ss : List StatementView) → new ≡ old ++ i ∷ [] → i < length ss → m ≡ n + loop_at ss i → AreOpen n old ss → AreOpen m new ss
one_opened i n m old new ss e l s a = subst (λ js. AreOpen m js ss) (sym e) (record {
  count = s ∙ ap (λ k. k + loop_at ss i) a.count ∙ sym (sum_by_push (loop_at ss) old i);
  stated = go old a.stated;
})
  where
    go : (is : List ℕ) → AllOf (λ i. i < length ss) is → AllOf (λ i. i < length ss) (is ++ i ∷ [])
    go [] h = (l, tt)
    go (j ∷ js) h = (h.0, go js h.1)

-- one was closed
pub one_closed : (i n m : ℕ) (old new : List ℕ) (ss : List StatementView) → old ≡ new ++ i ∷ [] → m ≡ n - loop_at ss i → AreOpen n old ss → AreOpen m new ss
one_closed i n m old new ss e s a = record {
  count = (let c = counted in omega (arith, s, c));
  stated = go new (subst (AllOf (λ j. j < length ss)) e a.stated);
}
  where
    counted : n ≡ sum_by (loop_at ss) new + loop_at ss i
    counted = a.count ∙ ap (sum_by (loop_at ss)) e ∙ sum_by_push (loop_at ss) new i

    go : (is : List ℕ) → AllOf (λ j. j < length ss) (is ++ i ∷ []) → AllOf (λ j. j < length ss) is
    go [] h = tt
    go (j ∷ js) h = (h.0, go js h.1)

-- one that is open counts
pub open_counts : (i n : ℕ) (old new : List ℕ) (ss : List StatementView) → old ≡ new ++ i ∷ [] → AreOpen n old ss → loop_at ss i ≤ n
open_counts i n old new ss e a = let c = a.count ∙ ap (sum_by (loop_at ss)) e ∙ sum_by_push (loop_at ss) new i in omega (arith, c)
