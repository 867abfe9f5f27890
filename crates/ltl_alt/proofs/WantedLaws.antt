-- The steps that are wanted for pairs, and what pairs lack, step by step.
use Rattle.std.proofs.Common.{◌≡◌, Bool, true, false, not, ◌&&◌, ◌||◌, ℕ, ◌+◌, ◌<◌, ◌≤◌, ◌⊎◌, inl, inr, List, [], ◌∷◌, ◌++◌, length, map, take, refl, sym, ◌∙◌, ap, subst, arith, Some}
use Rattle.std.specs.Prelude.{slice_get, slice_index_or, slice_set, ◌==◌}
use Rattle.std.specs.List.{filter}
use Rattle.std.specs.Ordering.{nat_cmp}
use Rattle.std.proofs.lemmas.Bool.{cases_eq, cases_lt}
use Rattle.std.proofs.lemmas.Bool.Decides.{nat_tests}
use Rattle.std.proofs.lemmas.List.{get_or-map, get_or-set_other, get_or-set_same, length-map, length-set, map-set, set_past}
use Rattle.std.proofs.Math.Seq.{map-set_same}
use Rattle.ltl_spec.specs.Collections.Sets.{Has, has, is_subset, union}
use Rattle.ltl_spec.specs.Transitions.Pairs.{Pair}
use Rattle.ltl_spec.proofs.Collections.CaseLaws.{false_is_true, here_or_above}
use Rattle.ltl_spec.proofs.Collections.Orders.{nat_linear}
use Rattle.ltl_spec.proofs.Collections.SetLaws.{append_cases, has_Decides, is_subset_Decides}
use Rattle.ltl_spec.proofs.Transitions.IndependenceTests.{Support, IsWithinSupport, no_support, together, within_sign, within_together_left, within_together_right}
use Rattle.ltl_spec.proofs.Transitions.SupportTests.{TellsOf}
use Rattle.ltl_spec.proofs.Transitions.Fulfilment.{Test, passes}
use Rattle.ltl_spec.proofs.Transitions.StepLaws.{test_of_step}
use Rattle.ltl_spec.proofs.Transitions.Steps as steps
use Rattle.ltl_spec.proofs.Transitions.Steps.{IsOperand, step_test, tests_of}
use Rattle.ltl_spec.proofs.Transitions.WantedSteps.{AreWantedFrom, want_operands, want_step, wanted_all, wanted_closed, wanted_more as one_more, wanted_now, wanted_open, wanted_still}
use Rattle.ltl_alt.specs.WantedView.{AreLeavesFrom, AreMore, AreWantedBelow, IsLack, IsLeafIn, IsLeafWithin, IsWantedBack, IsWantedBelow, IsWithLeaf, operands_wanted, wanted_more}
use Rattle.ltl_alt.specs.Columns.{IsColumn, answers_at}
use Rattle.ltl_alt.specs.Tests.{step_of, steps_of}
use Rattle.ltl_alt.specs.declared.fulfilment.Fulfilment.{Fulfilment}
use Rattle.ltl_alt.specs.declared.program.Step.{Step}
use Rattle.least.proofs.HasLaws.{has_filter, has_union}
use Rattle.ltl_alt.proofs.ColumnLaws.{answer_in}

-- ---- leaves

-- a literal or a row that a step looks for is among what it speaks of
leaf_in : (ts : List Test) (leaves v w : Support) (s : steps.Step) → IsWithLeaf v leaves s w → TellsOf leaves (step_test ts s) → IsLeafIn w s
leaf_in ts leaves v w steps.Always d t = tt
leaf_in ts leaves v w steps.Never d t = tt
leaf_in ts leaves v w (steps.Reads l) d t = within_sign leaves w d.1 l.positive l.proposition (t.literals l (inl refl))
leaf_in ts leaves v w (steps.Leads k) d t = d.1.targets k (t.rows k (inl refl))
leaf_in ts leaves v w (steps.Both i j) d t = tt
leaf_in ts leaves v w (steps.Either i j) d t = tt

leaf_more : (v w : Support) (s : steps.Step) → IsWithinSupport v w → IsLeafIn v s → IsLeafIn w s
leaf_more v w steps.Always d h = tt
leaf_more v w steps.Never d h = tt
leaf_more v w (steps.Reads l) d h = within_sign v w d l.positive l.proposition h
leaf_more v w (steps.Leads k) d h = d.targets k h
leaf_more v w (steps.Both i j) d h = tt
leaf_more v w (steps.Either i j) d h = tt

leaf_within : (leaves v : Support) (s : steps.Step) → IsWithinSupport leaves v → IsLeafWithin leaves s v
leaf_within leaves v steps.Always h = tt
leaf_within leaves v steps.Never h = tt
leaf_within leaves v (steps.Reads l) h = h
leaf_within leaves v (steps.Leads k) h = h
leaf_within leaves v (steps.Both i j) h = tt
leaf_within leaves v (steps.Either i j) h = tt

-- where the literals and rows were added, so was that of a step
pub more_leaves : (leaves : Support) (s : steps.Step) (old : List Support) (js : List ℕ) (new : List Support) → AreMore (IsWithinSupport leaves) old js new → AreMore (IsLeafWithin leaves s) old js new
more_leaves leaves s old js new w = record { count = w.count; kept = w.kept; added = λ j l h. leaf_within leaves (slice_index_or new j no_support) s (w.added j l h) }

-- ---- wanted steps

-- what was wanted still is
want_keeps : (wanted : List Bool) (i k : ℕ) → slice_index_or wanted k false ≡ true → slice_index_or (want_step wanted i) k false ≡ true
want_keeps wanted i k e = elim (cases_lt i (length wanted)) [
  | inl l ↦ wanted_still wanted i l k e
  | inr m ↦ ap (λ xs. slice_index_or xs k false) (set_past wanted i true (omega arith)) ∙ e
]

operands_keep : (wanted : List Bool) (s : steps.Step) (k : ℕ) → slice_index_or wanted k false ≡ true → slice_index_or (want_operands wanted s) k false ≡ true
operands_keep wanted steps.Always k e = e
operands_keep wanted steps.Never k e = e
operands_keep wanted (steps.Reads l) k e = e
operands_keep wanted (steps.Leads i) k e = e
operands_keep wanted (steps.Both i j) k e = want_keeps (want_step wanted i) j k (want_keeps wanted i k e)
operands_keep wanted (steps.Either i j) k e = want_keeps (want_step wanted i) j k (want_keeps wanted i k e)

-- and nothing changes from a number on that all operands are below
operands_above : (wanted : List Bool) (s : steps.Step) (n k : ℕ) → ((j : ℕ) → IsOperand s j → j < n) → n ≤ k → slice_index_or (want_operands wanted s) k false ≡ slice_index_or wanted k false
operands_above wanted s n k f l = at s f
  where
    both : (i j : ℕ) → i < n → j < n → slice_index_or (want_step (want_step wanted i) j) k false ≡ slice_index_or wanted k false
    both i j a b = get_or-set_other (want_step wanted i) j k true false (omega arith) ∙ get_or-set_other wanted i k true false (omega arith)

    at : (s : steps.Step) → ((j : ℕ) → IsOperand s j → j < n) → slice_index_or (want_operands wanted s) k false ≡ slice_index_or wanted k false
    at steps.Always f = refl
    at steps.Never f = refl
    at (steps.Reads x) f = refl
    at (steps.Leads i) f = refl
    at (steps.Both i j) f = both i j (f i (inl refl)) (f j (inr refl))
    at (steps.Either i j) f = both i j (f i (inl refl)) (f j (inr refl))

-- one root more is wanted
root_wanted : (answers : List Bool) (ss : List steps.Step) (roots more : List ℕ) (k : ℕ) (wanted : List Bool) → more ≡ roots ++ k ∷ [] → IsWantedBack answers ss roots (length ss) wanted
    → IsWantedBack answers ss more (length ss) (want_step wanted k)
root_wanted answers ss roots more k wanted f w = record { from = from; rooted = λ j h. rooted j (subst (λ xs. Has xs j) f h) }
  where
    from : AreWantedFrom (length ss) answers ss (want_step wanted k)
    from = elim (cases_lt k (length ss)) [
      | inl l ↦ one_more answers ss (length ss) wanted w.from k l l
      | inr m ↦ subst (AreWantedFrom (length ss) answers ss) (sym (set_past wanted k true (let c = w.from.count in omega arith))) w.from
    ]

    rooted : (j : ℕ) → Has (roots ++ k ∷ []) j → j < length ss → slice_index_or (want_step wanted k) j false ≡ true
    rooted j h l = elim (append_cases roots (k ∷ []) j h) [
      | inl i ↦ want_keeps wanted k j (w.rooted j i l)
      | inr i ↦ elim i [
        | inl d ↦ subst (λ x. slice_index_or (want_step wanted k) x false ≡ true) (sym d) (wanted_now wanted k (let c = w.from.count in omega arith))
        | inr z ↦ absurd z
      ]
    ]

-- before the first step back
pub back_begins : {A : Type 0} (f : Fulfilment A) (answers old : List Bool) (n : ℕ) (v : Support) → n ≡ length f.steps.items → IsWantedBelow f answers old n old v
back_begins f answers old n v e roots sound first =
    let long : length (steps_of f.steps.items) ≡ n = length-map f.steps.items step_of ∙ sym e in
    (subst (λ m. IsWantedBack answers (steps_of f.steps.items) roots m old) long first, λ k g l d. absurd (omega arith))

-- a pair may lack more
back_more : {A : Type 0} (f : Fulfilment A) (answers old wanted : List Bool) (n : ℕ) (v w : Support) → IsWithinSupport v w → IsWantedBelow f answers old n wanted v → IsWantedBelow f answers old n wanted w
back_more f answers old wanted n v w within below roots sound first =
    let (a, b) = below roots sound first in
    (a, λ k g l d e. leaf_more v w (slice_index_or (steps_of f.steps.items) k steps.Always) within (b k g l d e))

-- one step back: past one that is passed or isn't wanted, and past any other one
module _ {A : Type 0} (f : Fulfilment A) (answers old wanted : List Bool) (n k : ℕ) (v : Support) (next : n ≡ k + 1) (l : k < length f.steps.items) (w : IsWantedBelow f answers old n wanted v) where
  abbrev ss : List steps.Step
  ss = steps_of f.steps.items

  before : IsWantedBelow f answers old (k + 1) wanted v
  before = subst (λ m. IsWantedBelow f answers old m wanted v) next w

  inside : k < length ss
  inside = subst (λ m. k < m) (sym (length-map f.steps.items step_of)) l

  back_closed : (slice_index_or wanted k false ≡ false) ⊎ (slice_index_or answers k false ≡ true) → IsWantedBelow f answers old k wanted v
  back_closed d roots sound first =
      let (a, b) = before roots sound first in (
        record { from = wanted_closed answers ss k wanted a.from d; rooted = a.rooted },
        λ i g m e n. elim (here_or_above k i g) [
          | inl c ↦ elim d [
            | inl x ↦ false_is_true (sym x ∙ ap (λ y. slice_index_or wanted y false) c ∙ e)
            | inr x ↦ false_is_true (sym n ∙ ap (λ y. slice_index_or answers y false) (sym c) ∙ x)
          ]
          | inr h ↦ b i h m e n
        ],
      )

  back_open : (s : Step) (new : List Bool) (leaves more : Support) → s ≡ slice_index_or f.steps.items k s → new ≡ want_operands wanted (step_of s) → leaves ≡ slice_index_or f.leaves.items k no_support
      → IsWithLeaf v leaves (step_of s) more → IsWantedBelow f answers old k new more
  back_open s new leaves more is made told added roots sound first =
      let (a, b) = before roots sound first in
      subst (λ xs. IsWantedBack answers ss roots k xs × AreLeavesFrom k answers ss xs more) (sym (made ∙ ap (want_operands wanted) (sym here))) (
        record {
          from = wanted_open answers ss k wanted a.from inside earlier;
          rooted = λ j h m. operands_keep wanted (slice_index_or ss k steps.Always) j (a.rooted j h m);
        },
        λ i g m e n. elim (here_or_above k i g) [
          | inl c ↦ subst (λ x. IsLeafIn more (slice_index_or ss x steps.Always)) c (subst (IsLeafIn more) (sym here) (leaf_in (tests_of (take k ss)) leaves v more (step_of s) added tells))
          | inr h ↦ leaf_more v more (slice_index_or ss i steps.Always) added.0 (b i h m (sym (operands_above wanted (slice_index_or ss k steps.Always) k i earlier (omega arith)) ∙ e) n)
        ],
      )
    where
      here : slice_index_or ss k steps.Always ≡ step_of s
      here = get_or-map step_of f.steps.items k s steps.Always l ∙ ap step_of (sym is)

      earlier : (j : ℕ) → IsOperand (slice_index_or ss k steps.Always) j → j < k
      earlier = sound.earlier k inside

      tells : TellsOf leaves (step_test (tests_of (take k ss)) (step_of s))
      tells = subst (λ x. TellsOf x (step_test (tests_of (take k ss)) (step_of s))) (sym told)
          (subst (λ x. TellsOf (slice_index_or f.leaves.items k no_support) (step_test (tests_of (take k ss)) x)) here
          (subst (TellsOf (slice_index_or f.leaves.items k no_support)) (test_of_step ss k inside) (sound.leaves.tell k)))

-- ---- what a pair lacks

zero_length : (n : ℕ) → (n == 0) ≡ true → n ≡ 0
zero_length n e = grind (arith, nat_tests)

-- a list that is empty has nothing
pub no_roots : (b : Bool) (xs : List ℕ) → b ≡ true → b ≡ (length xs == 0) → xs ≡ []
no_roots b [] e f = refl
no_roots b (x ∷ xs) e f =
    let z : length (x ∷ xs) ≡ 0 = zero_length (length (x ∷ xs)) (sym f ∙ e) in
    absurd (omega (arith, z))

-- nothing is lacked where nothing is wanted
pub lack_none : {A : Type 0} (f : Fulfilment A) (roots : List ℕ) (p : Pair) (v : Support) → roots ≡ [] → IsLack f roots p v
lack_none f roots p v e sound = record {
  wanted = [];
  operands = λ i l d. false_is_true d;
  rooted = λ k h. absurd (subst (λ xs. Has xs k) e h);
  leaves = λ k g l d. false_is_true d;
}

pub lack_wanted : {A : Type 0} (f : Fulfilment A) (roots : List ℕ) (p : Pair) (answers old new : List Bool) (v : Support) → answers ≡ map (passes p) (tests_of (steps_of f.steps.items))
    → IsWantedBack answers (steps_of f.steps.items) roots (length (steps_of f.steps.items)) old → IsWantedBelow f answers old 0 new v → IsLack f roots p v
lack_wanted f roots p answers old new v e first w sound =
    let ss = steps_of f.steps.items in
    let (a, b) = w roots sound first in
    record { wanted = new; operands = wanted_all p ss new (subst (λ bs. AreWantedFrom 0 bs ss new) e a.from); rooted = a.rooted; leaves = subst (λ bs. AreLeavesFrom 0 bs ss new v) e b }

-- ---- lacking more

within_same : (v : Support) → IsWithinSupport v v
within_same v = record { positive = λ n h. h; negative = λ n h. h; targets = λ n h. h }

within_trans : (u v w : Support) → IsWithinSupport u v → IsWithinSupport v w → IsWithinSupport u w
within_trans u v w a b = record { positive = λ n h. b.positive n (a.positive n h); negative = λ n h. b.negative n (a.negative n h); targets = λ n h. b.targets n (a.targets n h) }

-- the pairs with these indices but for the rest lack more
pub record AreMoreBut (leaves : Support) (old : List Support) (js rest : List ℕ) (new : List Support) : Type 0 where
  pub count : length new ≡ length old
  pub kept : (j : ℕ) → IsWithinSupport (slice_index_or old j no_support) (slice_index_or new j no_support)
  pub added : (j : ℕ) → j < length old → Has js j → Has rest j ⊎ IsWithinSupport leaves (slice_index_or new j no_support)

module _ (leaves : Support) (old : List Support) (js : List ℕ) where
  pub more_begins : (rest : List ℕ) → rest ≡ js → AreMoreBut leaves old js rest old
  more_begins rest e = record { count = refl; kept = λ j. within_same (slice_index_or old j no_support); added = λ j l h. inl (subst (λ xs. Has xs j) (sym e) h) }

  pub more_ends : (new : List Support) → AreMoreBut leaves old js [] new → AreMore (IsWithinSupport leaves) old js new
  more_ends new w = record { count = w.count; kept = w.kept; added = λ j l h. elim (w.added j l h) [ inl x ↦ absurd x | inr x ↦ x ] }

  module _ (rest tail : List ℕ) (k : ℕ) (now : List Support) (e : rest ≡ k ∷ tail) (w : AreMoreBut leaves old js rest now) where
    left : (j : ℕ) → Has rest j → (j ≡ k) ⊎ Has tail j
    left j h = subst (λ xs. Has xs j) e h

    pub more_past : length now ≤ k → AreMoreBut leaves old js tail now
    more_past l = record {
      count = w.count;
      kept = w.kept;
      added = λ j m h. elim (w.added j m h) [
        | inl x ↦ elim (left j x) [ inl d ↦ (let c = w.count in absurd (omega arith)) | inr t ↦ inl t ]
        | inr x ↦ inr x
      ];
    }

    abbrev more : Support
    more = together (slice_index_or now k no_support) leaves

    abbrev set : List Support
    set = slice_set now k more

    pub more_step : (new : List Support) → k < length now → new ≡ set → AreMoreBut leaves old js tail new
    more_step new l f = subst (AreMoreBut leaves old js tail) (sym f) (record {
      count = length-set now k more ∙ w.count;
      kept = λ j. within_trans (slice_index_or old j no_support) (slice_index_or now j no_support) (slice_index_or set j no_support) (w.kept j) (grown j);
      added = λ j m h. elim (w.added j m h) [
        | inl x ↦ elim (left j x) [ inl d ↦ inr (subst (λ i. IsWithinSupport leaves (slice_index_or set i no_support)) (sym d) here) | inr t ↦ inl t ]
        | inr x ↦ inr (within_trans leaves (slice_index_or now j no_support) (slice_index_or set j no_support) x (grown j))
      ];
    })
      where
        at : slice_index_or set k no_support ≡ more
        at = get_or-set_same now k more no_support l

        here : IsWithinSupport leaves (slice_index_or set k no_support)
        here = subst (IsWithinSupport leaves) (sym at) (within_together_right (slice_index_or now k no_support) leaves)

        grown : (j : ℕ) → IsWithinSupport (slice_index_or now j no_support) (slice_index_or set j no_support)
        grown j = elim (cases_eq j k) [
          | inl d ↦ subst (λ i. IsWithinSupport (slice_index_or now i no_support) (slice_index_or set i no_support)) (sym d)
              (subst (IsWithinSupport (slice_index_or now k no_support)) (sym at) (within_together_left (slice_index_or now k no_support) leaves))
          | inr n ↦ subst (IsWithinSupport (slice_index_or now j no_support)) (sym (get_or-set_other now k j more no_support n)) (within_same (slice_index_or now j no_support))
        ]

-- ---- pairs of a block

or_true : (a b : Bool) → b ≡ true → (a || b) ≡ true
or_true true b e = refl
or_true false b e = e

or_false : (a b : Bool) → b ≡ false → (a || b) ≡ a
or_false true b e = refl
or_false false b e = e

-- a pair among those for which one more step is wanted, and one that isn't
module _ (j : ℕ) (ws : List (List ℕ)) (i : ℕ) (js : List ℕ) where
  abbrev was : List ℕ
  was = slice_index_or ws i []

  want_in : has nat_cmp j js ≡ true → answers_at j (wanted_more ws i js) ≡ want_step (answers_at j ws) i
  want_in e = map-set (has nat_cmp j) ws i (union nat_cmp was js) ∙ ap (slice_set (answers_at j ws) i) (has_union j was js ∙ or_true (has nat_cmp j was) (has nat_cmp j js) e)

  want_out : has nat_cmp j js ≡ false → answers_at j (wanted_more ws i js) ≡ answers_at j ws
  want_out e = map-set_same (has nat_cmp j) ws i (union nat_cmp was js) [] (has_union j was js ∙ or_false (has nat_cmp j was) (has nat_cmp j js) e)

module _ (j : ℕ) (ws : List (List ℕ)) (js : List ℕ) where
  operands_in : (s : steps.Step) → has nat_cmp j js ≡ true → answers_at j (operands_wanted ws s js) ≡ want_operands (answers_at j ws) s
  operands_in steps.Always e = refl
  operands_in steps.Never e = refl
  operands_in (steps.Reads l) e = refl
  operands_in (steps.Leads k) e = refl
  operands_in (steps.Both i k) e = want_in j (wanted_more ws i js) k js e ∙ ap (λ xs. want_step xs k) (want_in j ws i js e)
  operands_in (steps.Either i k) e = want_in j (wanted_more ws i js) k js e ∙ ap (λ xs. want_step xs k) (want_in j ws i js e)

  operands_out : (s : steps.Step) → has nat_cmp j js ≡ false → answers_at j (operands_wanted ws s js) ≡ answers_at j ws
  operands_out steps.Always e = refl
  operands_out steps.Never e = refl
  operands_out (steps.Reads l) e = refl
  operands_out (steps.Leads k) e = refl
  operands_out (steps.Both i k) e = want_out j (wanted_more ws i js) k js e ∙ want_out j ws i js e
  operands_out (steps.Either i k) e = want_out j (wanted_more ws i js) k js e ∙ want_out j ws i js e

pub wanted_length : (ws : List (List ℕ)) (i : ℕ) (js : List ℕ) → length (wanted_more ws i js) ≡ length ws
wanted_length ws i js = length-set ws i (union nat_cmp (slice_index_or ws i []) js)

pub operands_count : (ws : List (List ℕ)) (js : List ℕ) (s : steps.Step) → length (operands_wanted ws s js) ≡ length ws
operands_count ws js steps.Always = refl
operands_count ws js steps.Never = refl
operands_count ws js (steps.Reads l) = refl
operands_count ws js (steps.Leads k) = refl
operands_count ws js (steps.Both i k) = wanted_length (wanted_more ws i js) k js ∙ wanted_length ws i js
operands_count ws js (steps.Either i k) = wanted_length (wanted_more ws i js) k js ∙ wanted_length ws i js

-- the step is wanted for these pairs, and they don't pass it
abbrev pub AreFailing : List (List ℕ) → List (List ℕ) → ℕ → List ℕ → Type 0
AreFailing cs ws k js = (j : ℕ) → has nat_cmp j js ≡ (slice_index_or (answers_at j ws) k false && not (slice_index_or (answers_at j cs) k false))

pub failing_at : (cs ws : List (List ℕ)) (k : ℕ) (c w js : List ℕ) → c ≡ slice_index_or cs k [] → w ≡ slice_index_or ws k [] → js ≡ filter (λ i. not (has nat_cmp i c)) w → AreFailing cs ws k js
failing_at cs ws k c w js e f g j =
    ap (has nat_cmp j) g ∙ has_filter (λ i. not (has nat_cmp i c)) j w ∙ (λ i. has nat_cmp j (f i) && not (has nat_cmp j (e i))) ∙ (λ i. sym (answer_in j ws k) i && not (sym (answer_in j cs k) i))

not_failing : (a b : Bool) → (a && not b) ≡ false → (a ≡ false) ⊎ (b ≡ true)
not_failing true true e = inr refl
not_failing true false e = inl e
not_failing false b e = inl refl

pub none_has : (js : List ℕ) (b : Bool) (none : List ℕ) → none ≡ [] → b ≡ is_subset nat_cmp js none → b ≡ true → (j : ℕ) → has nat_cmp j js ≡ false
none_has js b none e f g j = at (has nat_cmp j js) refl
  where
    empty : is_subset nat_cmp js [] ≡ true
    empty = subst (λ xs. is_subset nat_cmp js xs ≡ true) e (sym f ∙ g)

    at : (c : Bool) → has nat_cmp j js ≡ c → has nat_cmp j js ≡ false
    at false d = d
    at true d = absurd ((is_subset_Decides nat_linear js []).0 empty j ((has_Decides nat_linear j js).0 d))

module _ {A : Type 0} (f : Fulfilment A) (cs old ws : List (List ℕ)) (n k : ℕ) (vs : List Support) (next : n ≡ k + 1) (l : k < length f.steps.items) (js : List ℕ) (failing : AreFailing cs ws k js)
    (w : AreWantedBelow f cs old n ws vs) where
  -- a pair that isn't one of these
  closed_back : (j : ℕ) → j < length vs → has nat_cmp j js ≡ false → IsWantedBelow f (answers_at j cs) (answers_at j old) k (answers_at j ws) (slice_index_or vs j no_support)
  closed_back j m e = back_closed f (answers_at j cs) (answers_at j old) (answers_at j ws) n k (slice_index_or vs j no_support) next l (w j m)
      (not_failing (slice_index_or (answers_at j ws) k false) (slice_index_or (answers_at j cs) k false) (sym (failing j) ∙ e))

  -- where there are none
  pub none_back : ((j : ℕ) → has nat_cmp j js ≡ false) → AreWantedBelow f cs old k ws vs
  none_back none j m = closed_back j m (none j)

  -- those that there are want its operands, and lack what it looks for
  pub some_back : (s : Step) (new : List (List ℕ)) (leaves : Support) (more : List Support) → s ≡ slice_index_or f.steps.items k s → new ≡ operands_wanted ws (step_of s) js → leaves ≡ slice_index_or f.leaves.items k no_support
      → AreMore (IsLeafWithin leaves (step_of s)) vs js more → AreWantedBelow f cs old k new more
  some_back s new leaves more is made told added j m = at (has nat_cmp j js) refl
    where
      inside : j < length vs
      inside = let c = added.count in omega arith

      at : (b : Bool) → has nat_cmp j js ≡ b → IsWantedBelow f (answers_at j cs) (answers_at j old) k (answers_at j new) (slice_index_or more j no_support)
      at true e = back_open f (answers_at j cs) (answers_at j old) (answers_at j ws) n k (slice_index_or vs j no_support) next l (w j inside) s (answers_at j new) leaves (slice_index_or more j no_support) is
          (ap (answers_at j) made ∙ operands_in j ws js (step_of s) e) told (added.kept j, added.added j inside ((has_Decides nat_linear j js).0 e))
      at false e = back_more f (answers_at j cs) (answers_at j old) (answers_at j new) k (slice_index_or vs j no_support) (slice_index_or more j no_support) (added.kept j)
          (subst (λ xs. IsWantedBelow f (answers_at j cs) (answers_at j old) k xs (slice_index_or vs j no_support)) (sym (ap (answers_at j) made ∙ operands_out j ws js (step_of s) e)) (closed_back j inside e))

-- the roots are wanted for each pair of a block
abbrev pub AreRootsWanted : List steps.Step → List Pair → List (List ℕ) → List ℕ → List (List ℕ) → Type 0
AreRootsWanted ss ps cs roots ws = (j : ℕ) (p : Pair) → slice_get ps j ≡ Some p → IsWantedBack (answers_at j cs) ss roots (length ss) (answers_at j ws)

module _ (ss : List steps.Step) (ps : List Pair) (cs : List (List ℕ)) where
  pub roots_begin : (ws : List (List ℕ)) → length ws ≡ length ss → AreRootsWanted ss ps cs [] ws
  roots_begin ws e j p found = record { from = record { count = length-map ws (has nat_cmp j) ∙ e; below = λ i g l. absurd (omega arith) }; rooted = λ k h. absurd h }

  pub roots_next : (all : List ℕ) → IsColumn (λ p. true) ps all → (roots more : List ℕ) (k : ℕ) (old new : List (List ℕ)) → more ≡ roots ++ k ∷ [] → new ≡ wanted_more old k all → AreRootsWanted ss ps cs roots old
      → AreRootsWanted ss ps cs more new
  roots_next all column roots more k old new e f w j p found =
      subst (IsWantedBack (answers_at j cs) ss more (length ss)) (sym (ap (answers_at j) f ∙ want_in j old k all (column j p found))) (root_wanted (answers_at j cs) ss roots more k (answers_at j old) e (w j p found))
