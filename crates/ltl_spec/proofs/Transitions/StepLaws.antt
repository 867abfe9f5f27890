-- Lists of steps represent tests, and the answers of the tests are computed step by step.
use Rattle.std.proofs.Common.{◌≡◌, ℕ, zero, suc, ◌+◌, ◌<◌, ◌≤◌, false, ◌&&◌, ◌||◌, List, [], ◌∷◌, ◌++◌, map, length, take, drop, refl, sym, ◌∙◌, ap, subst, arith}
use Rattle.std.specs.Prelude.{slice_index_or}
use Rattle.std.proofs.lemmas.List.{map-append, length-append, length-take-le, take-append-drop, take_more}
use Rattle.ltl_spec.specs.Transitions.Pairs.{Pair}
use Rattle.ltl_spec.proofs.Collections.ListLaws.{index_append, index_done}
use Rattle.ltl_spec.proofs.Transitions.Fulfilment as by
use Rattle.ltl_spec.proofs.Transitions.Fulfilment.{Test, passes}
use Rattle.ltl_spec.proofs.Transitions.Steps.{Step, Always, Never, Reads, Leads, Both, Either, test_at, step_test, tests_from, tests_of, step_passes}

-- what a map has at a number
at_mapped : {X Y : Type 0} (f : X → Y) (xs : List X) (i : ℕ) (d : X) → slice_index_or (map f xs) i (f d) ≡ f (slice_index_or xs i d)
at_mapped f [] i d = refl
at_mapped f (x ∷ xs) zero d = refl
at_mapped f (x ∷ xs) (suc i) d = at_mapped f xs i d

-- the answer of a number
pub answer_at : (p : Pair) (ts : List Test) (i : ℕ) → slice_index_or (map (passes p) ts) i false ≡ passes p (test_at ts i)
answer_at p ts i = at_mapped (passes p) ts i by.Never

-- the answer of the next step comes from those of the steps before it
pub passes_next : (p : Pair) (ts : List Test) (s : Step) → step_passes p (map (passes p) ts) s ≡ passes p (step_test ts s)
passes_next p ts Always = refl
passes_next p ts Never = refl
passes_next p ts (Reads l) = refl
passes_next p ts (Leads k) = refl
passes_next p ts (Both i j) = λ k. answer_at p ts i k && answer_at p ts j k
passes_next p ts (Either i j) = λ k. answer_at p ts i k || answer_at p ts j k

-- the tests of a list of steps

tests_append : (ts : List Test) (ss rest : List Step) → tests_from ts (ss ++ rest) ≡ tests_from (tests_from ts ss) rest
tests_append ts [] rest = refl
tests_append ts (s ∷ ss) rest = tests_append (ts ++ step_test ts s ∷ []) ss rest

-- one more step is one more test
pub tests_next : (ss : List Step) (s : Step) → tests_of (ss ++ s ∷ []) ≡ tests_of ss ++ step_test (tests_of ss) s ∷ []
tests_next ss s = tests_append [] ss (s ∷ [])

-- one more answer
pub answers_next : (p : Pair) (ss : List Step) (s : Step)
    → map (passes p) (tests_of (ss ++ s ∷ [])) ≡ map (passes p) (tests_of ss) ++ step_passes p (map (passes p) (tests_of ss)) s ∷ []
answers_next p ss s =
    ap (map (passes p)) (tests_next ss s) ∙ map-append (passes p) (tests_of ss) (step_test (tests_of ss) s ∷ [])
    ∙ ap (λ c. map (passes p) (tests_of ss) ++ c ∷ []) (sym (passes_next p (tests_of ss) s))

tests_from_length : (ts : List Test) (ss : List Step) → length (tests_from ts ss) ≡ length ts + length ss
tests_from_length ts [] = omega arith
tests_from_length ts (s ∷ ss) =
    let e = tests_from_length (ts ++ step_test ts s ∷ []) ss in
    let d = length-append ts (step_test ts s ∷ []) in
    omega arith

pub tests_length : (ss : List Step) → length (tests_of ss) ≡ length ss
tests_length ss = let e = tests_from_length [] ss in omega arith

-- later steps change no test
earlier_from : (ts : List Test) (ss : List Step) (j : ℕ) → j < length ts → test_at (tests_from ts ss) j ≡ test_at ts j
earlier_from ts [] j l = refl
earlier_from ts (s ∷ ss) j l =
    let d = length-append ts (step_test ts s ∷ []) in
    earlier_from (ts ++ step_test ts s ∷ []) ss j (omega arith) ∙ index_append ts (step_test ts s ∷ []) j by.Never l

pub test_earlier : (ss : List Step) (i j : ℕ) → j < i → i ≤ length ss → test_at (tests_of ss) j ≡ test_at (tests_of (take i ss)) j
test_earlier ss i j l m =
    let d = tests_length (take i ss) in
    let e = length-take-le i ss m in
    ap (λ x. test_at (tests_of x) j) (sym (take-append-drop i ss)) ∙ ap (λ x. test_at x j) (tests_append [] (take i ss) (drop i ss))
    ∙ earlier_from (tests_of (take i ss)) (drop i ss) j (omega arith)

-- the test of a number is that of its step
pub test_of_step : (ss : List Step) (i : ℕ) → i < length ss → test_at (tests_of ss) i ≡ step_test (tests_of (take i ss)) (slice_index_or ss i Always)
test_of_step ss i l =
    let s = slice_index_or ss i Always in
    let d = tests_length (take i ss) in
    let e = length-take-le i ss (omega arith) in
    let n : length (tests_of (take i ss)) ≡ i = omega arith in
    test_earlier ss (i + 1) i (omega arith) (omega arith) ∙ ap (λ x. test_at (tests_of x) i) (take_more ss i Always l) ∙ ap (λ x. test_at x i) (tests_next (take i ss) s)
    ∙ subst (λ m. test_at (tests_of (take i ss) ++ step_test (tests_of (take i ss)) s ∷ []) m ≡ step_test (tests_of (take i ss)) s) n (index_done (tests_of (take i ss)) [] (step_test (tests_of (take i ss)) s) by.Never)
