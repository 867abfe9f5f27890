-- The literals and rows that tests mention, as sets of numbers.
use Rattle.std.proofs.Common.{◌≡◌, ℕ, inl, inr, List, [], ◌∷◌, ◌++◌, length, sym, ◌∙◌, ap, subst, arith}
use Rattle.std.specs.Prelude.{slice_index_or}
use Rattle.std.proofs.lemmas.List.{length-append, get_or_past}
use Rattle.ltl_spec.specs.Collections.Sets.{Has}
use Rattle.ltl_spec.specs.Transitions.Cubes.{Literal}
use Rattle.ltl_spec.specs.NormalForms.Normal.{Normal}
use Rattle.ltl_spec.specs.NormalForms.NormalForm.{until_rows}
use Rattle.ltl_spec.specs.Transitions.Pairs.{Pair}
use Rattle.ltl_spec.specs.Transitions.RowTransitions.{table_of, place}
use Rattle.ltl_spec.specs.Transitions.Pruning.{fulfilling_pairs}
use Rattle.ltl_spec.proofs.Collections.SetLaws.{append_cases, union_left, union_right}
use Rattle.ltl_spec.proofs.Collections.ListLaws.{index_append, index_done}
use Rattle.ltl_spec.proofs.Collections.Orders.{nat_linear}
use Rattle.ltl_spec.proofs.Collections.CaseLaws.{below_equal_above}
use Rattle.ltl_spec.proofs.Transitions.IndependenceTests.{Support, of_sign, no_support, support_of, together, Covers, within_sign, within_together_left, within_together_right, Has-names, names_of_sign}
use Rattle.ltl_spec.proofs.Transitions.Fulfilment as by
use Rattle.ltl_spec.proofs.Transitions.Fulfilment.{Test, literals_of, targets_of, until_test}
use Rattle.ltl_spec.proofs.Transitions.Steps.{Step, Always, Never, Reads, Leads, Both, Either, test_at, step_test}
use Rattle.ltl_spec.proofs.Transitions.SpokenLaws.{fulfilling_spoken}

-- all that the test speaks of is there
pub record TellsOf (v : Support) (a : Test) : Type 0 where
  pub literals : (l : Literal) → Has (literals_of a) l → Has (of_sign l.positive v) l.proposition
  pub rows : (k : ℕ) → Has (targets_of a) k → Has v.targets k

-- steps

-- what a step speaks of, by what those before it do
abbrev pub step_leaves : List Support → Step → Support
step_leaves vs Always = no_support
step_leaves vs Never = no_support
step_leaves vs (Reads l) = support_of (record { cube = l ∷ []; targets = [] })
step_leaves vs (Leads k) = record { positive = []; negative = []; targets = k ∷ [] }
step_leaves vs (Both i j) = together (slice_index_or vs i no_support) (slice_index_or vs j no_support)
step_leaves vs (Either i j) = together (slice_index_or vs i no_support) (slice_index_or vs j no_support)

-- of each number what is there tells of the test
abbrev pub AllTell : List Support → List Test → Type 0
AllTell vs ts = (i : ℕ) → TellsOf (slice_index_or vs i no_support) (test_at ts i)

both_tell : (v w : Support) (a b : Test) → TellsOf v a → TellsOf w b → TellsOf (together v w) (by.Both a b)
both_tell v w a b s t = record {
  literals = λ l h. elim (append_cases (literals_of a) (literals_of b) l h) [
    | inl k ↦ within_sign v (together v w) (within_together_left v w) l.positive l.proposition (s.literals l k)
    | inr k ↦ within_sign w (together v w) (within_together_right v w) l.positive l.proposition (t.literals l k)
  ];
  rows = λ k h. elim (append_cases (targets_of a) (targets_of b) k h) [
    | inl m ↦ union_left nat_linear v.targets w.targets k (s.rows k m)
    | inr m ↦ union_right nat_linear v.targets w.targets k (t.rows k m)
  ];
}

literal_tells : (l : Literal) → TellsOf (support_of (record { cube = l ∷ []; targets = [] })) (by.Reads l)
literal_tells l = record { literals = literals; rows = λ k h. absurd h }
  where
    one : Pair
    one = record { cube = l ∷ []; targets = [] }

    literals : (m : Literal) → Has (l ∷ []) m → Has (of_sign m.positive (support_of one)) m.proposition
    literals m h = names_of_sign one m.positive m.proposition (Has-names (l ∷ []) m h)

-- so it is for the next step
pub tells_next : (vs : List Support) (ts : List Test) → AllTell vs ts → (s : Step) → TellsOf (step_leaves vs s) (step_test ts s)
tells_next vs ts w Always = record { literals = λ l h. absurd h; rows = λ k h. absurd h }
tells_next vs ts w Never = record { literals = λ l h. absurd h; rows = λ k h. absurd h }
tells_next vs ts w (Reads l) = literal_tells l
tells_next vs ts w (Leads k) = record { literals = λ l h. absurd h; rows = λ i h. h }
tells_next vs ts w (Both i j) = both_tell (slice_index_or vs i no_support) (slice_index_or vs j no_support) (test_at ts i) (test_at ts j) (w i) (w j)
tells_next vs ts w (Either i j) =
    let b = both_tell (slice_index_or vs i no_support) (slice_index_or vs j no_support) (test_at ts i) (test_at ts j) (w i) (w j) in
    record { literals = b.literals; rows = b.rows }

pub none_tell : AllTell [] []
none_tell i = record { literals = λ l h. absurd h; rows = λ k h. absurd h }

pub all_tell_next : (vs : List Support) (ts : List Test) → length vs ≡ length ts → AllTell vs ts → (s : Step) → AllTell (vs ++ step_leaves vs s ∷ []) (ts ++ step_test ts s ∷ [])
all_tell_next vs ts e w s i = elim (below_equal_above i (length vs)) [
  | inl l ↦ told (sym (index_append vs (step_leaves vs s ∷ []) i no_support l)) (sym (index_append ts (step_test ts s ∷ []) i by.Never (omega arith))) (w i)
  | inr m ↦ elim m [
    | inl d ↦
        let f : i ≡ length ts = omega arith in
        told (sym (ap (λ n. slice_index_or (vs ++ step_leaves vs s ∷ []) n no_support) d ∙ index_done vs [] (step_leaves vs s) no_support))
        (sym (ap (λ n. test_at (ts ++ step_test ts s ∷ []) n) f ∙ index_done ts [] (step_test ts s) by.Never)) (tells_next vs ts w s)
    | inr l ↦
        let a = length-append vs (step_leaves vs s ∷ []) in
        let b = length-append ts (step_test ts s ∷ []) in
        told (sym (get_or_past (vs ++ step_leaves vs s ∷ []) i no_support (omega arith))) (sym (get_or_past (ts ++ step_test ts s ∷ []) i by.Never (omega arith)))
        (record { literals = λ l h. absurd h; rows = λ k h. absurd h })
  ]
]
  where
    told : {v w : Support} {a b : Test} → v ≡ w → a ≡ b → TellsOf v a → TellsOf w b
    told {w = w} {a = a} d f t = subst (TellsOf w) f (subst (λ x. TellsOf x a) d t)

-- what tells of an until row's test covers the pairs that fulfil it
pub covers_fulfilling : (core : Normal) (v : Support) (f : Normal) → Has (until_rows core) f → TellsOf v (until_test (place (table_of core)) f) → Covers v (fulfilling_pairs (table_of core) f)
covers_fulfilling core v f h w =
    let s = fulfilling_spoken core f h in
    record { literals = λ l a. w.literals l (s.literals l a); rows = λ k a. w.rows k (s.rows k a) }
