-- Transitions are equal when their conjuncts are, and what one feeds a hasher.
use Rattle.std.specs.Prelude.{◌≡◌, ◌&&◌, ◌++◌, Bool, true, nat_eq, List, ℕ}
use Rattle.std.proofs.Common.{ap, ◌∙◌}
use Rattle.std.specs.Bool.{Decides}
use Rattle.std.specs.Cmp.{first_so, second_so}
use Rattle.std.specs.Cmp.Lexicographic.{pointwise, bytes_decides}
use Rattle.ltl_spec.specs.Transitions.RowTransitions.{Transition}
use Rattle.ltl_sets.specs.CubeEq.{same_cube, cube_Decides, hash_of_cube}
use Rattle.ltl_sets.specs.Words.{hash_of, words_with}

abbrev pub same_transition : Transition → Transition → Bool
same_transition t u = same_cube t.cube u.cube && (pointwise nat_eq t.targets u.targets && pointwise nat_eq t.marks u.marks)

both : (a b : Bool) → a ≡ true → b ≡ true → (a && b) ≡ true
both a b p q = ap (λ x. x && b) p ∙ q

pub transition_Decides : (t u : Transition) → Decides (same_transition t u) (t ≡ u)
transition_Decides t u = (
  (λ e.
      let rest = second_so (same_cube t.cube u.cube) _ e in
      let cube = (cube_Decides t.cube u.cube).0 (first_so _ _ e) in
      let targets = (bytes_decides t.targets u.targets).0 (first_so _ _ rest) in
      let marks = (bytes_decides t.marks u.marks).0 (second_so (pointwise nat_eq t.targets u.targets) _ rest) in
      λ i. let v : Transition = record { cube = cube i; targets = targets i; marks = marks i } in v),
  (λ h. both _ _ ((cube_Decides t.cube u.cube).1 (ap (λ (v : Transition). v.cube) h))
      (both _ _ ((bytes_decides t.targets u.targets).1 (ap (λ (v : Transition). v.targets) h)) ((bytes_decides t.marks u.marks).1 (ap (λ (v : Transition). v.marks) h)))),
)

abbrev pub hash_of_transition : Transition → List (List ℕ)
hash_of_transition t = hash_of_cube t.cube ++ (hash_of (words_with t.targets) ++ hash_of (words_with t.marks))
