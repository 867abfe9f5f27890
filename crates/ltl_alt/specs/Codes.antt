-- Pairs and transitions coded as the tuples of their fields.
use Rattle.std.specs.Prelude.{ℕ, List, refl}
use Rattle.std.specs.Coded.{Coded, code_by, coded×, coded_ℕ, coded_list}
use Rattle.ltl_spec.specs.Transitions.Cubes.{Literal}
use Rattle.ltl_spec.specs.Transitions.Pairs.{Pair}
use Rattle.ltl_spec.specs.Transitions.RowTransitions.{Transition}
use Rattle.ltl_automaton.specs.Codes.{literal_code}

abbrev pub pair_code : Coded Pair
pair_code = code_by (List Literal × List ℕ) (coded× (coded_list literal_code) (coded_list coded_ℕ)) (λ p. (p.cube, p.targets)) (λ p. record { cube = p.0; targets = p.1 }) (λ _. refl)

abbrev pub transition_code : Coded Transition
transition_code = code_by (List Literal × (List ℕ × List ℕ)) (coded× (coded_list literal_code) (coded× (coded_list coded_ℕ) (coded_list coded_ℕ))) (λ t. (t.cube, (t.targets, t.marks))) (λ t. record { cube = t.0; targets = t.1.0; marks = t.1.1 }) (λ _. refl)
