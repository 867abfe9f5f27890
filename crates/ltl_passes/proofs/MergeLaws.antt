-- The steps of reading and making the states of automata that are merged.
use Rattle.std.proofs.Common.{◌≡◌, ℕ, ◌<◌, Bool, true, false, List, length, refl, sym, ◌∙◌, ap, subst, arith}
use Rattle.std.specs.Prelude.{slice_index}
use Rattle.std.specs.Ordering.{nat_cmp}
use Rattle.std.specs.Prelude.{nat_eq}
use Rattle.std.specs.Cmp.Lexicographic.{pointwise, pointwise_decides}
use Rattle.std.proofs.lemmas.Bool.Decides.{Decides-eqb}
use Rattle.std.proofs.lemmas.List.{get_or-map}
use Rattle.ltl_spec.specs.Collections.Sets.{Has, set_of}
use Rattle.ltl_spec.specs.Automata.Automaton.{Automaton, State, Edge}
use Rattle.ltl_spec.specs.Construction.Merging.{retargeted_state, without_implied, class_names}
use Rattle.ltl_spec.proofs.Construction.RoundLaws.{names_length, name_low, name_twice}
use Rattle.ltl_passes.specs.Partition.{number_in, IsNumbering, AreNames, retargeted_list, thinned}
use Rattle.ltl_passes.proofs.SignatureLaws.{seen_again}

-- the names of a round are names
pub names_of_round : (A : Automaton) (n : ℕ) (names : List ℕ) → names ≡ class_names A n → AreNames names
names_of_round A n names e =
    let long = names_length A n in
    subst AreNames (sym e) (record { low = λ s l. name_low A n s (omega arith); twice = λ s l. name_twice A n s (omega arith) })

pub long_of_round : (A : Automaton) (n : ℕ) (names : List ℕ) → names ≡ class_names A n → length names ≡ length A.states
long_of_round A n names e = ap length e ∙ names_length A n

-- the state of a class by the numbers that were found
pub class_same : (names classes numbers : List ℕ) (keep_implied : Bool) (s : State) → IsNumbering names classes numbers → ((e : Edge) → Has s.edges e → e.target < length names)
    → (let t : State = record { accepting = s.accepting; edges = thinned keep_implied (retargeted_list (slice_index numbers) s.edges) } in t)
    ≡ without_implied keep_implied (retargeted_state (λ t. number_in (set_of nat_cmp names) (slice_index names t)) s)
class_same names classes numbers keep_implied s w within =
    ap (λ es. let t : State = record { accepting = s.accepting; edges = thinned keep_implied es } in t) (seen_again (slice_index numbers) (λ t. number_in (set_of nat_cmp names) (slice_index names t)) s.edges (λ e h.
    ap (λ xs. slice_index xs e.target) w.numbered ∙ get_or-map (number_in classes) names e.target 0 0 (within e h) ∙ ap (λ cs. number_in cs (slice_index names e.target)) w.listed))
    ∙ irredundant keep_implied (retargeted_list (λ t. number_in (set_of nat_cmp names) (slice_index names t)) s.edges)
  where
    irredundant : (b : Bool) (es : List Edge) → (let t : State = record { accepting = s.accepting; edges = thinned b es } in t) ≡ without_implied b (record { accepting = s.accepting; edges = es })
    irredundant true es = refl
    irredundant false es = refl

pub same_list : (xs ys : List ℕ) → pointwise nat_eq xs ys ≡ true → xs ≡ ys
same_list xs ys t = (pointwise_decides Decides-eqb xs ys).0 t
