-- A generalized automaton and what is read of its text accept the same words.
use Rattle.std.proofs.Common.{◌≡◌, true, ◌↔◌, inl, inr, List, [], ◌∷◌, map, refl, sym, subst}
use Rattle.ltl_spec.specs.Collections.Sets.{Has}
use Rattle.ltl_spec.specs.Semantics.Word.{Name, Lasso}
use Rattle.ltl_spec.specs.Automata.Automaton.{Automaton, State, Accepts}
use Rattle.ltl_spec.specs.Hoa.HoaPrinted.{marked_of}
use Rattle.ltl_spec.specs.Checking.Check.{graph_of, MarkedAccepts}

-- where every state is accepting, nothing is lost between an automaton and what is read
same_states : (ss : List State) → ((s : State) → Has ss s → s.accepting ≡ true) → map (λ es. record { accepting = true; edges = es }) (map (λ s. s.edges) ss) ≡ ss
same_states [] a = refl
same_states (s ∷ ss) a =
    let first = a s (inl refl) in
    let rest = same_states ss (λ t h. a t (inr h)) in
    λ i. (let t : State = record { accepting = sym first i; edges = s.edges } in t) ∷ rest i

graph_back : (A : Automaton) (names : List Name) → ((s : State) → Has A.states s → s.accepting ≡ true) → graph_of (marked_of A names) ≡ A
graph_back A names a = λ i. record { sets = A.sets; states = same_states A.states a i }

pub marked_accepts : (A : Automaton) (names : List Name) → ((s : State) → Has A.states s → s.accepting ≡ true) → (w : Lasso) → MarkedAccepts (marked_of A names) w ↔ Accepts names A w
marked_accepts A names a w = subst (λ B. Accepts names B w ↔ Accepts names A w) (sym (graph_back A names a)) ((λ h. h), λ h. h)
