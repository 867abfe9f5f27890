-- The classes of a partition, made one at a time.
use Rattle.std.proofs.Common.{◌≡◌, ℕ, ◌+◌, ◌<◌, ◌≤◌, Bool, true, List, [], ◌∷◌, length, map, sym, ◌∙◌, ap, subst, arith}
use Rattle.std.specs.Prelude.{slice_index, All}
use Rattle.std.specs.Ordering.{nat_cmp}
use Rattle.ltl_spec.specs.Collections.Sets.{set_of}
use Rattle.ltl_spec.specs.Automata.Automaton.{Automaton, Edge, State, state_at}
use Rattle.ltl_spec.specs.Construction.Merging.{quotient, retargeted_state, without_implied}
use Rattle.ltl_spec.proofs.Collections.MemberLaws.{at_map, map_length}
use Rattle.std.specs.Prelude.{slice_get, Some}
use Rattle.std.proofs.lemmas.List.{map-append, take_more, length-take-le, get_or-take}
use Rattle.std.proofs.lemmas.List.Elements.{All-push}
use Rattle.ltl_automaton.specs.Labels.{IsCoded, AreCoded, Tables, labelled, labelled_edge, labelled_state}
use Rattle.ltl_automaton.specs.SharedView.{with_state}
use Rattle.ltl_automaton.proofs.TableLaws.{labelled_length, state_at_labelled, states_at}
use Rattle.ltl_automaton.proofs.WayLaws.{take_whole}
use Rattle.ltl_passes.specs.Partitioned.{AreStatesMade}
use Rattle.ltl_passes.specs.Partition.{AreNames, IsNumbering, IsWithinStates, number_in, retargeted_list, thinned}
use Rattle.ltl_passes.proofs.CodedListLaws.{labelled_within}
use Rattle.ltl_passes.proofs.MergeLaws.{class_same}
use Rattle.ltl_passes.proofs.NumberLaws.{class_below}

-- the state that is read past the end
abbrev none : State
none = record { accepting = true; edges = [] }

-- one more state with numbers
pub coded_state_next : (t : Tables) (A B C : Automaton) (n : ℕ) (accepting : Bool) (es : List Edge) → AreStatesMade t A B n → n < length A.states → C ≡ with_state B accepting es → accepting ≡ (state_at A n).accepting
    → map (labelled_edge t) es ≡ (state_at A n).edges → All (IsCoded t) es → AreStatesMade t A C (n + 1)
coded_state_next t A B C n accepting es w l c p e d =
    let s : State = record { accepting = accepting; edges = es } in
    let P : State → Type 0 = λ r. All (IsCoded t) r.edges in
    let same : labelled_state t s ≡ state_at A n = λ i. let r : State = record { accepting = p i; edges = e i } in r in
    record {
      labelled = ap (labelled t) c
          ∙ (λ i. let D : Automaton = record { sets = B.sets; states = map-append (labelled_state t) B.states (s ∷ []) i } in D)
          ∙ (λ i. with_state (w.labelled i) (same i).accepting (same i).edges)
          ∙ (λ i. let D : Automaton = record { sets = A.sets; states = sym (take_more A.states n none l) i } in D);
      coded = subst (AreCoded t) (sym c) (All-push P B.states s w.coded d);
    }

-- there is a state for each of the first ones
pub made_count : (t : Tables) (A B : Automaton) (n : ℕ) → AreStatesMade t A B n → n < length A.states → length B.states ≡ n
made_count t A B n w l = sym (labelled_length t B) ∙ ap (λ (X : Automaton). length X.states) w.labelled ∙ length-take-le n A.states (omega arith)

-- one more state with the edges of an earlier one
pub coded_state_again : (t : Tables) (A B C : Automaton) (n f : ℕ) (accepting : Bool) → AreStatesMade t A B n → n < length A.states → f < n → (state_at A f).edges ≡ (state_at A n).edges → C ≡ with_state B accepting (state_at B f).edges
    → accepting ≡ (state_at A n).accepting → AreStatesMade t A C (n + 1)
coded_state_again t A B C n f accepting w l m e c p =
    let P : State → Type 0 = λ r. All (IsCoded t) r.edges in
    let seen : labelled_state t (state_at B f) ≡ state_at A f = sym (state_at_labelled t B f) ∙ ap (λ X. state_at X f) w.labelled ∙ get_or-take n A.states f none m in
    coded_state_next t A B C n accepting (state_at B f).edges w l c p (ap (λ (r : State). r.edges) seen ∙ e) (states_at B P f (λ k d h. absurd (omega arith)) w.coded)

-- lists with one number are one list
pub one_list : (lists : List (List Edge)) (i j : ℕ) (es fs : List Edge) → i ≡ j → slice_get lists i ≡ Some es → slice_get lists j ≡ Some fs → es ≡ fs
one_list lists i j es fs e a b = some_same es fs (sym a ∙ ap (slice_get lists) e ∙ b)
  where
    some_same : (x y : List Edge) → Some x ≡ Some y → x ≡ y
    some_same x y e = cc

module _ (t : Tables) (A : Automaton) (keep_implied : Bool) (names classes numbers : List ℕ) (w : IsNumbering names classes numbers) where
  abbrev L : Automaton
  L = labelled t A

  abbrev Q : Automaton
  Q = quotient keep_implied names L

  -- there are as many states as classes
  count : length Q.states ≡ length classes
  count = map_length (λ c. without_implied keep_implied (retargeted_state (λ s. number_in (set_of nat_cmp names) (slice_index names s)) (state_at L c))) (set_of nat_cmp names) ∙ ap length (sym w.listed)

  as_many : (i : ℕ) → i < length classes → i < length Q.states
  as_many i l = subst (λ n. i < n) (sym count) l

  -- as many states as classes so far
  pub classes_count : (B : Automaton) (i : ℕ) → AreStatesMade t Q B i → i < length classes → length B.states ≡ i
  classes_count B i m l = made_count t Q B i m (as_many i l)

  -- behind the last class
  pub classes_done : (B : Automaton) (i : ℕ) → AreStatesMade t Q B i → length classes ≤ i → labelled t B ≡ Q
  classes_done B i m l = m.labelled ∙ (λ k. let X : Automaton = record { sets = A.sets; states = take_whole i Q.states (subst (λ n. n ≤ i) (sym count) l) k } in X)

  module _ (within : IsWithinStates A.states) (long : length names ≡ length A.states) where
    -- the state of a class
    class_at : (i : ℕ) → i < length classes
        → (let s : State = record { accepting = (state_at L (slice_index classes i)).accepting; edges = thinned keep_implied (retargeted_list (slice_index numbers) (state_at L (slice_index classes i)).edges) } in s) ≡ state_at Q i
    class_at i l =
        class_same names classes numbers keep_implied (state_at L (slice_index classes i)) w (λ e h. subst (λ n. e.target < n) (sym long) (labelled_within t A within (slice_index classes i) e h))
        ∙ ap (λ cs. without_implied keep_implied (retargeted_state (λ s. number_in (set_of nat_cmp names) (slice_index names s)) (state_at L (slice_index cs i)))) w.listed
        ∙ sym (at_map (λ c. without_implied keep_implied (retargeted_state (λ s. number_in (set_of nat_cmp names) (slice_index names s)) (state_at L c))) (set_of nat_cmp names) i 0 (record { accepting = true; edges = [] }) (subst (λ cs. i < length cs) w.listed l))

    accepts_like : (i : ℕ) → i < length classes → (state_at A (slice_index classes i)).accepting ≡ (state_at Q i).accepting
    accepts_like i l = ap (λ (s : State). s.accepting) (sym (state_at_labelled t A (slice_index classes i))) ∙ ap (λ (s : State). s.accepting) (class_at i l)

    -- a class with edges of its own
    pub class_next : (B C : Automaton) (i : ℕ) (accepting : Bool) (es : List Edge) → AreStatesMade t Q B i → i < length classes → C ≡ with_state B accepting es → accepting ≡ (state_at A (slice_index classes i)).accepting
        → map (labelled_edge t) es ≡ thinned keep_implied (retargeted_list (slice_index numbers) (state_at L (slice_index classes i)).edges) → All (IsCoded t) es → AreStatesMade t Q C (i + 1)
    class_next B C i accepting es m l c a e d = coded_state_next t Q B C i accepting es m (as_many i l) c (a ∙ accepts_like i l) (e ∙ ap (λ (s : State). s.edges) (class_at i l)) d

    -- a class with the edges of an earlier one, since the edges of their states are equal
    pub class_again : (B C : Automaton) (i f : ℕ) (accepting : Bool) → AreStatesMade t Q B i → i < length classes → f < i → (state_at A (slice_index classes f)).edges ≡ (state_at A (slice_index classes i)).edges
        → C ≡ with_state B accepting (state_at B f).edges → accepting ≡ (state_at A (slice_index classes i)).accepting → AreStatesMade t Q C (i + 1)
    class_again B C i f accepting m l k e c a =
        let labels : (state_at L (slice_index classes f)).edges ≡ (state_at L (slice_index classes i)).edges =
        ap (λ (s : State). s.edges) (state_at_labelled t A (slice_index classes f)) ∙ ap (map (labelled_edge t)) e ∙ ap (λ (s : State). s.edges) (sym (state_at_labelled t A (slice_index classes i))) in
        let same : (state_at Q f).edges ≡ (state_at Q i).edges =
        ap (λ (s : State). s.edges) (sym (class_at f (omega (arith, k, l)))) ∙ ap (λ es. thinned keep_implied (retargeted_list (slice_index numbers) es)) labels ∙ ap (λ (s : State). s.edges) (class_at i l) in
        coded_state_again t Q B C i f accepting m (as_many i l) k same c (a ∙ accepts_like i l)

-- a class is named by a state
pub class_inside : (names classes numbers cs : List ℕ) (n i : ℕ) → AreNames names → IsNumbering names classes numbers → length names ≡ n → cs ≡ classes → i < length classes → slice_index cs i < n
class_inside names classes numbers cs n i a w long is l =
    subst (λ xs. slice_index xs i < n) (sym is) (subst (λ m. slice_index classes i < m) long (class_below names classes numbers a w i 0 l))
