-- One more state, with a new list or that of another.
use Rattle.std.proofs.Common.{◌≡◌, ℕ, zero, suc, ◌⊎◌, inl, inr, ◌<◌, ◌≤◌, List, [], ◌∷◌, ◌++◌, length, refl, sym, ◌∙◌, ap, subst, arith, length-append, Some}
use Rattle.std.specs.Prelude.{slice_get}
use Rattle.std.proofs.lemmas.List.{map-append, append-nil}
use Rattle.std.proofs.lemmas.List.Elements.{All-head, All-tail, All-weaker, All-push}
use Rattle.ltl_spec.specs.Automata.Automaton.{Automaton, State, Edge}
use Rattle.ltl_spec.proofs.Collections.ListLaws.{index_append, get_done, slice_get_has}
use Rattle.ltl_spec.proofs.Collections.SetLaws.{append_left, append_right}
use Rattle.ltl_spec.specs.Collections.Lists.{HasNoRepeats}
use Rattle.ltl_spec.specs.Collections.Sets.{Has}
use Rattle.ltl_automaton.specs.SharedView.{Shared, state_in, states_in, automaton_of, ArePlaces, IsShared, with_state}
use Rattle.ltl_automaton.specs.declared.shared.SharedState.{SharedState}
use Rattle.ltl_spec.proofs.Collections.FoundLaws.{index_there}

-- states have lists where more lists are put behind
places_longer : (lists new : List (List Edge)) (ps qs : List SharedState) → (more : List (List Edge)) × (new ≡ lists ++ more) → qs ≡ ps → ArePlaces lists ps → ArePlaces new qs
places_longer lists new ps qs w e a =
    let l = ap length w.1 ∙ length-append lists w.0 in
    subst (ArePlaces new) (sym e) (All-weaker (λ (p : SharedState). p.list < length lists) (λ (p : SharedState). p.list < length new) (λ p h. omega arith) ps a)

-- also with one more state
places_pushed : (lists new : List (List Edge)) (ps qs : List SharedState) (p : SharedState) → (more : List (List Edge)) × (new ≡ lists ++ more) → qs ≡ ps ++ p ∷ [] → p.list < length new → ArePlaces lists ps → ArePlaces new qs
places_pushed lists new ps qs p w e l a = subst (ArePlaces new) (sym e) (All-push (λ (q : SharedState). q.list < length new) ps p (places_longer lists new ps ps w refl a) l)

-- and have the same edges
states_stay : (lists more : List (List Edge)) (ps : List SharedState) → ArePlaces lists ps → states_in (lists ++ more) ps ≡ states_in lists ps
states_stay lists more [] a = refl
states_stay lists more (p ∷ ps) a =
    let first = index_append lists more p.list [] (All-head (λ (q : SharedState). q.list < length lists) p ps a) in
    let rest = states_stay lists more ps (All-tail (λ (q : SharedState). q.list < length lists) p ps a) in
    λ i. (let s : State = record { accepting = p.accepting; edges = first i } in s) ∷ rest i

-- what was found stands within the lists
pub found_within : (new : List (List Edge)) (i : ℕ) (edges : List Edge) → slice_get new i ≡ Some edges → i < length new
found_within new i edges e = (index_there new i edges [] e).0

pub shared_pushed : (sets : ℕ) (lists new : List (List Edge)) (ps qs : List SharedState) (p : SharedState) (edges : List Edge) (old : Shared) → (more : List (List Edge)) × (new ≡ lists ++ more) → qs ≡ ps ++ p ∷ []
    → slice_get new p.list ≡ Some edges → ArePlaces lists ps → (let s : Shared = record { sets = sets; lists = lists; states = ps } in s) ≡ old
    → automaton_of (record { sets = sets; lists = new; states = qs }) ≡ with_state (automaton_of old) p.accepting edges
shared_pushed sets lists new ps qs p edges old w e f a o =
    let last : state_in new p ≡ (let s : State = record { accepting = p.accepting; edges = edges } in s) =
    ap (λ es. let s : State = record { accepting = p.accepting; edges = es } in s) (index_there new p.list edges [] f).1 in
    let all : states_in new qs ≡ states_in lists ps ++ record { accepting = p.accepting; edges = edges } ∷ [] =
    ap (states_in new) e ∙ map-append (state_in new) ps (p ∷ []) ∙ (λ i. (ap (λ ls. states_in ls ps) w.1 ∙ states_stay lists w.0 ps a) i ++ last i ∷ []) in
    (λ i. let A : Automaton = record { sets = sets; states = all i } in A) ∙ ap (λ s. with_state (automaton_of s) p.accepting edges) o

-- one more state with the list of another
pub shared_again : (lists : List (List Edge)) (ps qs : List SharedState) (p : SharedState) → qs ≡ ps ++ p ∷ [] → p.list < length lists → IsShared lists ps → IsShared lists qs
shared_again lists ps qs p q l w = record {
  places = subst (ArePlaces lists) (sym q) (All-push (λ (r : SharedState). r.list < length lists) ps p w.places l);
  used = λ k m. let u = w.used k m in (u.0, subst (λ xs. Has xs u.0) (sym q) (append_left ps (p ∷ []) u.0 u.1), u.2);
}

pub again_is : (sets : ℕ) (lists : List (List Edge)) (ps qs : List SharedState) (p : SharedState) (edges : List Edge) (old : Shared) → qs ≡ ps ++ p ∷ [] → slice_get lists p.list ≡ Some edges → IsShared lists ps
    → (let s : Shared = record { sets = sets; lists = lists; states = ps } in s) ≡ old → automaton_of (record { sets = sets; lists = lists; states = qs }) ≡ with_state (automaton_of old) p.accepting edges
again_is sets lists ps qs p edges old q e w o = shared_pushed sets lists lists ps qs p edges old ([], sym (append-nil lists)) q e w.places o

below_or_from : (k q : ℕ) → (k < q) ⊎ (q ≤ k)
below_or_from k q = grind arith

-- in a list without repeats a thing stands at one place
pub got_once : {K : Type 0} (keys : List K) (i j : ℕ) (x : K) → HasNoRepeats keys → slice_get keys i ≡ Some x → slice_get keys j ≡ Some x → i ≡ j
got_once [] i j x d e f = absurd (cc)
got_once (y ∷ ys) zero zero x d e f = refl
got_once (y ∷ ys) zero (suc j) x d e f = let p : y ≡ x = cc in absurd (d.0 (subst (Has ys) (sym p) (slice_get_has ys j x f)))
got_once (y ∷ ys) (suc i) zero x d e f = let p : y ≡ x = cc in absurd (d.0 (subst (Has ys) (sym p) (slice_get_has ys i x e)))
got_once (y ∷ ys) (suc i) (suc j) x d e f = ap (λ n. suc n) (got_once ys i j x d.1 e f)

-- one more state with a new list
module _ (lists new : List (List Edge)) (edges : List Edge) (p : SharedState) (e : new ≡ lists ++ edges ∷ []) (at : p.list ≡ length lists) where
  there : slice_get new p.list ≡ Some edges
  there = (λ i. slice_get (e i) (at i)) ∙ get_done lists [] edges

  pub shared_more : (ps qs : List SharedState) → qs ≡ ps ++ p ∷ [] → IsShared lists ps → IsShared new qs
  shared_more ps qs q w = record {
    places = places_pushed lists new ps qs p (edges ∷ [], e) q (found_within new p.list edges there) w.places;
    used = λ k l. subst (λ xs. (r : SharedState) × Has xs r × (r.list ≡ k)) (sym q) (elim (below_or_from k (length lists)) [
      | inl m ↦ let u = w.used k m in (u.0, append_left ps (p ∷ []) u.0 u.1, u.2)
      | inr m ↦ (p, append_right ps (p ∷ []) p (inl refl), last k l m)
    ]);
  }
    where
      last : (k : ℕ) → k < length new → length lists ≤ k → p.list ≡ k
      last k l m = let long = ap length e ∙ length-append lists (edges ∷ []) in omega (arith, at, one)
        where
          one : length (edges ∷ []) ≡ 1
          one = refl

  pub shared_is : (sets : ℕ) (ps qs : List SharedState) (old : Shared) → qs ≡ ps ++ p ∷ [] → IsShared lists ps → (let s : Shared = record { sets = sets; lists = lists; states = ps } in s) ≡ old
      → automaton_of (record { sets = sets; lists = new; states = qs }) ≡ with_state (automaton_of old) p.accepting edges
  shared_is sets ps qs old q w o = shared_pushed sets lists new ps qs p edges old (edges ∷ [], e) q there w.places o
