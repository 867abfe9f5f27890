-- Names of the states of an automaton: the signature of a state under them, and the names in each round of merging.
use Rattle.std.proofs.Common.{◌≡◌, ℕ, suc, ◌<◌, ◌≤◌, List, length, sym, ◌∙◌, ap, arith}
use Rattle.std.specs.Prelude.{slice_index}
use Rattle.std.proofs.lemmas.List.{ext_get_or}
use Rattle.ltl_spec.specs.Collections.Lists.{place_of}
use Rattle.ltl_spec.specs.Automata.Automaton.{Automaton, State, state_at}
use Rattle.ltl_spec.specs.Construction.Merging.{same_state, retargeted_state, class_names}
use Rattle.ltl_spec.proofs.Collections.ListLaws.{place_same}
use Rattle.ltl_spec.proofs.Construction.RoundLaws.{same_state_Decides, names_length, name_first, name_low, name_twice, seen_is, merged_alike, seen, seen_at, name_next, has_seen}
use Rattle.ltl_spec.proofs.Construction.QuotientRuns.{IsNaming}

-- lists of names

-- each state has a name, the least state of its class
pub record IsNames (A : Automaton) (names : List ℕ) : Type 0 where
  pub long : length names ≡ length A.states
  pub low : (s : ℕ) → s < length A.states → slice_index names s ≤ s
  pub twice : (s : ℕ) → s < length A.states → slice_index names (slice_index names s) ≡ slice_index names s

-- the state as it is seen under the names: its edges lead to classes
abbrev pub seen_under : Automaton → List ℕ → ℕ → State
seen_under A names s = retargeted_state (slice_index names) (state_at A s)

-- what the names join, the coarse names join
abbrev pub IsWithin : Automaton → List ℕ → List ℕ → Type 0
IsWithin A names coarse = (s t : ℕ) → s < length A.states → t < length A.states → slice_index names s ≡ slice_index names t → slice_index coarse s ≡ slice_index coarse t

module _ (A : Automaton) where
  -- how many states there are
  abbrev count : ℕ
  count = length A.states

  -- the names of the last round
  abbrev last_names : List ℕ
  last_names = class_names A count

  -- then the coarse names give each state the name that its own name has
  pub within_to : (names coarse : List ℕ) → IsNames A names → IsWithin A names coarse → (s : ℕ) → s < count → slice_index coarse (slice_index names s) ≡ slice_index coarse s
  within_to names coarse n w s l =
      let low : slice_index names s ≤ s = n.low s l in
      w (slice_index names s) s (omega arith) l (n.twice s l)

  -- those of each round are names
  pub round_names : (n : ℕ) → IsNames A (class_names A n)
  round_names n = record { long = names_length A n; low = name_low A n; twice = name_twice A n }

  -- equal in the next round is: seen as equal in this one
  pub next_seen : (n i j : ℕ) → i < count → j < count → slice_index (class_names A (suc n)) i ≡ slice_index (class_names A (suc n)) j → seen_under A (class_names A n) i ≡ seen_under A (class_names A n) j
  next_seen n i j l m e =
      let same = place_same same_state same_state_Decides (seen_at A n i) (seen_at A n j) (seen A n) (has_seen A n i l) (has_seen A n j m) (sym (name_next A n i l) ∙ e ∙ name_next A n j m) in
      sym (seen_is A n i l) ∙ same ∙ seen_is A n j m

  -- and the other way round
  pub next_equal : (n i j : ℕ) → i < count → j < count → seen_under A (class_names A n) i ≡ seen_under A (class_names A n) j → slice_index (class_names A (suc n)) i ≡ slice_index (class_names A (suc n)) j
  next_equal n i j l m e =
      name_next A n i l ∙ ap (λ s. place_of same_state s (seen A n)) (seen_is A n i l ∙ e ∙ sym (seen_is A n j m)) ∙ sym (name_next A n j m)

  -- at first each state is alone
  pub first_naming : IsNaming A (class_names A 0)
  first_naming = record {
    long = names_length A 0;
    low = name_low A 0;
    alike = λ s l. ap (seen_under A (class_names A 0)) (name_first A s l);
  }

  -- under the names of the last round, of each state, the state and its name are seen as equal
  pub last_alike : (s : ℕ) → s < count → seen_under A last_names (slice_index last_names s) ≡ seen_under A last_names s
  last_alike s l =
      let low : slice_index last_names s ≤ s = name_low A count s l in
      let inside : slice_index last_names s < count = omega arith in
      sym (seen_is A count (slice_index last_names s) inside) ∙ merged_alike A (slice_index last_names s) s inside l (name_twice A count s l) ∙ seen_is A count s l

  -- names that join the same states are the same
  pub same_names : (names others : List ℕ) → IsNames A names → IsNames A others → IsWithin A names others → IsWithin A others names → names ≡ others
  same_names names others n o to from =
      let a = n.long in
      let b = o.long in
      ext_get_or 0 names others (omega arith) (λ i l. at i (omega arith))
    where
      at : (s : ℕ) → s < count → slice_index names s ≡ slice_index others s
      at s l =
          let p : slice_index names s ≤ s = n.low s l in
          let q : slice_index others s ≤ s = o.low s l in
          let u : slice_index others (slice_index names s) ≡ slice_index others s = within_to names others n to s l in
          let v : slice_index names (slice_index others s) ≡ slice_index names s = within_to others names o from s l in
          let x : slice_index others (slice_index names s) ≤ slice_index names s = o.low (slice_index names s) (omega arith) in
          let y : slice_index names (slice_index others s) ≤ slice_index others s = n.low (slice_index others s) (omega arith) in
          omega arith
