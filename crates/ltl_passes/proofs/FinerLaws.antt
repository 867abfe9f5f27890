-- Partitions that are finer than that of the last round, or as coarse: a round keeps them so, and where it changes nothing the partition is that of the last round.
use Rattle.std.proofs.Common.{◌≡◌, ℕ, zero, suc, ◌<◌, ◌≤◌, ◌⊎◌, inl, inr, List, length, sym, ◌∙◌, ap, subst, arith}
use Rattle.std.specs.Prelude.{slice_index}
use Rattle.std.proofs.lemmas.Bool.{cases_lt}
use Rattle.std.proofs.lemmas.List.{get_or_past}
use Rattle.ltl_spec.specs.Automata.Automaton.{Automaton, State, state_at}
use Rattle.ltl_spec.specs.Construction.Merging.{retargeted_state, class_names}
use Rattle.ltl_spec.proofs.Construction.RoundLaws.{retargeted_twice, rounds_end, names_length, name_first, name_low, name_twice, merged_at_end}
use Rattle.ltl_spec.proofs.Construction.NamingLaws.{IsNames, IsWithin, same_names, round_names, next_seen, next_equal, within_to}
use Rattle.ltl_passes.specs.Partition.{AreNames}
use Rattle.ltl_passes.specs.Worklist.{AreFiner, IsCoarser, IsRound, LeadsInside, LeadsWithin, last_name, own_view}

-- what gives the names of states names of their own, does so for all numbers
pub renamed_all : (n : ℕ) (names : List ℕ) (last : ℕ → ℕ) → length names ≡ n → ((t : ℕ) → t < n → last (slice_index names t) ≡ last t) → ((t : ℕ) → n ≤ t → last t ≡ 0) → ((t : ℕ) → t < n → last t ≤ t) → (t : ℕ) → last (slice_index names t) ≡ last t
renamed_all n names last long same past low t = elim (cases_lt t n) [
  | inl l ↦ same t l
  | inr l ↦ ap last (get_or_past names t 0 (omega arith)) ∙ zero_name (cases_lt 0 n) ∙ sym (past t l)
]
  where
    zero_name : (0 < n) ⊎ (n ≤ 0) → last 0 ≡ 0
    zero_name (inl m) = let q : last 0 ≤ 0 = low 0 m in omega arith
    zero_name (inr m) = past 0 m

module _ (A : Automaton) where
  abbrev count : ℕ
  count = length A.states

  last_past : (t : ℕ) → count ≤ t → last_name A t ≡ 0
  last_past t l = get_or_past (class_names A count) t 0 (let e = names_length A count in omega arith)

  -- states that the last round sees as equal have one name in it
  pub last_same : (s t : ℕ) → s < count → t < count → own_view A s ≡ own_view A t → last_name A s ≡ last_name A t
  last_same s t l m e =
      let p = next_equal A count s t l m e in
      let q = rounds_end A (suc count) (omega arith) in
      ap (λ xs. slice_index xs s) (sym q) ∙ p ∙ ap (λ xs. slice_index xs t) q

  -- the last round sees a state as it was seen under finer names
  pub seen_last : (names : List ℕ) → LeadsWithin (last_name A) count names → (s : State) → retargeted_state (last_name A) (retargeted_state (slice_index names) s) ≡ retargeted_state (last_name A) s
  seen_last names w s = retargeted_twice (slice_index names) (last_name A) (last_name A) (renamed_all count names (last_name A) w.states.long w.same last_past (name_low A count)) s

  -- names are states
  pub names_inside : (names : List ℕ) → AreNames names → length names ≡ count → LeadsInside count names
  names_inside names w long = record { long = long; inside = λ s l. let q = w.low s (omega arith) in omega arith }

  -- those of each round are finer
  pub round_finer : (n : ℕ) (names : List ℕ) → names ≡ class_names A n → AreFiner A names
  round_finer n names e = subst (AreFiner A) (sym e) (record {
    names = record { low = λ s l. name_low A n s (omega (arith, long)); twice = λ s l. name_twice A n s (omega (arith, long)) };
    within = record {
      states = record { long = long; inside = inside };
      same = λ s l. merged_at_end A (slice_index (class_names A n) s) s (inside s l, l, (n, name_twice A n s l));
    };
  })
    where
      long : length (class_names A n) ≡ count
      long = names_length A n

      inside : (s : ℕ) → s < count → slice_index (class_names A n) s < count
      inside s l = let q : slice_index (class_names A n) s ≤ s = name_low A n s l in omega arith

  -- the next round of finer names
  pub next_finer : (names next : List ℕ) → AreFiner A names → IsRound A names next → AreFiner A next
  next_finer names next w r = record {
    names = r.names;
    within = record { states = states; same = same };
  }
    where
      states : LeadsInside count next
      states = names_inside next r.names r.long

      same : (s : ℕ) → s < count → last_name A (slice_index next s) ≡ last_name A s
      same s l =
          let m = states.inside s l in
          let long = r.long in
          let seen = r.seen (slice_index next s) s m l (r.names.twice s (omega arith)) in
          last_same (slice_index next s) s m l (sym (seen_last names w.within (state_at A (slice_index next s))) ∙ ap (retargeted_state (last_name A)) seen ∙ seen_last names w.within (state_at A s))

  -- at least as coarse as round n
  abbrev pub HasRound : ℕ → List ℕ → Type 0
  HasRound n names = IsWithin A (class_names A n) names

  names_of : (names : List ℕ) → AreFiner A names → IsNames A names
  names_of names w = let long = w.within.states.long in record { long = long; low = λ s l. w.names.low s (omega arith); twice = λ s l. w.names.twice s (omega arith) }

  -- each is as coarse as round 0
  pub has_first : (names : List ℕ) → HasRound 0 names
  has_first names s t l m e = ap (slice_index names) (sym (name_first A s l) ∙ e ∙ name_first A t m)

  -- one round more
  pub has_next : (n : ℕ) (names next : List ℕ) → AreFiner A names → HasRound n names → IsRound A names next → HasRound (suc n) next
  has_next n names next w h r s t l m e =
      let seen = next_seen A n s t l m e in
      let twice = renamed_all count (class_names A n) (slice_index names) (names_length A n) (within_to A (class_names A n) names (round_names A n) h) past low in
      let same = λ (u : State). retargeted_twice (slice_index (class_names A n)) (slice_index names) (slice_index names) twice u in
      r.same s t l m (sym (same (state_at A s)) ∙ ap (retargeted_state (slice_index names)) seen ∙ same (state_at A t))
    where
      long : length names ≡ count
      long = w.within.states.long

      past : (u : ℕ) → count ≤ u → slice_index names u ≡ 0
      past u k = get_or_past names u 0 (omega (arith, long))

      low : (u : ℕ) → u < count → slice_index names u ≤ u
      low u k = w.names.low u (omega (arith, long))

  -- coarser names have what these have
  pub has_coarser : (n : ℕ) (names coarse : List ℕ) → length names ≡ count → IsCoarser names coarse → HasRound n names → HasRound n coarse
  has_coarser n names coarse long c h s t l m e = sym (c s (omega arith)) ∙ ap (slice_index coarse) (h s t l m e) ∙ c t (omega arith)

  -- with all rounds, finer names are those of the last round
  pub finer_last : (names : List ℕ) → AreFiner A names → HasRound count names → names ≡ class_names A count
  finer_last names w h = same_names A names (class_names A count) (names_of names w) (round_names A count) to h
    where
      to : IsWithin A names (class_names A count)
      to s t l m e = sym (w.within.same s l) ∙ ap (last_name A) e ∙ w.within.same t m

  -- where a round changes nothing, the names are those of the last round
  pub closed_last : (names next : List ℕ) → AreFiner A names → IsRound A names next → next ≡ names → names ≡ class_names A count
  closed_last names next w r e = finer_last names w (all count)
    where
      all : (n : ℕ) → HasRound n names
      all zero = has_first names
      all (suc n) = has_next n names names w (all n) (subst (IsRound A names) e r)
