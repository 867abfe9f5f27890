-- Joins of numbered conjuncts: in any order, split by a test, and with conjuncts that are independent of each other.
use Rattle.std.proofs.Common.{◌≡◌, ℕ, Bool, true, false, not, inl, inr, List, [], ◌∷◌, ◌++◌, refl}
use Rattle.std.specs.Prelude.{cond, filter, fold, slice_index_or}
use Rattle.ltl_spec.specs.Collections.Sets.{Has}
use Rattle.ltl_spec.specs.NormalForms.Normal.{Normal, Bottom}
use Rattle.ltl_spec.specs.Transitions.Pairs.{RowSet, Pair, join, empty_pair}
use Rattle.ltl_spec.specs.Transitions.RowTransitions.{Table, place, pairs_at, transitions}
use Rattle.ltl_spec.proofs.Transitions.TransitionLaws.{joined}
use Rattle.ltl_spec.proofs.Transitions.SameJoins.{AreAlike, alike_refl, alike_sym, alike_trans, AreSound, sound_nothing, sound_join, join_alike, join_comm, join_assoc, join_nothing, join_nothing_left, pairs_sound}
use Rattle.ltl_spec.proofs.Transitions.IndependentPairs.{AreIndependent, independent_sym, independent_of_nothing, independent_join}
use Rattle.ltl_spec.proofs.Transitions.ProductTransitions.{transitions_of, alike_transitions}

-- the pairs of all these conjuncts at once; `conjunct` gives the pairs of each
abbrev pub join_of : (ℕ → List Pair) → List ℕ → List Pair
join_of conjunct [] = empty_pair ∷ []
join_of conjunct (i ∷ e) = join (conjunct i) (join_of conjunct e)

-- the same of a list of lists
abbrev pub join_all : List (List Pair) → List Pair
join_all [] = empty_pair ∷ []
join_all (ps ∷ pss) = join ps (join_all pss)

-- conjuncts that are all apart from a list
module _ (table : Table) (chosen : Normal → List Pair) (conjunct : ℕ → List Pair) where
  pub independent_join_of : (e : List ℕ) (qs : List Pair) → ((i : ℕ) → Has e i → AreIndependent table chosen (conjunct i) qs) → AreIndependent table chosen (join_of conjunct e) qs
  independent_join_of [] qs f = independent_of_nothing table chosen qs
  independent_join_of (i ∷ e) qs f = independent_join table chosen (conjunct i) (join_of conjunct e) qs (f i (inl refl)) (independent_join_of e qs (λ k h. f k (inr h)))

  -- where each conjunct of one component is independent of each of the other one, so are their joins
  pub independent_components : (d e : List ℕ) → ((i j : ℕ) → Has d i → Has e j → AreIndependent table chosen (conjunct i) (conjunct j)) → AreIndependent table chosen (join_of conjunct d) (join_of conjunct e)
  independent_components d e f =
      independent_join_of d (join_of conjunct e) (λ i h. independent_sym table chosen (join_of conjunct e) (conjunct i) (independent_join_of e (conjunct i) (λ j k. independent_sym table chosen (conjunct i) (conjunct j) (f i j h k))))

module _ (conjunct : ℕ → List Pair) (sound : (i : ℕ) → AreSound (conjunct i)) where
  pub sound_join_of : (e : List ℕ) → AreSound (join_of conjunct e)
  sound_join_of [] = sound_nothing
  sound_join_of (i ∷ e) = sound_join (conjunct i) (join_of conjunct e) (sound_join_of e)

  -- one more conjunct on the side of the first or the second of two joined lists
  with_first : (i : ℕ) (e : List ℕ) (ps qs : List Pair) → AreSound qs → AreAlike (join_of conjunct e) (join ps qs) → AreAlike (join (conjunct i) (join_of conjunct e)) (join (join (conjunct i) ps) qs)
  with_first i e ps qs s a =
      alike_trans (join (conjunct i) (join_of conjunct e)) (join (conjunct i) (join ps qs)) (join (join (conjunct i) ps) qs)
      (join_alike (conjunct i) (conjunct i) (join_of conjunct e) (join ps qs) (alike_refl (conjunct i)) a)
      (alike_sym (join (join (conjunct i) ps) qs) (join (conjunct i) (join ps qs)) (join_assoc (conjunct i) ps qs s.proper))

  with_second : (i : ℕ) (e : List ℕ) (ps qs : List Pair) → AreSound ps → AreSound qs → AreAlike (join_of conjunct e) (join ps qs) → AreAlike (join (conjunct i) (join_of conjunct e)) (join ps (join (conjunct i) qs))
  with_second i e ps qs s r a =
      alike_trans (join (conjunct i) (join_of conjunct e)) (join (join (conjunct i) ps) qs) (join ps (join (conjunct i) qs)) (with_first i e ps qs r a)
      (alike_trans (join (join (conjunct i) ps) qs) (join (join ps (conjunct i)) qs) (join ps (join (conjunct i) qs))
      (join_alike (join (conjunct i) ps) (join ps (conjunct i)) qs qs (join_comm (conjunct i) ps (sound i).proper s.proper) (alike_refl qs))
      (join_assoc ps (conjunct i) qs r.proper))

  -- all conjuncts are those that pass a test, and the others
  pub join_split : (test : ℕ → Bool) (e : List ℕ) → AreAlike (join_of conjunct e) (join (join_of conjunct (filter test e)) (join_of conjunct (filter (λ i. not (test i)) e)))
  join_split test [] = alike_sym (join (empty_pair ∷ []) (empty_pair ∷ [])) (empty_pair ∷ []) (join_nothing_left (empty_pair ∷ []) sound_nothing)
  join_split test (i ∷ e) =
      let ps = filter test e in
      let qs = filter (λ k. not (test k)) e in
      let rest = join_split test e in
      elim (test i) as (λ b. AreAlike (join (conjunct i) (join_of conjunct e)) (join (join_of conjunct (cond b (i ∷ ps) ps)) (join_of conjunct (cond (not b) (i ∷ qs) qs)))) [
        | true ↦ with_first i e (join_of conjunct ps) (join_of conjunct qs) (sound_join_of qs) rest
        | false ↦ with_second i e (join_of conjunct ps) (join_of conjunct qs) (sound_join_of ps) (sound_join_of qs) rest
      ]

  -- two lists of conjuncts in a row
  pub join_append : (d e : List ℕ) → AreAlike (join_of conjunct (d ++ e)) (join (join_of conjunct d) (join_of conjunct e))
  join_append [] e = alike_sym (join (empty_pair ∷ []) (join_of conjunct e)) (join_of conjunct e) (join_nothing_left (join_of conjunct e) (sound_join_of e))
  join_append (i ∷ d) e = with_first i (d ++ e) (join_of conjunct d) (join_of conjunct e) (sound_join_of e) (join_append d e)

  -- beside what was there, one after another
  pub joined_one_by_one : (e : List ℕ) (ps : List Pair) → AreSound ps → AreAlike (fold (λ qs i. join qs (conjunct i)) ps e) (join ps (join_of conjunct e))
  joined_one_by_one [] ps s = alike_sym (join ps (empty_pair ∷ [])) ps (join_nothing ps s)
  joined_one_by_one (i ∷ e) ps s =
      alike_trans (fold (λ qs k. join qs (conjunct k)) (join ps (conjunct i)) e) (join (join ps (conjunct i)) (join_of conjunct e)) (join ps (join (conjunct i) (join_of conjunct e)))
      (joined_one_by_one e (join ps (conjunct i)) (sound_join ps (conjunct i) (sound i)))
      (join_assoc ps (conjunct i) (join_of conjunct e) (sound_join_of e).proper)

  -- all conjuncts one after another
  pub joined_from_nothing : (e : List ℕ) → AreAlike (fold (λ qs i. join qs (conjunct i)) (empty_pair ∷ []) e) (join_of conjunct e)
  joined_from_nothing e =
      alike_trans (fold (λ qs i. join qs (conjunct i)) (empty_pair ∷ []) e) (join (empty_pair ∷ []) (join_of conjunct e)) (join_of conjunct e)
      (joined_one_by_one e (empty_pair ∷ []) sound_nothing) (join_nothing_left (join_of conjunct e) (sound_join_of e))

-- the rows of a table

module _ (table : Table) where
  -- their pairs are sound
  pub rows_sound : (i : ℕ) → AreSound (pairs_at table i)
  rows_sound i = pairs_sound (place table) (slice_index_or table.elementary i Bottom)

  -- the pairs of a set of rows
  pub joined_rows : (e : RowSet) → AreAlike (joined table (empty_pair ∷ []) e) (join_of (pairs_at table) e)
  joined_rows e = joined_from_nothing (pairs_at table) rows_sound e

  -- so the transitions of a set of rows are those of its rows' pairs in whichever order
  pub transitions_by_rows : (keep : Bool) (e : RowSet) → transitions table keep e ≡ transitions_of table keep (join_of (pairs_at table) e)
  transitions_by_rows keep e = alike_transitions table keep (joined table (empty_pair ∷ []) e) (join_of (pairs_at table) e) (joined_rows e)
