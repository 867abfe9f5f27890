-- The disjunctive normal forms of a row's tests are the row's pairs and its sets.
use Rattle.std.proofs.Common.{◌≡◌, ℕ, inl, inr, List, [], ◌∷◌, ◌++◌, map, refl, sym, ◌∙◌, ap, subst}
use Rattle.std.specs.Prelude.{filter_map}
use Rattle.std.specs.Ordering.{nat_cmp}
use Rattle.ltl_spec.specs.Collections.Sets.{union}
use Rattle.ltl_spec.specs.NormalForms.Normal.{Normal, Top, Bottom, Leaf, Next, And, Or, Until, Release}
use Rattle.ltl_spec.specs.Transitions.Pairs.{RowSet, Pair, conj, join, join_pair, later_pair, pairs, unions}
use Rattle.ltl_spec.proofs.Collections.SetLaws.{append_cases}
use Rattle.ltl_spec.proofs.Transitions.Fulfilment as test
use Rattle.ltl_spec.proofs.Transitions.Fulfilment.{Test, pair_test, set_test}
use Rattle.ltl_spec.proofs.Transitions.JoinLaws.{IsProper, IsConsistent}
use Rattle.ltl_spec.proofs.Transitions.SameJoins.{AreSound, single_consistent, sound_join, sound_nothing}
use Rattle.ltl_alt.specs.TestPairs.{dnf}

-- ---- sets as pairs that ask for them next

-- the pair that needs these rows next
abbrev pub next_pair : RowSet → Pair
next_pair e = record { cube = []; targets = e }

next_append : (ds es : List RowSet) → map next_pair (ds ++ es) ≡ map next_pair ds ++ map next_pair es
next_append [] es = refl
next_append (d ∷ ds) es = ap (λ l. next_pair d ∷ l) (next_append ds es)

next_each : (d : RowSet) (es : List RowSet) → map next_pair (map (union nat_cmp d) es) ≡ filter_map (join_pair (next_pair d)) (map next_pair es)
next_each d [] = refl
next_each d (e ∷ es) = ap (λ l. next_pair (union nat_cmp d e) ∷ l) (next_each d es)

next_unions : (ds es : List RowSet) → map next_pair (unions ds es) ≡ join (map next_pair ds) (map next_pair es)
next_unions [] es = refl
next_unions (d ∷ ds) es =
    next_append (map (union nat_cmp d) es) (unions ds es)
    ∙ ap (λ l. l ++ map next_pair (unions ds es)) (next_each d es)
    ∙ ap (λ l. filter_map (join_pair (next_pair d)) (map next_pair es) ++ l) (next_unions ds es)

-- ---- rows

module _ (place : Normal → ℕ) where
  pub dnf_sets : (F : Normal) → dnf (set_test place F) ≡ map next_pair (conj place F)
  dnf_sets Top = refl
  dnf_sets Bottom = refl
  dnf_sets (And a b) = (λ i. join (dnf_sets a i) (dnf_sets b i)) ∙ sym (next_unions (conj place a) (conj place b))
  dnf_sets (Or a b) = (λ i. dnf_sets a i ++ dnf_sets b i) ∙ sym (next_append (conj place a) (conj place b))
  dnf_sets (Leaf l) = refl
  dnf_sets (Next a) = refl
  dnf_sets (Until a b) = refl
  dnf_sets (Release a b) = refl

  pub dnf_pairs : (F : Normal) → dnf (pair_test place F) ≡ pairs place F
  dnf_pairs Top = refl
  dnf_pairs Bottom = refl
  dnf_pairs (Leaf l) = refl
  dnf_pairs (And a b) = λ i. join (dnf_pairs a i) (dnf_pairs b i)
  dnf_pairs (Or a b) = λ i. dnf_pairs a i ++ dnf_pairs b i
  dnf_pairs (Next a) = dnf_sets a
  dnf_pairs (Until a b) = λ i. dnf_pairs b i ++ join (dnf_pairs a i) (later_pair (place (Until a b)) ∷ [])
  dnf_pairs (Release a b) = λ i. join (dnf_pairs b i) (dnf_pairs a i ++ later_pair (place (Release a b)) ∷ [])

-- ---- all pairs are sound

sound_one : (p : Pair) → IsProper p → IsConsistent p → AreSound (p ∷ [])
sound_one p w c = record {
  proper = λ q h. elim h [ inl e ↦ subst IsProper (sym e) w | inr z ↦ absurd z ];
  consistent = λ q h. elim h [ inl e ↦ subst IsConsistent (sym e) c | inr z ↦ absurd z ];
}

sound_append : (ps qs : List Pair) → AreSound ps → AreSound qs → AreSound (ps ++ qs)
sound_append ps qs s t = record {
  proper = λ p h. elim (append_cases ps qs p h) [ inl k ↦ s.proper p k | inr k ↦ t.proper p k ];
  consistent = λ p h. elim (append_cases ps qs p h) [ inl k ↦ s.consistent p k | inr k ↦ t.consistent p k ];
}

pub dnf_sound : (a : Test) → AreSound (dnf a)
dnf_sound test.Always = sound_nothing
dnf_sound test.Never = record { proper = λ p h. absurd h; consistent = λ p h. absurd h }
dnf_sound (test.Reads l) = sound_one (record { cube = l ∷ []; targets = [] }) (record { cube = (tt, tt); targets = tt }) (single_consistent l)
dnf_sound (test.Leads k) = sound_one (later_pair k) (record { cube = tt; targets = (tt, tt) }) refl
dnf_sound (test.Both a b) = sound_join (dnf a) (dnf b) (dnf_sound b)
dnf_sound (test.Either a b) = sound_append (dnf a) (dnf b) (dnf_sound a) (dnf_sound b)
