-- Classes are numbered in the order of their names.
use Rattle.std.proofs.Common.{◌≡◌, ℕ, zero, suc, ◌+◌, ◌<◌, ◌≤◌, true, false, cond, not, ◌⊎◌, inl, inr, List, [], ◌∷◌, ◌++◌, map, length, refl, sym, ◌∙◌, ap, subst, arith}
use Rattle.std.specs.Prelude.{slice_index, slice_index_or, ◌==◌, take, All}
use Rattle.std.specs.Ordering.{nat_cmp}
use Rattle.std.proofs.lemmas.List.{map-append, get_or-map}
use Rattle.std.specs.declared.cmp.Ordering.TheVariants.{Less}
use Rattle.std.specs.Bool.{Decides}
use Rattle.std.proofs.lemmas.Bool.Decides.{Decides-eqb}
use Rattle.ltl_spec.specs.Collections.Sets.{Has, IsRising, set_of}
use Rattle.ltl_spec.specs.Collections.Lists.{place_of}
use Rattle.ltl_spec.proofs.Collections.SetLaws.{append_cases, append_left, append_right, same_members, set_of_alike, set_of_cases, Has-set_of, IsRising-set_of, all_at, all_from}
use Rattle.ltl_spec.proofs.Collections.Orders.{nat_linear}
use Rattle.ltl_spec.proofs.Collections.CaseLaws.{below_equal_above}
use Rattle.ltl_spec.proofs.Collections.ListLaws.{Has-at, All-from_has, place_below}
use Rattle.ltl_spec.proofs.Collections.MemberLaws.{map_cases}
use Rattle.ltl_spec.proofs.Collections.SumLaws.{set_of_length}
use Rattle.ltl_automaton.proofs.NetLaws.{map_agree, place_kept, took}
use Rattle.ltl_automaton.proofs.WayLaws.{Has_taken_at}
use Rattle.ltl_passes.specs.Partition.{number_in, IsNumbering, AreNames}

-- what is new comes to the end
place_behind : (x : ℕ) (xs : List ℕ) → ¬ (Has xs x) → place_of ◌==◌ x (xs ++ x ∷ []) ≡ length xs
place_behind x [] n = ap (λ b. cond (not b) (1 + 0) 0) ((Decides-eqb x x).1 refl)
place_behind x (y ∷ ys) n =
    elim (x == y) as (λ b. Decides b (x ≡ y) → cond (not b) (1 + place_of ◌==◌ x (ys ++ x ∷ [])) 0 ≡ suc (length ys)) [
      | true ↦ λ d. absurd (n (inl (d.0 refl)))
      | false ↦ λ d. let e = place_behind x ys (λ h. n (inr h)) in omega arith
    ] (Decides-eqb x y)

-- a number above all members comes to the end of the set
rising_push : (xs : List ℕ) (x : ℕ) → IsRising nat_cmp xs → ((z : ℕ) → Has xs z → z < x) → IsRising nat_cmp (xs ++ x ∷ [])
rising_push [] x r l = (tt, tt)
rising_push (y ∷ ys) x r l = (
  all_from (λ z. nat_cmp y z ≡ Less) (ys ++ x ∷ []) (λ z h. elim (append_cases ys (x ∷ []) z h) [
    | inl k ↦ all_at (λ z. nat_cmp y z ≡ Less) ys z r.0 k
    | inr k ↦ elim k [ inl e ↦ let m = l y (inl refl) in below y z (omega arith) | inr n ↦ absurd n ]
  ]),
  rising_push ys x r.1 (λ z h. l z (inr h)),
)
  where
    below : (a b : ℕ) → a < b → nat_cmp a b ≡ Less
    below a b m = grind arith

module _ (names classes numbers : List ℕ) (w : IsNumbering names classes numbers) where
  has_name : (c : ℕ) → Has names c → Has classes c
  has_name c h = subst (λ cs. Has cs c) (sym w.listed) (Has-set_of nat_linear names c h)

  -- the numbers are below the count of the names
  pub numbers_within : All (λ k. k < length names) numbers
  numbers_within = subst (All (λ k. k < length names)) (sym w.numbered) (All-from_has (λ k. k < length names) (map (number_in classes) names) (λ k h.
      let (c, i, e) = map_cases (number_in classes) names k h in
      let a : number_in classes c < length classes = place_below ◌==◌ Decides-eqb c classes (has_name c i) in
      let b = ap length w.listed in
      let d = set_of_length nat_cmp names in
      omega (arith, e, a, b, d)))

  name_of : (c : ℕ) → Has classes c → Has names c
  name_of c h = set_of_cases nat_linear names c (subst (λ cs. Has cs c) w.listed h)

  -- a state that names a class: it is above all names so far
  pub numbering_new : (s : ℕ) → ((c : ℕ) → Has names c → c < s) → IsNumbering (names ++ s ∷ []) (classes ++ s ∷ []) (numbers ++ length classes ∷ [])
  numbering_new s above = record {
    listed =
        same_members nat_linear (classes ++ s ∷ []) (set_of nat_cmp (names ++ s ∷ []))
        (rising_push classes s (subst (IsRising nat_cmp) (sym w.listed) (IsRising-set_of nat_linear names)) (λ z h. above z (name_of z h)))
        (IsRising-set_of nat_linear (names ++ s ∷ []))
        (λ z h. Has-set_of nat_linear (names ++ s ∷ []) z (elim (append_cases classes (s ∷ []) z h) [ inl k ↦ append_left names (s ∷ []) z (name_of z k) | inr k ↦ append_right names (s ∷ []) z k ]))
        (λ z h. elim (append_cases names (s ∷ []) z (set_of_cases nat_linear (names ++ s ∷ []) z h)) [ inl k ↦ append_left classes (s ∷ []) z (has_name z k) | inr k ↦ append_right classes (s ∷ []) z k ]);
    numbered =
        let old = w.numbered ∙ sym (map_agree (number_in (classes ++ s ∷ [])) (number_in classes) names (λ c h. place_kept ◌==◌ Decides-eqb c classes (s ∷ []) (has_name c h))) in
        let last = sym (place_behind s classes (λ h. let l = above s (name_of s h) in omega arith)) in
        (λ i. old i ++ last i ∷ []) ∙ sym (map-append (number_in (classes ++ s ∷ [])) names (s ∷ []));
  }

  -- another state of a class that has a name
  pub numbering_old : (c n : ℕ) → Has names c → n ≡ number_in classes c → IsNumbering (names ++ c ∷ []) classes (numbers ++ n ∷ [])
  numbering_old c n h e = record {
    listed = w.listed ∙ set_of_alike nat_linear names (names ++ c ∷ []) (λ z k. append_left names (c ∷ []) z k)
        (λ z k. elim (append_cases names (c ∷ []) z k) [ inl m ↦ m | inr m ↦ elim m [ inl i ↦ subst (Has names) (sym i) h | inr x ↦ absurd x ] ]);
    numbered = (λ i. w.numbered i ++ e i ∷ []) ∙ sym (map-append (number_in classes) names (c ∷ []));
  }

pub index_same : (xs : List ℕ) (i d : ℕ) → i < length xs → slice_index_or xs i d ≡ slice_index xs i
index_same [] i d l = absurd (omega arith)
index_same (x ∷ xs) zero d l = refl
index_same (x ∷ xs) (suc i) d l = index_same xs i d (omega arith)

taken_low : (names : List ℕ) → ((s : ℕ) → s < length names → slice_index names s ≤ s) → (s : ℕ) → s ≤ length names → (c : ℕ) → Has (take s names) c → c < s
taken_low names low s l c h =
    let w = Has_taken_at s names c h in
    let p : slice_index names w.0 ≤ w.0 = low w.0 w.2 in
    let e = index_same names w.0 c w.2 in
    let d = w.3 in
    let b = w.1 in
    omega arith

index_take : (n : ℕ) (xs : List ℕ) (k : ℕ) → k < n → slice_index (take n xs) k ≡ slice_index xs k
index_take zero xs k l = absurd (omega arith)
index_take (suc n) [] k l = refl
index_take (suc n) (x ∷ xs) zero l = refl
index_take (suc n) (x ∷ xs) (suc k) l = index_take n xs k (omega arith)

length_taken : (n : ℕ) (xs : List ℕ) → n ≤ length xs → length (take n xs) ≡ n
length_taken zero xs l = refl
length_taken (suc n) [] l = absurd (omega arith)
length_taken (suc n) (x ∷ xs) l = let e = length_taken n xs (omega arith) in omega arith

taken_next : (names : List ℕ) (s name : ℕ) → s < length names → slice_index names s ≡ name → take (s + 1) names ≡ take s names ++ name ∷ []
taken_next names s name l e = took names s name l (sym e ∙ sym (index_same names s name l))

module _ (names classes numbers : List ℕ) (s : ℕ) (a : AreNames names) (w : IsNumbering (take s names) classes numbers) (l : s < length names) where
  -- a state that is its own name names a new class
  pub step_new : (more_classes more_numbers : List ℕ) → slice_index names s ≡ s → more_classes ≡ classes ++ s ∷ [] → more_numbers ≡ numbers ++ length classes ∷ [] → IsNumbering (take (s + 1) names) more_classes more_numbers
  step_new more_classes more_numbers own p q =
      let n = numbering_new (take s names) classes numbers w s (taken_low names a.low s (omega arith)) in
      let e = taken_next names s s l own in
      record { listed = p ∙ n.listed ∙ ap (set_of nat_cmp) (sym e); numbered = q ∙ n.numbered ∙ (λ i. map (number_in (sym p i)) (sym e i)) }

  -- another state has the number of its name
  pub step_old : (more_numbers : List ℕ) (name n : ℕ) → slice_index names s ≡ name → (name ≡ s → ⊥) → n ≡ slice_index numbers name → more_numbers ≡ numbers ++ n ∷ [] → IsNumbering (take (s + 1) names) classes more_numbers
  step_old more_numbers name n e other g q =
      let low : slice_index names s ≤ s = a.low s l in
      let below : name < s = lower (below_equal_above name s) (omega arith) in
      let long = length_taken s names (omega arith) in
      let twice : slice_index names name ≡ name = ap (slice_index names) (sym e) ∙ a.twice s l ∙ e in
      let there : Has (take s names) name = subst (Has (take s names)) (index_take s names name below ∙ twice) (Has-at (take s names) name 0 (omega arith)) in
      let number : n ≡ number_in classes name = g ∙ ap (λ xs. slice_index xs name) w.numbered ∙ get_or-map (number_in classes) (take s names) name 0 0 (omega arith) ∙ ap (number_in classes) (index_take s names name below ∙ twice) in
      let old = numbering_old (take s names) classes numbers w name n there number in
      let t = taken_next names s name l e in
      record { listed = old.listed ∙ ap (set_of nat_cmp) (sym t); numbered = q ∙ old.numbered ∙ ap (map (number_in classes)) (sym t) }
    where
      lower : (name < s) ⊎ ((name ≡ s) ⊎ (s < name)) → name ≤ s → name < s
      lower (inl m) k = m
      lower (inr (inl m)) k = absurd (other m)
      lower (inr (inr m)) k = absurd (omega arith)

-- a class is named by a state
pub class_below : (names classes numbers : List ℕ) → AreNames names → IsNumbering names classes numbers → All (λ c. c < length names) classes
class_below names classes numbers a w = All-from_has (λ c. c < length names) classes (λ c h. inside names (λ k l. let m : slice_index names k ≤ k = a.low k l in omega arith) c (set_of_cases nat_linear names c (subst (λ cs. Has cs c) w.listed h)))
  where
    inside : (ns : List ℕ) → ((k : ℕ) → k < length ns → slice_index ns k < length names) → (c : ℕ) → Has ns c → c < length names
    inside [] l c h = absurd h
    inside (x ∷ ns) l c (inl e) = let m = l 0 (omega arith) in let q : x < length names = m in omega arith
    inside (x ∷ ns) l c (inr h) = inside ns (λ k m. l (suc k) (omega arith)) c h
