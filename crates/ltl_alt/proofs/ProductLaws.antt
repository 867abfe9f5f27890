-- Transitions at once, and those of a set of rows by its components.
use Rattle.std.proofs.Common.{◌≡◌, ℕ, zero, suc, ◌+◌, ◌-◌, ◌*◌, ◌<◌, ◌≤◌, Bool, true, false, cond, inl, inr, List, [], ◌∷◌, ◌++◌, length, map, take, drop, slice_set, append-nil, refl, sym, ◌∙◌, ap, subst, arith, Some, None}
use Rattle.std.specs.Prelude.{Option, slice_get, slice_index_or, filter, flat_map, filter_map, option_map, nat_eq, not}
use Rattle.std.specs.List.Sorted.{IsSorted, IsPermutation}
use Rattle.std.specs.Ordering.{nat_cmp}
use Rattle.std.proofs.lemmas.Bool.Decides.{nat_tests}
use Rattle.std.proofs.lemmas.List.{append_assoc, get_or_append_left, take_at, take_more}
use Rattle.std.proofs.lemmas.List.Elements.{filter_map-append}
use Rattle.std.proofs.lemmas.List.Sorted.{Contains-permutation, IsPermutation-append, IsPermutation-map, IsPermutation-refl, IsPermutation-sym, IsPermutation-trans}
use Rattle.ltl_spec.specs.Collections.Sets.{Has, IsRising, has, union}
use Rattle.ltl_spec.specs.Collections.Lists.{places_where}
use Rattle.ltl_spec.specs.NormalForms.Normal.{Normal}
use Rattle.ltl_spec.specs.Transitions.Cubes.{Cube, is_contradictory, literal_cmp}
use Rattle.ltl_spec.specs.Transitions.Pairs.{RowSet, Pair, join, empty_pair}
use Rattle.ltl_spec.specs.Transitions.RowTransitions.{Table, pairs_at, Transition, transition_cmp, transitions}
use Rattle.ltl_spec.proofs.Collections.MemberLaws.{Has-map, map_length}
use Rattle.ltl_spec.proofs.Collections.SetLaws.{has_Decides, Has-set_of, append_left, append_right}
use Rattle.ltl_spec.proofs.Collections.ListLaws.{places_cases, Contains-from_has, Has-at, Has-from_contains, Has-places, IsRising-places}
use Rattle.ltl_spec.proofs.Collections.Orders.{nat_linear}
use Rattle.ltl_spec.proofs.Collections.ProductLists.{products, rising_once}
use Rattle.ltl_spec.specs.Transitions.Pruning.{IsEnough, fulfilling_pairs}
use Rattle.ltl_spec.proofs.Transitions.IndependentMarks.{common, at_once}
use Rattle.ltl_spec.proofs.Transitions.IndependentPairs.{independent_sym}
use Rattle.ltl_spec.proofs.Transitions.IndependenceTests.{independent_by_test}
use Rattle.ltl_spec.proofs.Transitions.FactorLaws.{AreApart, AreSome, AreTakenOut, all_products, product_size, lists_transitions, component_and_rest, taken_apart, factors_law, factors_count, factors_sorted}
use Rattle.ltl_spec.proofs.Transitions.FactoredTransitions.{AreListedFor, transitions_by_kept}
use Rattle.ltl_spec.proofs.Transitions.LinkLaws.{LinksTell, without, taken_closed}
use Rattle.ltl_spec.proofs.Transitions.JoinLaws.{join_parts, within_refl}
use Rattle.ltl_spec.proofs.Transitions.LeastPairs.{enough_from}
use Rattle.ltl_spec.proofs.Transitions.ConjunctJoins.{join_all, join_append, join_of, sound_join_of, transitions_by_rows}
use Rattle.ltl_spec.proofs.Transitions.JoinedLists.{sound_join_all}
use Rattle.ltl_spec.proofs.Transitions.ConjunctSets.{AreConjunctsOf, conjuncts_in_order}
use Rattle.ltl_spec.proofs.Transitions.ProductTransitions.{transitions_of, product, transitions_of_cases, in_order, alike_transitions}
use Rattle.ltl_spec.proofs.Transitions.SameJoins.{AreSound, alike_sym, sound_some}
use Rattle.ltl_spec.proofs.Transitions.UnimpliedLaws.{marks_too_linear}
use Rattle.ltl_alt.specs.declared.support.Dependencies.{Dependencies}
use Rattle.ltl_alt.specs.BasisView.{IsBasisOf}
use Rattle.ltl_alt.specs.declared.basis.Basis.{Basis}
use Rattle.ltl_alt.specs.declared.fulfilment.Fulfilment.{Fulfilment}
use Rattle.ltl_alt.specs.FinalView.{AreFactorsOf, AreLists, IsFinal, made_of}
use Rattle.ltl_alt.specs.ConjunctTableView.{AreKeptBy, conjunct_of, dependency_of, links_of, numbers_of, numbers_in, AreLinked, HasEach, HasNoConjunct, IsComponent}
use Rattle.ltl_alt.specs.TransitionView.{table_at}
use Rattle.ltl_alt.specs.declared.rule.Rule.{Rule}
use Rattle.ltl_formula.specs.TableView.{TableView, IsTable, core_of}
use Rattle.ltl_alt.specs.ProductView.{AreConsistent, join_transitions}
use Rattle.ltl_alt.specs.StandIns.{IsKeptBy, IsRuleOf, StandsFor}
use Rattle.ltl_alt.proofs.JoinOrderLaws.{kept_alike}
use Rattle.ltl_alt.proofs.StandInLaws.{IsStandIn, kept_all, kept_join, kept_on, stands_in}
use Rattle.ltl_alt.proofs.ConjunctTableLaws.{map_behind, numbers_below}
use Rattle.ltl_alt.proofs.ConjunctLaws.{no_conjunct_at}

-- ---- products

-- consistent transitions join
at_once_joins : (a b : Transition) → is_contradictory (at_once a b).cube ≡ false → join_transitions a b ≡ Some (at_once a b)
at_once_joins a b e =
    ap (λ t. option_map (λ (c : Cube). record { cube = c; targets = union nat_cmp a.targets b.targets; marks = common nat_cmp a.marks b.marks }) (cond t None (Some (union literal_cmp a.cube b.cube)))) e

each_joins : (a : Transition) (us : List Transition) → AreConsistent (map (at_once a) us) → filter_map (join_transitions a) us ≡ map (at_once a) us
each_joins a [] f = refl
each_joins a (u ∷ us) f = first (at_once_joins a u (f (at_once a u) (inl refl))) (each_joins a us (λ t h. f t (inr h)))
  where
    first : join_transitions a u ≡ Some (at_once a u) → filter_map (join_transitions a) us ≡ map (at_once a) us → filter_map (join_transitions a) (u ∷ us) ≡ at_once a u ∷ map (at_once a) us
    first e d = simp (e, d) refl

-- the first of them were replaced by their joins, and one more is
first_kept : (f : Transition → Transition) (i : ℕ) (us : List Transition) (d : Transition) → i < length us → slice_index_or (map f (take i us) ++ drop i us) i d ≡ slice_index_or us i d
first_kept f i [] d l = absurd (omega arith)
first_kept f zero (u ∷ us) d l = refl
first_kept f (suc i) (u ∷ us) d l = first_kept f i us d (omega arith)

first_set : (f : Transition → Transition) (i : ℕ) (us : List Transition) (d : Transition) → i < length us → slice_set (map f (take i us) ++ drop i us) i (f (slice_index_or us i d)) ≡ map f (take (suc i) us) ++ drop (suc i) us
first_set f i [] d l = absurd (omega arith)
first_set f zero (u ∷ us) d l = refl
first_set f (suc i) (u ∷ us) d l = ap (λ xs. f u ∷ xs) (first_set f i us d (omega arith))

joins_at : (a d : Transition) (us vs : List Transition) (i : ℕ) → AreConsistent (map (at_once a) us) → i < length us → vs ≡ map (at_once a) (take i us) ++ drop i us
    → join_transitions a (slice_index_or vs i d) ≡ Some (at_once a (slice_index_or us i d))
joins_at a d us vs i f l e =
    let here : slice_index_or vs i d ≡ slice_index_or us i d = ap (λ xs. slice_index_or xs i d) e ∙ first_kept (at_once a) i us d l in
    ap (join_transitions a) here ∙ at_once_joins a (slice_index_or us i d) (f (at_once a (slice_index_or us i d)) (Has-map (at_once a) us (slice_index_or us i d) (Has-at us i d l)))

pub joined_more : (a d t : Transition) (us vs ws : List Transition) (i : ℕ) → AreConsistent (map (at_once a) us) → i < length us → vs ≡ map (at_once a) (take i us) ++ drop i us
    → Some t ≡ join_transitions a (slice_index_or vs i d) → ws ≡ slice_set vs i t → ws ≡ map (at_once a) (take (i + 1) us) ++ drop (i + 1) us
joined_more a d t us vs ws i f l e g h =
    let is : t ≡ at_once a (slice_index_or us i d) = cc (g, joins_at a d us vs i f l e) in
    h ∙ (λ k. slice_set (e k) i (is k)) ∙ first_set (at_once a) i us d l
    ∙ ap (λ n. map (at_once a) (take n us) ++ drop n us) (let s : suc i ≡ i + 1 = omega arith in s)

pub joins_each : (a d : Transition) (us vs : List Transition) (i : ℕ) → AreConsistent (map (at_once a) us) → i < length us → vs ≡ map (at_once a) (take i us) ++ drop i us → None ≡ join_transitions a (slice_index_or vs i d) → ⊥
joins_each a d us vs i f l e g = cc (g, joins_at a d us vs i f l e)

-- one more of the products was looked at
appended : (a x : Transition) (us vs : List Transition) (i : ℕ) → i < length us → vs ≡ us ++ filter_map (join_transitions a) (take i us) → x ≡ slice_index_or vs i x
    → vs ++ filter_map (join_transitions a) (x ∷ []) ≡ us ++ filter_map (join_transitions a) (take (i + 1) us)
appended a x us vs i l e d =
    let f = filter_map (join_transitions a) in
    let at : List Transition = slice_index_or us i x ∷ [] in
    let here : x ≡ slice_index_or us i x = d ∙ ap (λ xs. slice_index_or xs i x) e ∙ get_or_append_left us (f (take i us)) x i l in
    (λ k. e k ++ f (here k ∷ [])) ∙ append_assoc us (f (take i us)) (f at)
    ∙ ap (λ xs. us ++ xs) (sym (filter_map-append (join_transitions a) (take i us) at)) ∙ ap (λ xs. us ++ f xs) (sym (take_more us i x l))

pub appended_some : (a x t : Transition) (us vs ws : List Transition) (found : Option Transition) (i : ℕ) → i < length us → vs ≡ us ++ filter_map (join_transitions a) (take i us) → x ≡ slice_index_or vs i x
    → found ≡ join_transitions a x → found ≡ Some t → ws ≡ vs ++ t ∷ [] → ws ≡ us ++ filter_map (join_transitions a) (take (i + 1) us)
appended_some a x t us vs ws found i l e d j g h =
    let is : join_transitions a x ≡ Some t = sym j ∙ g in
    let one : filter_map (join_transitions a) (x ∷ []) ≡ t ∷ [] = simp is refl in
    h ∙ ap (λ xs. vs ++ xs) (sym one) ∙ appended a x us vs i l e d

pub appended_none : (a x : Transition) (us vs : List Transition) (found : Option Transition) (i : ℕ) → i < length us → vs ≡ us ++ filter_map (join_transitions a) (take i us) → x ≡ slice_index_or vs i x
    → found ≡ join_transitions a x → found ≡ None → vs ≡ us ++ filter_map (join_transitions a) (take (i + 1) us)
appended_none a x us vs found i l e d j g =
    let is : join_transitions a x ≡ None = sym j ∙ g in
    let none : filter_map (join_transitions a) (x ∷ []) ≡ [] = simp is refl in
    sym (append-nil vs) ∙ ap (λ xs. vs ++ xs) (sym none) ∙ appended a x us vs i l e d

-- one more of a list was joined with the products
one_consistent : (ts us : List Transition) (t : Transition) (k : ℕ) → k < length ts → t ≡ slice_index_or ts k t → AreConsistent (product ts us) → AreConsistent (map (at_once t) us)
one_consistent [] us t k l e f = absurd (omega arith)
one_consistent (x ∷ ts) us t zero l e f = λ u h. f u (append_left (map (at_once x) us) (product ts us) u (subst (λ y. Has (map (at_once y) us) u) e h))
one_consistent (x ∷ ts) us t (suc k) l e f = one_consistent ts us t k (omega arith) e (λ u h. f u (append_right (map (at_once x) us) (product ts us) u h))

rest_product : (ts us : List Transition) (t : Transition) (k : ℕ) → 1 ≤ k → k < length ts → t ≡ slice_index_or ts k t → product (drop 1 (take k ts)) us ++ map (at_once t) us ≡ product (drop 1 (take (suc k) ts)) us
rest_product [] us t k some l e = absurd (omega arith)
rest_product (x ∷ ts) us t zero some l e = absurd (omega arith)
rest_product (x ∷ ts) us t (suc k) some l e = first ts k (omega arith) e
  where
    first : (xs : List Transition) (i : ℕ) → i < length xs → t ≡ slice_index_or xs i t → product (take i xs) us ++ map (at_once t) us ≡ product (take (suc i) xs) us
    first [] i m d = absurd (omega arith)
    first (y ∷ xs) zero m d = ap (λ z. map (at_once z) us) d ∙ sym (append-nil (map (at_once y) us))
    first (y ∷ xs) (suc i) m d = append_assoc (map (at_once y) us) (product (take i xs) us) (map (at_once t) us) ∙ ap (λ zs. map (at_once y) us ++ zs) (first xs i (omega arith) d)

-- the products that were there stand first
old_first : (ts us vs : List Transition) (k count : ℕ) → count ≡ length us → vs ≡ us ++ product (drop 1 (take k ts)) us → take count vs ≡ us
old_first ts us vs k count n g = ap (take count) g ∙ take_at us (product (drop 1 (take k ts)) us) count (sym n)

pub rest_more : (ts us vs ws : List Transition) (t : Transition) (k count : ℕ) → 1 ≤ k → k < length ts → t ≡ slice_index_or ts k t → AreConsistent (product ts us) → count ≡ length us
    → vs ≡ us ++ product (drop 1 (take k ts)) us → ws ≡ vs ++ filter_map (join_transitions t) (take count vs) → ws ≡ us ++ product (drop 1 (take (k + 1) ts)) us
rest_more ts us vs ws t k count some l e f n g h =
    let joined : filter_map (join_transitions t) (take count vs) ≡ map (at_once t) us =
    ap (filter_map (join_transitions t)) (old_first ts us vs k count n g) ∙ each_joins t us (one_consistent ts us t k l e f) in
    h ∙ (λ i. g i ++ joined i) ∙ append_assoc us (product (drop 1 (take k ts)) us) (map (at_once t) us)
    ∙ ap (λ xs. us ++ xs) (rest_product ts us t k some l e) ∙ ap (λ j. us ++ product (drop 1 (take j ts)) us) (let s : suc k ≡ k + 1 = omega arith in s)

pub first_consistent : (ts us vs ws : List Transition) (t : Transition) (k count : ℕ) → 0 < length ts → t ≡ slice_index_or ts 0 t → AreConsistent (product ts us) → count ≡ length us
    → vs ≡ us ++ product (drop 1 (take k ts)) us → ws ≡ take count vs → AreConsistent (map (at_once t) ws)
first_consistent ts us vs ws t k count some e f n g h =
    subst (λ xs. AreConsistent (map (at_once t) xs)) (sym (h ∙ old_first ts us vs k count n g)) (one_consistent ts us t 0 some e f)

-- what stands at a place, and what is behind it
dropped_at : (tss : List (List Transition)) (j : ℕ) → j < length tss → drop j tss ≡ slice_index_or tss j [] ∷ drop (j + 1) tss
dropped_at tss j l = by_suc tss j l ∙ ap (λ n. slice_index_or tss j [] ∷ drop n tss) (let s : suc j ≡ j + 1 = omega arith in s)
  where
    by_suc : (uss : List (List Transition)) (i : ℕ) → i < length uss → drop i uss ≡ slice_index_or uss i [] ∷ drop (suc i) uss
    by_suc [] i m = absurd (omega arith)
    by_suc (us ∷ uss) zero m = refl
    by_suc (us ∷ uss) (suc i) m = by_suc uss i (omega arith)

pub mapped_at : (h : ℕ → List Transition) (ks : List ℕ) (j : ℕ) → j < length ks → slice_index_or (map h ks) j [] ≡ h (slice_index_or ks j 0)
mapped_at h [] j l = absurd (omega arith)
mapped_at h (k ∷ ks) zero l = refl
mapped_at h (k ∷ ks) (suc j) l = mapped_at h ks j (omega arith)

-- what the second list has in another order, and so the product
products_moved : (ts us vs : List Transition) → IsPermutation us vs → IsPermutation (product ts us) (product ts vs)
products_moved [] us vs p = IsPermutation-refl []
products_moved (t ∷ ts) us vs p = IsPermutation-append (map (at_once t) us) (map (at_once t) vs) (product ts us) (product ts vs) (IsPermutation-map (at_once t) us vs p) (products_moved ts us vs p)

-- one list more
pub products_step : (T : Table) (h : ℕ → List Transition) (factors : List ℕ) (left : ℕ) (ts us : List Transition) → 0 < left → left ≤ length factors
    → IsPermutation (all_products T (drop left (map h factors))) us → ts ≡ h (slice_index_or factors (left - 1) 0) → IsPermutation (all_products T (drop (left - 1) (map h factors))) (product ts us)
products_step T h factors left ts us some within p d =
    let tss = map h factors in
    let place = left - 1 in
    let inside : place < length factors = omega (arith, some, within) in
    let also : place < length tss = omega (arith, inside, map_length h factors) in
    let next : left ≡ place + 1 = omega (arith, some) in
    let all = all_products T (drop left tss) in
    let list : slice_index_or tss place [] ≡ ts = mapped_at h factors place inside ∙ sym d in
    let whole : all_products T (drop place tss) ≡ product ts all = ap (all_products T) (dropped_at tss place also) ∙ (λ i. product (list i) (all_products T (drop (sym next i) tss))) in
    subst (λ xs. IsPermutation xs (product ts us)) (sym whole) (products_moved ts all us p)

pub moved_consistent : (ts us : List Transition) → IsPermutation ts us → AreConsistent ts → AreConsistent us
moved_consistent ts us p f t h = f t (Has-from_contains ts t (Contains-permutation us ts t (IsPermutation-sym ts us p) (Contains-from_has us t h)))

-- ---- lists that are apart

-- the pairs that fulfil an until row are enough of them
fulfilling_enough : (T : Table) (f : Normal) → Has T.untils f → IsEnough (fulfilling_pairs T f) (fulfilling_pairs T f)
fulfilling_enough T f h = enough_from (fulfilling_pairs T f) (fulfilling_pairs T f) (λ q k. k) (λ q k. (q, k, within_refl q))

abbrev AllSound : List (List Pair) → Type 0
AllSound pss = (ps : List Pair) → Has pss ps → AreSound ps

-- so are those behind a place
apart_drop : (T : Table) (chosen : Normal → List Pair) (pss : List (List Pair)) (k : ℕ) → AreApart T chosen pss → AreApart T chosen (drop k pss)
apart_drop T chosen pss zero a = a
apart_drop T chosen [] (suc k) a = tt
apart_drop T chosen (ps ∷ pss) (suc k) a = apart_drop T chosen pss k a.1

sound_drop : (pss : List (List Pair)) (k : ℕ) → AllSound pss → AllSound (drop k pss)
sound_drop pss zero s = s
sound_drop [] (suc k) s = λ qs h. absurd h
sound_drop (ps ∷ pss) (suc k) s = sound_drop pss k (λ qs h. s qs (inr h))

products_consistent : (T : Table) (keep : Bool) (pss : List (List Pair)) → AllSound pss → AreApart T (fulfilling_pairs T) pss → AreConsistent (all_products T (lists_transitions T keep pss))
products_consistent T keep pss s a u h =
    let there = subst (λ us. Has us u) (sym (factors_law T (fulfilling_pairs T) (fulfilling_enough T) keep pss s a)) (Has-set_of marks_too_linear (all_products T (lists_transitions T keep pss)) u h) in
    let (p, k, e, f) = transitions_of_cases T keep (join_all pss) u there in
    ap (λ (x : Transition). is_contradictory x.cube) e ∙ (sound_join_all pss).consistent p k

suffix_consistent : (T : Table) (keep : Bool) (pss : List (List Pair)) → AllSound pss → AreApart T (fulfilling_pairs T) pss → (k : ℕ) → AreConsistent (all_products T (drop k (lists_transitions T keep pss)))
suffix_consistent T keep pss s a k =
    subst (λ x. AreConsistent (all_products T x)) (sym (dropped_map (transitions_of T keep) pss k)) (products_consistent T keep (drop k pss) (sound_drop pss k s) (apart_drop T (fulfilling_pairs T) pss k a))
  where
    dropped_map : {X Y : Type 0} (h : X → Y) (xs : List X) (k : ℕ) → drop k (map h xs) ≡ map h (drop k xs)
    dropped_map h xs zero = refl
    dropped_map h [] (suc k) = refl
    dropped_map h (x ∷ xs) (suc k) = dropped_map h xs k

-- ---- pairs that were kept of components

some_of : (S : Pair → Pair → Type 0) (pss qss : List (List Pair)) → AreKeptBy S pss qss → AreSome pss qss
some_of S [] [] k = tt
some_of S [] (qs ∷ qss) k = absurd k
some_of S (ps ∷ pss) [] k = absurd k
some_of S (ps ∷ pss) (qs ∷ qss) k = (k.0.from, some_of S pss qss k.1)

kept_behind : (S : Pair → Pair → Type 0) (pss qss : List (List Pair)) (ps qs : List Pair) → AreKeptBy S pss qss → IsKeptBy S ps qs → AreKeptBy S (pss ++ ps ∷ []) (qss ++ qs ∷ [])
kept_behind S [] [] ps qs k one = (one, tt)
kept_behind S [] (us ∷ qss) ps qs k one = absurd k
kept_behind S (us ∷ pss) [] ps qs k one = absurd k
kept_behind S (us ∷ pss) (vs ∷ qss) ps qs k one = (k.0, kept_behind S pss qss ps qs k.1 one)

module _ {S : Pair → Pair → Type 0} (o : IsStandIn S) (conjunct : ℕ → List Pair) (sound : (i : ℕ) → AreSound (conjunct i)) where
  -- they are sound
  kept_sound : (gs : List (List ℕ)) (pss : List (List Pair)) → AreKeptBy S (map (join_of conjunct) gs) pss → AllSound pss
  kept_sound [] [] k qs h = absurd h
  kept_sound [] (ps ∷ pss) k qs h = absurd k
  kept_sound (g ∷ gs) [] k qs h = absurd h
  kept_sound (g ∷ gs) (ps ∷ pss) k qs (inl e) = subst AreSound (sym e) (sound_some (join_of conjunct g) ps k.0.from (sound_join_of conjunct sound g))
  kept_sound (g ∷ gs) (ps ∷ pss) k qs (inr h) = kept_sound gs pss k.1 qs h

  -- their joins were kept of those of all conjuncts
  kept_taken : (T : Table) (chosen : Normal → List Pair) (all : List ℕ) (gs : List (List ℕ)) (pss : List (List Pair)) → AreTakenOut T chosen conjunct all gs [] → AreKeptBy S (map (join_of conjunct) gs) pss → IsKeptBy S (join_of conjunct all) (join_all pss)
  kept_taken T chosen all [] [] t k = subst (λ x. IsKeptBy S (join_of conjunct x) (empty_pair ∷ [])) (sym t) (kept_all o (empty_pair ∷ []))
  kept_taken T chosen all [] (ps ∷ pss) t k = absurd k
  kept_taken T chosen all (g ∷ gs) [] t k = absurd k
  kept_taken T chosen all (g ∷ gs) (ps ∷ pss) t k =
      let rest = filter (λ i. not (t.0 i)) all in
      let alike = component_and_rest T chosen conjunct sound all g t.0 t.1 in
      kept_on o (join_of conjunct all) (join (join_of conjunct g) (join_of conjunct rest)) (join ps (join_all pss)) (kept_alike o (join_of conjunct all) (join (join_of conjunct g) (join_of conjunct rest)) alike)
      (kept_join o (join_of conjunct g) ps (join_of conjunct rest) (join_all pss) k.0 (kept_taken T chosen rest gs pss t.3 k.1))

  -- so were those of rows
  kept_rows : (whole : ℕ → List Pair) (numbers : ℕ → List ℕ) (e : List ℕ) → ((i : ℕ) → Has e i → IsKeptBy S (whole i) (join_of conjunct (numbers i))) → IsKeptBy S (join_of whole e) (join_of conjunct (flat_map numbers e))
  kept_rows whole numbers [] f = kept_all o (empty_pair ∷ [])
  kept_rows whole numbers (i ∷ e) f =
      let apart = join (join_of conjunct (numbers i)) (join_of conjunct (flat_map numbers e)) in
      kept_on o (join (whole i) (join_of whole e)) apart (join_of conjunct (numbers i ++ flat_map numbers e))
      (kept_join o (whole i) (join_of conjunct (numbers i)) (join_of whole e) (join_of conjunct (flat_map numbers e)) (f i (inl refl)) (kept_rows whole numbers e (λ k h. f k (inr h))))
      (kept_alike o apart (join_of conjunct (numbers i ++ flat_map numbers e)) (alike_sym (join_of conjunct (numbers i ++ flat_map numbers e)) apart (join_append conjunct sound (numbers i) (flat_map numbers e))))

-- the links of conjuncts tell which have nothing to do with each other
links_tell : (T : Table) (lists : List (List Pair)) (dependencies : List Dependencies) (links : List RowSet) (all : List ℕ) → AreLinked T lists dependencies links → ((k : ℕ) → Has all k → k < length lists)
    → LinksTell T (fulfilling_pairs T) (conjunct_of lists) (links_of links) all
links_tell T lists dependencies links all w f i j h k e =
    let di = w.demanded i (f i h) in
    let dj = w.demanded j (f j k) in
    elim (w.linked i j (f i h) (f j k) e) [
      | inl t ↦ independent_by_test T (fulfilling_pairs T) (dependency_of dependencies i).support (dependency_of dependencies i).fulfilling (dependency_of dependencies j).support (dependency_of dependencies j).fulfilling (conjunct_of lists i) (conjunct_of lists j) di.support di.fulfilling dj.support dj.fulfilling t
      | inr t ↦ independent_sym T (fulfilling_pairs T) (conjunct_of lists j) (conjunct_of lists i)
          (independent_by_test T (fulfilling_pairs T) (dependency_of dependencies j).support (dependency_of dependencies j).fulfilling (dependency_of dependencies i).support (dependency_of dependencies i).fulfilling (conjunct_of lists j) (conjunct_of lists i) dj.support dj.fulfilling di.support di.fulfilling t)
    ]

-- one component more is taken out, and its transitions stand behind those of the others
pub lists_more : (T : Table) (r : Rule) (keep : Bool) (conjuncts : List (List Pair)) (dependencies : List Dependencies) (links : List RowSet) (all : List ℕ) (old more : List (List Transition)) (lists : List (List Transition)) (n : ℕ) (rest inside left : RowSet) (first : ℕ)
    → AreLinked T conjuncts dependencies links → ((k : ℕ) → Has rest k → k < length conjuncts) → AreLists T r keep conjuncts all old rest → IsRising nat_cmp rest → IsRising nat_cmp inside
    → IsComponent links first rest inside → IsFinal T r keep conjuncts lists inside n → more ≡ old ++ made_of lists n ∷ [] → left ≡ without rest inside → AreLists T r keep conjuncts all more left
lists_more T r keep conjuncts dependencies links all old more lists n rest inside left first w f a low high component is e g = record {
  components = a.components ++ inside ∷ [];
  taken = subst (AreTakenOut T (fulfilling_pairs T) (conjunct_of conjuncts) all (a.components ++ inside ∷ [])) (sym g)
      (taken_closed T (fulfilling_pairs T) (conjunct_of conjuncts) (links_of links) all a.components rest inside a.taken low high component.some (links_tell T conjuncts dependencies links rest w f) component.closed);
  pairs = a.pairs ++ is.pairs ∷ [];
  kept = subst (λ pss. AreKeptBy (StandsFor T r) pss (a.pairs ++ is.pairs ∷ [])) (sym (map_behind (join_of (conjunct_of conjuncts)) a.components inside))
      (kept_behind (StandsFor T r) (map (join_of (conjunct_of conjuncts)) a.components) a.pairs (join_of (conjunct_of conjuncts) inside) is.pairs a.kept is.kept);
  lists = e ∙ (λ i. a.lists i ++ is.made i ∷ []) ∙ sym (map_behind (transitions_of T keep) a.pairs is.pairs);
}

-- no component is taken out yet
pub factors_none : {A : Type 0} (b : Basis A) (lists : List (List Transition)) (all : RowSet) (factors : List ℕ) → factors ≡ [] → AreFactorsOf b lists all factors all
factors_none b lists all factors e = (
  λ k h. absurd (subst (λ ks. Has ks k) e h),
  subst (λ ks. AreLists (table_at b.table.now) b.pruning.rule b.keep_implied b.conjuncts.lists.items all (map (made_of lists) ks) all) (sym e) (record { components = []; taken = refl; pairs = []; kept = tt; lists = refl }),
)

-- ---- the transitions of a set of rows

told_same : (i j : ℕ) → nat_eq i j ≡ true → i ≡ j
told_same i j e = grind (arith, nat_tests)

same_told : (i j : ℕ) → i ≡ j → nat_eq i j ≡ true
same_told i j e = grind (arith, nat_tests)

-- the conjuncts of the rows of a set
parts_of_state : (owners state : List ℕ) → IsRising nat_cmp state → AreConjunctsOf (numbers_of owners) state (numbers_in owners state)
parts_of_state owners state r = record {
  rows = r;
  rising = IsRising-places (λ o. has nat_cmp o state) 0 owners;
  once = λ i h. rising_once nat_linear (numbers_of owners i) (IsRising-places (λ o. nat_eq o i) 0 owners);
  own = λ i j n h k m p. sym (owner i n m) ∙ owner j n p;
  there = λ i n h m. put_in i n h m;
  back = λ n h. taken_from n h;
}
  where
    at : ℕ → ℕ
    at n = slice_index_or owners (n - 0) 0

    owner : (i n : ℕ) → Has (numbers_of owners i) n → at n ≡ i
    owner i n m = told_same (at n) i (places_cases (λ o. nat_eq o i) 0 owners 0 n m).2

    place : (p : ℕ → Bool) (n : ℕ) → n - 0 < length owners → p (at n) ≡ true → Has (places_where p owners) n
    place p n l e = let z : 0 + (n - 0) ≡ n = omega arith in subst (Has (places_where p owners)) z (Has-places p 0 owners 0 (n - 0) l e)

    put_in : (i n : ℕ) → Has state i → Has (numbers_of owners i) n → Has (numbers_in owners state) n
    put_in i n h m =
        let l = (places_cases (λ o. nat_eq o i) 0 owners 0 n m).1 in
        place (λ o. has nat_cmp o state) n (omega arith) (ap (λ x. has nat_cmp x state) (owner i n m) ∙ (has_Decides nat_linear i state).1 h)

    taken_from : (n : ℕ) → Has (numbers_in owners state) n → (i : ℕ) × Has state i × Has (numbers_of owners i) n
    taken_from n h =
        let c = places_cases (λ o. has nat_cmp o state) 0 owners 0 n h in
        let l = c.1 in
        (at n, (has_Decides nat_linear (at n) state).0 c.2, place (λ o. nat_eq o (at n)) n (omega arith) (same_told (at n) (at n) refl))

-- what was kept by the rule
listed_for : (T : Table) (keep : Bool) (r : Rule) (ps qs : List Pair) → IsRuleOf T keep r → IsKeptBy (StandsFor T r) ps qs → AreListedFor T keep ps qs
listed_for T true r ps qs e k =
    let w = subst (λ x. IsKeptBy (StandsFor T x) ps qs) e k in
    record { there = λ p h. let (q, m, d) = w.covers p h in subst (Has qs) (sym d) m; back = w.from }
listed_for T false r ps qs (counted, e, a) k =
    let w = subst (λ x. IsKeptBy (StandsFor T x) ps qs) e k in
    (counted, a, record { from = w.from; covers = w.covers })

-- ---- a set of rows, its conjuncts, and the transitions of their components

module _ {A : Type 0} (t : TableView) (keep : Bool) (r : Rule) (f : Fulfilment A) (made owners : List ℕ) (conjuncts : List (List Pair)) (dependencies : List Dependencies) (links : List RowSet) {ts : List Transition}
    (b : IsBasisOf t keep r f made owners conjuncts dependencies links ts) (state all : RowSet) (rising : IsRising nat_cmp state) (there : HasEach made state) (e : all ≡ numbers_in owners state) (tss : List (List Transition))
    (a : AreLists (table_at t) r keep conjuncts all tss []) where
  abbrev T : Table
  T = table_at t

  abbrev conjunct : ℕ → List Pair
  conjunct = conjunct_of conjuncts

  taken : AreTakenOut T (fulfilling_pairs T) conjunct (numbers_in owners state) a.components []
  taken = subst (λ x. AreTakenOut T (fulfilling_pairs T) conjunct x a.components []) e a.taken

  sound : AllSound a.pairs
  sound = kept_sound (stands_in T r) conjunct b.conjuncts.linked.sound a.components a.pairs a.kept

  apart : AreApart T (fulfilling_pairs T) a.pairs
  apart = taken_apart T (fulfilling_pairs T) conjunct b.conjuncts.linked.sound (numbers_in owners state) a.components a.pairs taken (some_of (StandsFor T r) (map (join_of conjunct) a.components) a.pairs a.kept)

  whole : IsKeptBy (StandsFor T r) (join_of (pairs_at T) state) (join_all a.pairs)
  whole =
      let o = stands_in T r in
      let one_by_one = join_of conjunct (flat_map (numbers_of owners) state) in
      let ordered = join_of conjunct (numbers_in owners state) in
      kept_on o (join_of (pairs_at T) state) one_by_one (join_all a.pairs)
      (kept_rows o conjunct b.conjuncts.linked.sound (pairs_at T) (numbers_of owners) state (λ i h. b.conjuncts.rows.listed i (there i h)))
      (kept_on o one_by_one ordered (join_all a.pairs)
      (kept_alike o one_by_one ordered (conjuncts_in_order conjunct b.conjuncts.linked.sound (numbers_of owners) state (numbers_in owners state) (parts_of_state owners state rising)))
      (kept_taken o conjunct b.conjuncts.linked.sound T (fulfilling_pairs T) (numbers_in owners state) a.components a.pairs taken a.kept))

  of_joins : transitions T keep state ≡ transitions_of T keep (join_all a.pairs)
  of_joins = transitions_by_kept (core_of t) keep state (join_all a.pairs) (listed_for T keep r (join_of (pairs_at T) state) (join_all a.pairs) b.rule whole)

  pub set_shape : transitions (table_at t) keep state ≡ in_order (all_products (table_at t) tss)
  set_shape = of_joins ∙ factors_law T (fulfilling_pairs T) (fulfilling_enough T) keep a.pairs sound apart ∙ ap (λ x. in_order (all_products T x)) (sym a.lists)

  pub set_count : length (transitions (table_at t) keep state) ≡ product_size tss
  set_count = ap length of_joins ∙ factors_count T (fulfilling_pairs T) (fulfilling_enough T) keep a.pairs sound apart ∙ ap product_size (sym a.lists)

  pub set_sorted : (products sorted : List Transition) → IsPermutation (all_products (table_at t) tss) products → IsPermutation products sorted → IsSorted transition_cmp sorted → sorted ≡ transitions (table_at t) keep state
  set_sorted products sorted moved permuted order =
      factors_sorted T (fulfilling_pairs T) (fulfilling_enough T) keep a.pairs sound apart sorted
      (subst (λ x. IsPermutation (all_products T x) sorted) a.lists (IsPermutation-trans (all_products T tss) products sorted moved permuted)) order
      ∙ sym of_joins

  pub set_consistent : (k : ℕ) → AreConsistent (all_products (table_at t) (drop k tss))
  set_consistent k = subst (λ x. AreConsistent (all_products T (drop k x))) (sym a.lists) (suffix_consistent T keep a.pairs sound apart k)

-- where a place has no row there are none
no_member : (conjunct : ℕ → List Pair) (e : List ℕ) (i : ℕ) → Has e i → conjunct i ≡ [] → (r : Pair) → Has (join_of conjunct e) r → ⊥
no_member conjunct [] i h d r k = absurd h
no_member conjunct (j ∷ e) i (inl q) d r k =
    let (x, y, m, n, f) = join_parts (conjunct j) (join_of conjunct e) r k in
    subst (λ xs. Has xs x) (ap conjunct (sym q) ∙ d) m
no_member conjunct (j ∷ e) i (inr h) d r k =
    let (x, y, m, n, f) = join_parts (conjunct j) (join_of conjunct e) r k in
    no_member conjunct e i h d y n

pub no_transitions : (t : TableView) (keep : Bool) (made state : RowSet) → IsTable t → ((i : ℕ) → i < length t.elementary → Has made i) → HasNoConjunct made state → transitions (table_at t) keep state ≡ []
no_transitions t keep made state w all (i, h, n) =
    let T = table_at t in
    transitions_by_rows T keep state
    ∙ alike_transitions T keep (join_of (pairs_at T) state) [] (record { there = λ p k. absurd (no_member (pairs_at T) state i h nothing p k); back = λ p k. absurd k })
    ∙ none keep
  where
    past : (xs : List ℕ) (k : ℕ) → (k < length xs → ⊥) → slice_get xs k ≡ None
    past [] k f = refl
    past (x ∷ xs) zero f = absurd (f (omega arith))
    past (x ∷ xs) (suc k) f = past xs k (λ l. f (omega (arith, l)))

    nothing : pairs_at (table_at t) i ≡ []
    nothing = no_conjunct_at t i w (past t.elementary i (λ l. n (all i l)))

    none : (k : Bool) → transitions_of (table_at t) k [] ≡ []
    none true = refl
    none false = refl

-- what is left gets shorter
pub fewer_left : (rest inside left : RowSet) (first : ℕ) → Has rest first → Has inside first → left ≡ without rest inside → length left < length rest
fewer_left rest inside left first h k e = subst (λ xs. length xs < length rest) (sym e) (shorter (λ i. not (has nat_cmp i inside)) rest first h (ap not ((has_Decides nat_linear first inside).1 k)))
  where
    no_longer : (p : ℕ → Bool) (xs : List ℕ) → length (filter p xs) ≤ length xs
    no_longer p [] = omega arith
    no_longer p (x ∷ xs) = at (p x) (no_longer p xs)
      where
        at : (b : Bool) → length (filter p xs) ≤ length xs → length (cond b (x ∷ filter p xs) (filter p xs)) ≤ length (x ∷ xs)
        at true l = omega arith
        at false l = omega arith

    shorter : (p : ℕ → Bool) (xs : List ℕ) (y : ℕ) → Has xs y → p y ≡ false → length (filter p xs) < length xs
    shorter p [] y h e = absurd h
    shorter p (x ∷ xs) y (inl q) e = out (p x) (ap p (sym q) ∙ e) (no_longer p xs)
      where
        out : (b : Bool) → b ≡ false → length (filter p xs) ≤ length xs → length (cond b (x ∷ filter p xs) (filter p xs)) < length (x ∷ xs)
        out true d l = cc
        out false d l = omega arith
    shorter p (x ∷ xs) y (inr m) e = at (p x) (shorter p xs y m e)
      where
        at : (b : Bool) → length (filter p xs) < length xs → length (cond b (x ∷ filter p xs) (filter p xs)) < length (x ∷ xs)
        at true l = omega arith
        at false l = omega arith

-- the numbers of the conjuncts of rows are numbers of conjuncts
pub numbers_inside : (owners : List ℕ) (lists : List (List Pair)) (state all : RowSet) → length owners ≡ length lists → all ≡ numbers_in owners state → (k : ℕ) → Has all k → k < length lists
numbers_inside owners lists state all e d k h = let l = numbers_below (λ o. has nat_cmp o state) owners k (subst (λ xs. Has xs k) d h) in omega arith

-- ---- how many combinations

-- no more than so many, with one list more
pub size_at_least : (tss : List (List Transition)) (left count len : ℕ) → left < length tss → count ≤ product_size (drop (left + 1) tss) → len ≡ length (slice_index_or tss left []) → count * len ≤ product_size (drop left tss)
size_at_least tss left count len l e d =
    let behind = product_size (drop (left + 1) tss) in
    let size : length (slice_index_or tss left []) * behind ≡ product_size (drop left tss) = ap product_size (sym (dropped_at tss left l)) in
    let less : count * len ≤ len * behind = grown count behind len e in
    let same : len * behind ≡ length (slice_index_or tss left []) * behind = ap (λ n. n * behind) d in
    omega (arith, size, less, same)
  where
    grown : (m n k : ℕ) → m ≤ n → m * k ≤ k * n
    grown m n k l = grind (arith)
