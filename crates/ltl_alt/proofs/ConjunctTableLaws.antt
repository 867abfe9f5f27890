-- Conjuncts of rows, one after another.
use Rattle.std.proofs.Common.{map, ◌≡◌, ◌≢◌, ℕ, zero, suc, ◌+◌, ◌<◌, ◌≤◌, ◌⊎◌, Bool, true, false, cond, not, ◌&&◌, inl, inr, List, [], ◌∷◌, ◌++◌, length, refl, sym, ◌∙◌, ap, subst, arith}
use Rattle.std.specs.Prelude.{slice_get, slice_index_or, slice_set, nat_eq, Some, None, filter}
use Rattle.std.proofs.lemmas.Bool.Decides.{nat_tests}
use Rattle.std.proofs.lemmas.Bool.{cases_lt}
use Rattle.std.specs.Ordering.{nat_cmp}
use Rattle.std.proofs.lemmas.List.{length-append, get_or_past, append-nil, append_assoc}
use Rattle.ltl_spec.specs.Collections.Sets.{Has, has, is_subset, put, union}
use Rattle.ltl_spec.specs.Collections.Lists.{places_where, places_from}
use Rattle.ltl_spec.specs.Transitions.Pairs.{RowSet, Pair, join, empty_pair, pairs}
use Rattle.ltl_spec.specs.Transitions.RowTransitions.{Table, pairs_at}
use Rattle.ltl_spec.proofs.Collections.SetLaws.{has_Decides, put_cases, Has-put, append_cases, union_left, union_right, union_cases, filter_cases, Has-filter}
use Rattle.ltl_spec.proofs.Collections.ListLaws.{places_cases}
use Rattle.ltl_spec.proofs.Collections.CaseLaws.{false_is_true}
use Rattle.ltl_spec.proofs.Collections.Orders.{nat_linear}
use Rattle.ltl_spec.proofs.Transitions.ConjunctJoins.{join_all, join_of}
use Rattle.ltl_spec.proofs.Transitions.SameJoins.{AreAlike, AreSound, sound_some}
use Rattle.ltl_alt.specs.declared.support.Dependencies.{Dependencies}
use Rattle.ltl_alt.specs.SupportView.{AreDependencies}
use Rattle.ltl_alt.specs.ConjunctTableView.{conjunct_of, dependency_of, links_of, tells_independent, numbers_of, IsLinked, AreAdded, AreKeptBy, AreLinked, AreMade, IsComponent}
use Rattle.ltl_alt.specs.declared.rule.Rule.{Rule}
use Rattle.ltl_alt.specs.StandIns.{IsKeptBy, StandsFor}
use Rattle.ltl_alt.proofs.StandInLaws.{IsStandIn, stands_in, kept_on, kept_all, kept_join}
use Rattle.ltl_alt.proofs.NeedsLaws.{same_or_other}
use Rattle.ltl_alt.proofs.MapLaws.{at_last, at_before}

-- ---- sets of numbers

-- what isn't in the larger set isn't in the smaller one
has_not : (i n : ℕ) (ns : List ℕ) → has nat_cmp i (put nat_cmp n ns) ≡ false → has nat_cmp i ns ≡ false
has_not i n ns e = at (has nat_cmp i ns) refl
  where
    at : (b : Bool) → has nat_cmp i ns ≡ b → has nat_cmp i ns ≡ false
    at false d = d
    at true d = absurd (false_is_true (sym e ∙ (has_Decides nat_linear i (put nat_cmp n ns)).1 (Has-put nat_linear n ns i (inr ((has_Decides nat_linear i ns).0 d)))))

has_put : (n : ℕ) (ns : List ℕ) → has nat_cmp n (put nat_cmp n ns) ≡ true
has_put n ns = (has_Decides nat_linear n (put nat_cmp n ns)).1 (Has-put nat_linear n ns n (inl refl))

-- ---- places of a list

set_same : {K : Type 0} (xs : List K) (k : ℕ) (x d : K) → k < length xs → slice_index_or (slice_set xs k x) k d ≡ x
set_same [] k x d l = absurd (omega arith)
set_same (y ∷ xs) zero x d l = refl
set_same (y ∷ xs) (suc k) x d l = set_same xs k x d (omega arith)

set_other : {K : Type 0} (xs : List K) (k i : ℕ) (x d : K) → i ≢ k → slice_index_or (slice_set xs k x) i d ≡ slice_index_or xs i d
set_other [] k i x d n = refl
set_other (y ∷ xs) zero zero x d n = absurd (n refl)
set_other (y ∷ xs) zero (suc i) x d n = refl
set_other (y ∷ xs) (suc k) zero x d n = refl
set_other (y ∷ xs) (suc k) (suc i) x d n = set_other xs k i x d (λ e. n (ap suc e))

set_length : {K : Type 0} (xs : List K) (k : ℕ) (x : K) → length (slice_set xs k x) ≡ length xs
set_length [] k x = refl
set_length (y ∷ xs) zero x = refl
set_length (y ∷ xs) (suc k) x = ap suc (set_length xs k x)

-- ---- links

-- with a number or without it
less_by : (b : Bool) (n : ℕ) (ns : List ℕ) (j : ℕ) → has nat_cmp j (cond b (put nat_cmp n ns) ns) ≡ false → has nat_cmp j ns ≡ false
less_by true n ns j e = has_not j n ns e
less_by false n ns j e = e

more_by : (b : Bool) (n : ℕ) (ns : List ℕ) (j : ℕ) → has nat_cmp j ns ≡ true → has nat_cmp j (cond b (put nat_cmp n ns) ns) ≡ true
more_by true n ns j e = (has_Decides nat_linear j (put nat_cmp n ns)).1 (Has-put nat_linear n ns j (inr ((has_Decides nat_linear j ns).0 e)))
more_by false n ns j e = e

-- a number that wasn't put in was told to be independent
told_by : (b t : Bool) (n : ℕ) (ns : List ℕ) → b ≡ not t → has nat_cmp n (cond b (put nat_cmp n ns) ns) ≡ false → t ≡ true
told_by b true n ns e h = refl
told_by true false n ns e h = absurd (false_is_true (sym h ∙ has_put n ns))
told_by false false n ns e h = absurd (false_is_true e)

-- one conjunct more
pub linked_step : (dependencies : List Dependencies) (d : Dependencies) (n k : ℕ) (old new more : List RowSet) (own other : RowSet) (b t : Bool) → IsLinked dependencies d n k old new own → k < length old
    → t ≡ tells_independent d (dependency_of dependencies k) → b ≡ not t → more ≡ slice_set new k (cond b (put nat_cmp n (links_of new k)) (links_of new k)) → other ≡ cond b (put nat_cmp k own) own
    → IsLinked dependencies d n (k + 1) old more other
linked_step dependencies d n k old new more own other b t w l tell turn e f = record {
  count = ap length e ∙ set_length new k line ∙ w.count;
  kept = λ i j h. elim (same_or_other i k) [
    | inl o ↦ w.kept i j (subst (λ m. has nat_cmp j (links_of new m) ≡ false) (sym o) (less_by b n (links_of new k) j (sym (ap (has nat_cmp j) (ap (λ x. links_of more x) o ∙ here)) ∙ h)))
    | inr o ↦ w.kept i j (sym (ap (has nat_cmp j) (there i o)) ∙ h)
  ];
  told = λ i m h. elim (same_or_other i k) [
    | inl o ↦ subst (λ x. tells_independent d (dependency_of dependencies x) ≡ true) (sym o) (sym tell ∙ told_by b t n (links_of new k) turn (sym (ap (has nat_cmp n) (ap (λ x. links_of more x) o ∙ here)) ∙ h))
    | inr o ↦ w.told i (omega arith) (sym (ap (has nat_cmp n) (there i o)) ∙ h)
  ];
  own_told = λ i m h. elim (same_or_other i k) [
    | inl o ↦ subst (λ x. tells_independent d (dependency_of dependencies x) ≡ true) (sym o) (sym tell ∙ told_by b t k own turn (subst (λ x. has nat_cmp x (cond b (put nat_cmp k own) own) ≡ false) o (sym (ap (has nat_cmp i) f) ∙ h)))
    | inr o ↦ w.own_told i (omega arith) (less_by b k own i (sym (ap (has nat_cmp i) f) ∙ h))
  ];
  itself = ap (has nat_cmp n) f ∙ more_by b k own n w.itself;
}
  where
    line : RowSet
    line = cond b (put nat_cmp n (links_of new k)) (links_of new k)

    inside : k < length new
    inside = let c = w.count in omega arith

    here : links_of more k ≡ line
    here = ap (λ x. links_of x k) e ∙ set_same new k line [] inside

    there : (i : ℕ) → i ≢ k → links_of more i ≡ links_of new i
    there i o = ap (λ x. links_of x i) e ∙ set_other new k i line [] o

-- ---- conjuncts

nothing_sound : AreSound []
nothing_sound = record { proper = λ r h. absurd h; consistent = λ r h. absurd h }

-- the conjuncts so far, with one more behind them
pub linked_push : (T : Table) (lists : List (List Pair)) (dependencies : List Dependencies) (links new : List RowSet) (more : List (List Pair)) (more_dependencies : List Dependencies) (more_links : List RowSet)
    (ps : List Pair) (d : Dependencies) (line : RowSet) → AreLinked T lists dependencies links → AreSound ps → AreDependencies T ps d → IsLinked dependencies d (length lists) (length lists) links new line
    → more ≡ lists ++ ps ∷ [] → more_dependencies ≡ dependencies ++ d ∷ [] → more_links ≡ new ++ line ∷ [] → AreLinked T more more_dependencies more_links
linked_push T lists dependencies links new more more_dependencies more_links ps d line w s a l e f g =
    subst (λ x. AreLinked T x more_dependencies more_links) (sym e) (subst (λ x. AreLinked T (lists ++ ps ∷ []) x more_links) (sym f) (subst (AreLinked T (lists ++ ps ∷ []) (dependencies ++ d ∷ [])) (sym g) (record {
      dependency_count = longer dependencies lists d ps w.dependency_count;
      link_count = longer new lists line ps (l.count ∙ w.link_count);
      sound = λ k. sound k;
      demanded = λ k m. elim (same_or_other k n) [
        | inl o ↦ subst (λ x. AreDependencies T (conjunct_of (lists ++ ps ∷ []) x) (dependency_of (dependencies ++ d ∷ []) x)) (sym o)
            (subst (λ x. AreDependencies T x (dependency_of (dependencies ++ d ∷ []) n)) (sym conjunct_last) (subst (AreDependencies T ps) (sym dependency_last) a))
        | inr o ↦ subst (λ x. AreDependencies T x (dependency_of (dependencies ++ d ∷ []) k)) (sym (conjunct_before k (before k m o))) (subst (AreDependencies T (conjunct_of lists k)) (sym (dependency_before k (before k m o))) (w.demanded k (before k m o)))
      ];
      linked = λ i j m o h. linked i j (same_or_other i n) (same_or_other j n) m o h;
    })))
  where
    n : ℕ
    n = length lists

    longer : {X Y : Type 0} (xs : List X) (ys : List Y) (x : X) (y : Y) → length xs ≡ length ys → length (xs ++ x ∷ []) ≡ length (ys ++ y ∷ [])
    longer xs ys x y e = length-append xs (x ∷ []) ∙ ap (λ m. m + 1) e ∙ sym (length-append ys (y ∷ []))

    before : (k : ℕ) → k < length (lists ++ ps ∷ []) → k ≢ n → k < n
    before k m o = let c = length-append lists (ps ∷ []) in omega arith

    dependency_count : length dependencies ≡ n
    dependency_count = w.dependency_count

    link_count : length new ≡ n
    link_count = l.count ∙ w.link_count

    conjunct_last : conjunct_of (lists ++ ps ∷ []) n ≡ ps
    conjunct_last = at_last lists ps [] n refl

    dependency_last : dependency_of (dependencies ++ d ∷ []) n ≡ d
    dependency_last = at_last dependencies d _ n (sym dependency_count)

    links_last : links_of (new ++ line ∷ []) n ≡ line
    links_last = at_last new line [] n (sym link_count)

    conjunct_before : (k : ℕ) → k < n → conjunct_of (lists ++ ps ∷ []) k ≡ conjunct_of lists k
    conjunct_before k m = at_before lists (ps ∷ []) [] k m

    dependency_before : (k : ℕ) → k < n → dependency_of (dependencies ++ d ∷ []) k ≡ dependency_of dependencies k
    dependency_before k m = let c = dependency_count in at_before dependencies (d ∷ []) _ k (omega arith)

    links_before : (k : ℕ) → k < n → links_of (new ++ line ∷ []) k ≡ links_of new k
    links_before k m = let c = link_count in at_before new (line ∷ []) [] k (omega arith)

    past : (k : ℕ) → k ≢ n → n ≤ k → length (lists ++ ps ∷ []) ≤ k
    past k o m = let c = length-append lists (ps ∷ []) in omega arith

    sound : (k : ℕ) → AreSound (conjunct_of (lists ++ ps ∷ []) k)
    sound k = elim (same_or_other k n) [
      | inl o ↦ subst (λ x. AreSound (conjunct_of (lists ++ ps ∷ []) x)) (sym o) (subst AreSound (sym conjunct_last) s)
      | inr o ↦ elim (cases_lt k n) [
        | inl m ↦ subst AreSound (sym (conjunct_before k m)) (w.sound k)
        | inr m ↦ subst AreSound (sym (get_or_past (lists ++ ps ∷ []) k [] (past k o m))) nothing_sound
      ]
    ]

    dependency_is : (i : ℕ) → i ≡ n → dependency_of (dependencies ++ d ∷ []) i ≡ d
    dependency_is i o = ap (dependency_of (dependencies ++ d ∷ [])) o ∙ dependency_last

    links_is : (i : ℕ) → i ≡ n → links_of (new ++ line ∷ []) i ≡ line
    links_is i o = ap (links_of (new ++ line ∷ [])) o ∙ links_last

    linked : (i j : ℕ) → (i ≡ n) ⊎ (i ≢ n) → (j ≡ n) ⊎ (j ≢ n) → i < length (lists ++ ps ∷ []) → j < length (lists ++ ps ∷ []) → has nat_cmp j (links_of (new ++ line ∷ []) i) ≡ false
        → (tells_independent (dependency_of (dependencies ++ d ∷ []) i) (dependency_of (dependencies ++ d ∷ []) j) ≡ true) ⊎ (tells_independent (dependency_of (dependencies ++ d ∷ []) j) (dependency_of (dependencies ++ d ∷ []) i) ≡ true)
    linked i j (inl o) (inl q) m p h = absurd (false_is_true (sym h ∙ ap (has nat_cmp j) (links_is i o) ∙ ap (λ x. has nat_cmp x line) q ∙ l.itself))
    linked i j (inl o) (inr q) m p h =
        let first = dependency_is i o in
        let second = dependency_before j (before j p q) in
        inl ((λ k. tells_independent (first k) (second k)) ∙ l.own_told j (before j p q) (sym (ap (has nat_cmp j) (links_is i o)) ∙ h))
    linked i j (inr o) (inl q) m p h =
        let first = dependency_is j q in
        let second = dependency_before i (before i m o) in
        inr ((λ k. tells_independent (first k) (second k)) ∙ l.told i (before i m o) (sym (ap (λ x. has nat_cmp x (links_of new i)) q) ∙ sym (ap (has nat_cmp j) (links_before i (before i m o))) ∙ h))
    linked i j (inr o) (inr q) m p h =
        let first = dependency_before i (before i m o) in
        let second = dependency_before j (before j p q) in
        let old = l.kept i j (sym (ap (has nat_cmp j) (links_before i (before i m o))) ∙ h) in
        elim (w.linked i j (before i m o) (before j p q) old) [
          | inl t ↦ inl ((λ k. tells_independent (first k) (second k)) ∙ t)
          | inr t ↦ inr ((λ k. tells_independent (second k) (first k)) ∙ t)
        ]

-- ---- rows

-- the conjuncts before others are the same
conjunct_same : (lists more : List (List Pair)) (k : ℕ) → k < length lists → conjunct_of (lists ++ more) k ≡ conjunct_of lists k
conjunct_same lists more k l = at_before lists more [] k l

pub join_same : (lists more : List (List Pair)) (ns : List ℕ) → ((k : ℕ) → Has ns k → k < length lists) → join_of (conjunct_of (lists ++ more)) ns ≡ join_of (conjunct_of lists) ns
join_same lists more [] f = refl
join_same lists more (k ∷ ns) f =
    let first = conjunct_same lists more k (f k (inl refl)) in
    let rest = join_same lists more ns (λ j h. f j (inr h)) in
    λ i. join (first i) (rest i)

none_where : (p : ℕ → Bool) (n : ℕ) (xs : List ℕ) → ((x : ℕ) → Has xs x → p x ≡ false) → places_from p n xs ≡ []
none_where p n [] f = refl
none_where p n (x ∷ xs) f = ap (λ b. cond b (n ∷ places_from p (n + 1) xs) (places_from p (n + 1) xs)) (f x (inl refl)) ∙ none_where p (n + 1) xs (λ y h. f y (inr h))

eq_itself : (i : ℕ) → nat_eq i i ≡ true
eq_itself i = grind (arith, nat_tests)

eq_other : (i j : ℕ) → i ≢ j → nat_eq i j ≡ false
eq_other i j n = grind (arith, nat_tests)

-- the numbers of a row's conjuncts are below the number of conjuncts
pub numbers_below : (p : ℕ → Bool) (owners : List ℕ) (k : ℕ) → Has (places_where p owners) k → k < length owners
numbers_below p owners k h = let c = (places_cases p 0 owners 0 k h).1 in omega arith

-- lists with the same pairs keep each other's
kept_same : (S : Pair → Pair → Type 0) → IsStandIn S → (ps qs : List Pair) → AreAlike ps qs → IsKeptBy S ps qs
kept_same S o ps qs a = record { from = a.back; covers = λ p h. (p, a.there p h, o.itself p) }

-- of each list what was kept, and of all at once
kept_lists : (T : Table) (r : Rule) (pss qss : List (List Pair)) → AreKeptBy (StandsFor T r) pss qss → IsKeptBy (StandsFor T r) (join_all pss) (join_all qss)
kept_lists T r [] [] k = kept_all (stands_in T r) (empty_pair ∷ [])
kept_lists T r [] (qs ∷ qss) k = absurd k
kept_lists T r (ps ∷ pss) [] k = absurd k
kept_lists T r (ps ∷ pss) (qs ∷ qss) k = kept_join (stands_in T r) ps qs (join_all pss) (join_all qss) k.0 (kept_lists T r pss qss k.1)

kept_behind : (S : Pair → Pair → Type 0) (pss qss : List (List Pair)) (ps qs : List Pair) → AreKeptBy S pss qss → IsKeptBy S ps qs → AreKeptBy S (pss ++ ps ∷ []) (qss ++ qs ∷ [])
kept_behind S [] [] ps qs k m = (m, tt)
kept_behind S [] (xs ∷ qss) ps qs k m = absurd k
kept_behind S (xs ∷ pss) [] ps qs k m = absurd k
kept_behind S (xs ∷ pss) (ys ∷ qss) ps qs k m = (k.0, kept_behind S pss qss ps qs k.1 m)

pub map_behind : {X Y : Type 0} (h : X → Y) (xs : List X) (x : X) → map h (xs ++ x ∷ []) ≡ map h xs ++ h x ∷ []
map_behind h [] x = refl
map_behind h (y ∷ xs) x = ap (λ ys. h y ∷ ys) (map_behind h xs x)

-- one conjunct more
pub added_more : (T : Table) (r : Rule) (i : ℕ) (pss more : List (List Pair)) (owners now new : List ℕ) (lists now_lists new_lists : List (List Pair)) (ps qs : List Pair) → AreAdded T r i pss owners now lists now_lists
    → IsKeptBy (StandsFor T r) ps qs → more ≡ pss ++ ps ∷ [] → new ≡ now ++ i ∷ [] → new_lists ≡ now_lists ++ qs ∷ [] → AreAdded T r i more owners new lists new_lists
added_more T r i pss more owners now new lists now_lists new_lists ps qs w k e f d = record {
  conjuncts = w.conjuncts ++ qs ∷ [];
  kept = subst (λ xs. AreKeptBy (StandsFor T r) xs (w.conjuncts ++ qs ∷ [])) (sym e) (kept_behind (StandsFor T r) pss w.conjuncts ps qs w.kept k);
  lists_are = d ∙ ap (λ xs. xs ++ qs ∷ []) w.lists_are ∙ append_assoc lists w.conjuncts (qs ∷ []);
  owners_are = f ∙ ap (λ xs. xs ++ i ∷ []) w.owners_are ∙ append_assoc owners (map (λ (xs : List Pair). i) w.conjuncts) (i ∷ []) ∙ ap (λ xs. owners ++ xs) (sym (map_behind (λ (xs : List Pair). i) w.conjuncts qs));
}

-- how many were added
pub added_count : (T : Table) (r : Rule) (i : ℕ) (pss : List (List Pair)) (owners new : List ℕ) (lists new_lists : List (List Pair)) → AreAdded T r i pss owners new lists new_lists → length new_lists ≡ length lists + length pss
added_count T r i pss owners new lists new_lists w = ap length w.lists_are ∙ length-append lists w.conjuncts ∙ ap (λ n. length lists + n) (same pss w.conjuncts w.kept)
  where
    same : (ps qs : List (List Pair)) → AreKeptBy (StandsFor T r) ps qs → length qs ≡ length ps
    same [] [] k = refl
    same [] (q ∷ qs) k = absurd k
    same (p ∷ ps) [] k = absurd k
    same (p ∷ ps) (q ∷ qs) k = ap suc (same ps qs k.1)

-- places in lists in a row
places_append : (p : ℕ → Bool) (n : ℕ) (xs ys : List ℕ) → places_from p n (xs ++ ys) ≡ places_from p n xs ++ places_from p (n + length xs) ys
places_append p n [] ys = let e : n ≡ n + 0 = omega arith in ap (λ m. places_from p m ys) e
places_append p n (x ∷ xs) ys = at (p x) (places_append p (n + 1) xs ys ∙ ap (λ m. places_from p (n + 1) xs ++ places_from p m ys) same)
  where
    same : n + 1 + length xs ≡ n + length (x ∷ xs)
    same = omega arith

    at : (b : Bool) → places_from p (n + 1) (xs ++ ys) ≡ places_from p (n + 1) xs ++ places_from p (n + length (x ∷ xs)) ys
        → cond b (n ∷ places_from p (n + 1) (xs ++ ys)) (places_from p (n + 1) (xs ++ ys)) ≡ cond b (n ∷ places_from p (n + 1) xs) (places_from p (n + 1) xs) ++ places_from p (n + length (x ∷ xs)) ys
    at true e = ap (λ l. n ∷ l) e
    at false e = e

all_same : (i o : ℕ) (qss : List (List Pair)) → Has (map (λ (qs : List Pair). i) qss) o → o ≡ i
all_same i o [] h = absurd h
all_same i o (qs ∷ qss) (inl e) = e
all_same i o (qs ∷ qss) (inr h) = all_same i o qss h

length_same : (i : ℕ) (qss : List (List Pair)) → length (map (λ (qs : List Pair). i) qss) ≡ length qss
length_same i [] = refl
length_same i (qs ∷ qss) = ap suc (length_same i qss)

-- the conjuncts behind others at once
join_behind : (i n : ℕ) (lists qss : List (List Pair)) → n ≡ length lists → join_of (conjunct_of (lists ++ qss)) (places_from (λ o. nat_eq o i) n (map (λ (qs : List Pair). i) qss)) ≡ join_all qss
join_behind i n lists [] e = refl
join_behind i n lists (qs ∷ qss) e =
    let rest = places_from (λ o. nat_eq o i) (n + 1) (map (λ (xs : List Pair). i) qss) in
    let whole : (lists ++ qs ∷ []) ++ qss ≡ lists ++ qs ∷ qss = append_assoc lists (qs ∷ []) qss in
    let long : n + 1 ≡ length (lists ++ qs ∷ []) = (let c = length-append lists (qs ∷ []) in omega arith) in
    let here : conjunct_of (lists ++ qs ∷ qss) n ≡ qs = ap (λ xs. conjunct_of xs n) (sym whole) ∙ at_before (lists ++ qs ∷ []) qss [] n (omega arith) ∙ at_last lists qs [] n e in
    let there : join_of (conjunct_of (lists ++ qs ∷ qss)) rest ≡ join_all qss = ap (λ xs. join_of (conjunct_of xs) rest) (sym whole) ∙ join_behind i (n + 1) (lists ++ qs ∷ []) qss long in
    ap (λ b. join_of (conjunct_of (lists ++ qs ∷ qss)) (cond b (n ∷ rest) rest)) (eq_itself i) ∙ (λ k. join (here k) (there k))

-- a row that was taken apart
pub made_more : (T : Table) (r : Rule) (made owners new_made new : List ℕ) (lists new_lists : List (List Pair)) (i : ℕ) (pss : List (List Pair)) → AreMade T r made owners lists → (Has made i → ⊥)
    → AreAlike (pairs_at T i) (join_all pss) → AreAdded T r i pss owners new lists new_lists → length new_lists ≤ 256 → new_made ≡ put nat_cmp i made → AreMade T r new_made new new_lists
made_more T r made owners new_made new lists new_lists i pss w new_row alike a few d =
    subst (λ x. AreMade T r x new new_lists) (sym d) (subst (λ x. AreMade T r (put nat_cmp i made) x new_lists) (sym a.owners_are) (subst (AreMade T r (put nat_cmp i made) (owners ++ own)) (sym a.lists_are) (record {
      owner_count = counts;
      owned = λ o h. elim (append_cases owners own o h) [
        | inl m ↦ Has-put nat_linear i made o (inr (w.owned o m))
        | inr m ↦ Has-put nat_linear i made o (inl (all_same i o a.conjuncts m))
      ];
      few = (let c = ap length a.lists_are in let e = counts in omega arith);
      listed = λ j h. elim (put_cases nat_cmp i made j h) [
        | inl q ↦ subst (λ x. IsKeptBy (StandsFor T r) (pairs_at T x) (join_of (conjunct_of (lists ++ a.conjuncts)) (numbers_of (owners ++ own) x))) (sym q) here
        | inr m ↦ there j m
      ];
    })))
  where
    own : List ℕ
    own = map (λ (qs : List Pair). i) a.conjuncts

    counts : length (owners ++ own) ≡ length (lists ++ a.conjuncts)
    counts = length-append owners own ∙ (λ k. w.owner_count k + length_same i a.conjuncts k) ∙ sym (length-append lists a.conjuncts)

    no_owner : (o : ℕ) → Has owners o → nat_eq o i ≡ false
    no_owner o h = eq_other o i (λ q. new_row (subst (Has made) q (w.owned o h)))

    zero_more : 0 + length owners ≡ length owners
    zero_more = omega arith

    own_numbers : numbers_of (owners ++ own) i ≡ places_from (λ o. nat_eq o i) (length owners) own
    own_numbers =
        places_append (λ o. nat_eq o i) 0 owners own
        ∙ ap (λ ns. ns ++ places_from (λ o. nat_eq o i) (0 + length owners) own) (none_where (λ o. nat_eq o i) 0 owners no_owner)
        ∙ ap (λ m. places_from (λ o. nat_eq o i) m own) zero_more

    here : IsKeptBy (StandsFor T r) (pairs_at T i) (join_of (conjunct_of (lists ++ a.conjuncts)) (numbers_of (owners ++ own) i))
    here = subst (IsKeptBy (StandsFor T r) (pairs_at T i)) (sym (ap (join_of (conjunct_of (lists ++ a.conjuncts))) own_numbers ∙ join_behind i (length owners) lists a.conjuncts w.owner_count))
        (kept_on (stands_in T r) (pairs_at T i) (join_all pss) (join_all a.conjuncts) (kept_same (StandsFor T r) (stands_in T r) (pairs_at T i) (join_all pss) alike) (kept_lists T r pss a.conjuncts a.kept))

    old_numbers : (j : ℕ) → Has made j → numbers_of (owners ++ own) j ≡ numbers_of owners j
    old_numbers j m =
        places_append (λ o. nat_eq o j) 0 owners own
        ∙ ap (λ ns. numbers_of owners j ++ ns) (none_where (λ o. nat_eq o j) (0 + length owners) own (λ o h. eq_other o j (λ q. new_row (subst (Has made) (sym q ∙ all_same i o a.conjuncts h) m))))
        ∙ append-nil (numbers_of owners j)

    there : (j : ℕ) → Has made j → IsKeptBy (StandsFor T r) (pairs_at T j) (join_of (conjunct_of (lists ++ a.conjuncts)) (numbers_of (owners ++ own) j))
    there j m = subst (λ ns. IsKeptBy (StandsFor T r) (pairs_at T j) (join_of (conjunct_of (lists ++ a.conjuncts)) ns)) (sym (old_numbers j m))
        (subst (IsKeptBy (StandsFor T r) (pairs_at T j)) (sym (join_same lists a.conjuncts (numbers_of owners j) (λ k h. let l = numbers_below (λ o. nat_eq o j) owners k h in let c = w.owner_count in omega arith))) (w.listed j m))

-- what was kept of sound pairs is sound
pub kept_sound : (T : Table) (r : Rule) (ps qs : List Pair) → AreSound ps → IsKeptBy (StandsFor T r) ps qs → AreSound qs
kept_sound T r ps qs s k = sound_some ps qs k.from s

-- what isn't among others
pub not_subset : (xs ys : RowSet) → is_subset nat_cmp xs ys ≡ false → (i : ℕ) × Has xs i × (Has ys i → ⊥)
not_subset [] ys e = cc
not_subset (x ∷ xs) ys e = at (has nat_cmp x ys) refl (λ d. not_subset xs ys d)
  where
    at : (b : Bool) → has nat_cmp x ys ≡ b → (is_subset nat_cmp xs ys ≡ false → (i : ℕ) × Has xs i × (Has ys i → ⊥)) → (i : ℕ) × Has (x ∷ xs) i × (Has ys i → ⊥)
    at false d rest = (x, inl refl, λ h. false_is_true (sym d ∙ (has_Decides nat_linear x ys).1 h))
    at true d rest = let (i, h, n) = rest (ap (λ b. b && is_subset nat_cmp xs ys) (sym d) ∙ e) in (i, inr h, n)

-- ---- places that are left

pub taken_one : (one : RowSet) (k : ℕ) → one ≡ k ∷ [] → Has one k
taken_one one k e = subst (λ xs. Has xs k) (sym e) (inl refl)

pub still_left : (rest one left : RowSet) (k i : ℕ) → one ≡ k ∷ [] → left ≡ filter (λ j. not (has nat_cmp j one)) rest → Has left i → Has rest i × (i ≢ k)
still_left rest one left k i e d h =
    let c = filter_cases (λ j. not (has nat_cmp j one)) rest i (subst (λ xs. Has xs i) d h) in
    (c.0, λ f. absurd (at (has nat_cmp i one) ((has_Decides nat_linear i one).1 (subst (λ xs. Has xs i) (sym e) (inl f))) c.1))
  where
    at : (b : Bool) → b ≡ true → not b ≡ true → ⊥
    at true p q = cc
    at false p q = cc

pub left_stays : (rest one left : RowSet) (k i : ℕ) → one ≡ k ∷ [] → left ≡ filter (λ j. not (has nat_cmp j one)) rest → Has rest i → i ≢ k → Has left i
left_stays rest one left k i e d h n = subst (λ xs. Has xs i) (sym d) (Has-filter (λ j. not (has nat_cmp j one)) rest i h (at (has nat_cmp i one) refl))
  where
    other : Has (k ∷ []) i → ⊥
    other (inl f) = n f
    other (inr z) = z

    at : (b : Bool) → has nat_cmp i one ≡ b → not b ≡ true
    at false p = refl
    at true p = absurd (other (subst (λ xs. Has xs i) e ((has_Decides nat_linear i one).0 p)))

-- ---- components

pub linked_more : (links : List RowSet) (inside rest left linked more : RowSet) (k : ℕ) → rest ≡ k ∷ left → ((i j : ℕ) → Has inside i → Has (links_of links i) j → Has linked j ⊎ Has rest i) → more ≡ union nat_cmp linked (links_of links k)
    → (i j : ℕ) → Has inside i → Has (links_of links i) j → Has more j ⊎ Has left i
linked_more links inside rest left linked more k e f g i j h m = elim (f i j h m) [
  | inl x ↦ inl (subst (λ xs. Has xs j) (sym g) (union_left nat_linear linked (links_of links k) j x))
  | inr x ↦ elim (subst (λ xs. Has xs i) e x) [
    | inl q ↦ inl (subst (λ xs. Has xs j) (sym g) (union_right nat_linear linked (links_of links k) j (subst (λ y. Has (links_of links y) j) q m)))
    | inr y ↦ inr y
  ]
]

pub linked_past : (links : List RowSet) (inside rest left linked : RowSet) (k : ℕ) → rest ≡ k ∷ left → ((i j : ℕ) → Has inside i → Has (links_of links i) j → Has linked j ⊎ Has rest i) → slice_get links k ≡ None
    → (i j : ℕ) → Has inside i → Has (links_of links i) j → Has linked j ⊎ Has left i
linked_past links inside rest left linked k e f g i j h m = elim (f i j h m) [
  | inl x ↦ inl x
  | inr x ↦ elim (subst (λ xs. Has xs i) e x) [
    | inl q ↦ absurd (subst (λ xs. Has xs j) (nothing_there links k g) (subst (λ y. Has (links_of links y) j) q m))
    | inr y ↦ inr y
  ]
]
  where
    nothing_there : (xs : List RowSet) (k : ℕ) → slice_get xs k ≡ None → slice_index_or xs k [] ≡ []
    nothing_there [] k g = refl
    nothing_there (x ∷ xs) zero g = cc
    nothing_there (x ∷ xs) (suc k) g = nothing_there xs k g

pub links_at : (xs : List RowSet) (k : ℕ) (x : RowSet) → slice_get xs k ≡ Some x → links_of xs k ≡ x
links_at [] k x e = cc
links_at (y ∷ xs) zero x e = cc
links_at (y ∷ xs) (suc k) x e = links_at xs k x e

-- so is what doesn't grow any more
pub component_grown : (links : List RowSet) (first : ℕ) (rest inside linked more : RowSet) → Has inside first → ((i : ℕ) → Has inside i → Has rest i) → ((i j : ℕ) → Has inside i → Has (links_of links i) j → Has linked j)
    → more ≡ union nat_cmp inside (filter (λ i. has nat_cmp i linked) rest) → more ≡ inside → IsComponent links first rest inside
component_grown links first rest inside linked more h some all e d = record {
  there = h;
  some = some;
  closed = λ i k j m n. subst (λ xs. Has xs j) (sym e ∙ d)
      (union_right nat_linear inside (filter (λ x. has nat_cmp x linked) rest) j (Has-filter (λ x. has nat_cmp x linked) rest j m ((has_Decides nat_linear j linked).1 (all i j k n))));
}

pub more_inside : (rest inside linked more : RowSet) → ((i : ℕ) → Has inside i → Has rest i) → more ≡ union nat_cmp inside (filter (λ i. has nat_cmp i linked) rest) → (i : ℕ) → Has more i → Has rest i
more_inside rest inside linked more some e i h = elim (union_cases nat_linear inside (filter (λ x. has nat_cmp x linked) rest) i (subst (λ xs. Has xs i) e h)) [
  | inl k ↦ some i k
  | inr k ↦ (filter_cases (λ x. has nat_cmp x linked) rest i k).0
]

pub more_there : (first : ℕ) (rest inside linked more : RowSet) → Has inside first → more ≡ union nat_cmp inside (filter (λ i. has nat_cmp i linked) rest) → Has more first
more_there first rest inside linked more h e = subst (λ xs. Has xs first) (sym e) (union_left nat_linear inside (filter (λ x. has nat_cmp x linked) rest) first h)
