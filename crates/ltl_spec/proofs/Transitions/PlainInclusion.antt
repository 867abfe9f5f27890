-- For the until rows that don't count inclusion of pairs is enough: some pair within a given one postpones them only where that one does, and keeps its marks for all that count.
use Rattle.std.proofs.Common.{◌≡◌, ℕ, ◌+◌, ◌<◌, ◌≤◌, Bool, true, false, not, ◌⊎◌, inl, inr, List, [], ◌∷◌, ◌++◌, length, refl, sym, ◌∙◌, ap, subst, arith}
use Rattle.std.specs.Prelude.{cond, slice_index_or}
use Rattle.std.specs.Ordering.{nat_cmp}
use Rattle.std.proofs.lemmas.Bool.{cases_lt}
use Rattle.std.proofs.lemmas.List.{get_or_past}
use Rattle.ltl_spec.specs.Collections.Sets.{Has, has}
use Rattle.ltl_spec.specs.Collections.Lists.{place_of}
use Rattle.ltl_spec.specs.NormalForms.Normal.{Normal, Top, Bottom, Leaf, Next, And, Or, Until, Release, same}
use Rattle.ltl_spec.specs.NormalForms.NormalForm.{is_elementary, is_until, rows, elementary_rows, until_rows}
use Rattle.ltl_spec.specs.Transitions.Cubes.{Literal}
use Rattle.ltl_spec.specs.Transitions.Pairs.{RowSet, Pair, conj, join, empty_pair, later_pair, pairs, Within}
use Rattle.ltl_spec.specs.Transitions.RowTransitions.{Table, table_of, place, pairs_at, is_marked, with_marks}
use Rattle.ltl_spec.specs.Transitions.Pruning.{IsSafeToDrop, IsKept, unimplied_of, is_counted, fulfilling_pairs}
use Rattle.ltl_spec.specs.Transitions.CountedUntils.{AreCounted, CountsAll, postponing_pairs}
use Rattle.ltl_spec.proofs.Collections.SetLaws.{append_cases, append_left, append_right, filter_cases, has_Decides, union_cases, union_left, union_right}
use Rattle.ltl_spec.proofs.Collections.MemberLaws.{map_cases}
use Rattle.ltl_spec.proofs.Collections.ListLaws.{Has-at, place_below, place_same}
use Rattle.ltl_spec.proofs.Collections.Orders.{nat_linear, literal_linear}
use Rattle.ltl_spec.proofs.Collections.CaseLaws.{false_is_true}
use Rattle.ltl_spec.proofs.NormalForms.NormalLaws.{same_Decides}
use Rattle.ltl_spec.proofs.Transitions.JoinLaws.{within_refl, within_trans, united, within_left, within_right, IsConsistent, united_least}
use Rattle.ltl_spec.proofs.Transitions.TransitionLaws.{Implies}
use Rattle.ltl_spec.proofs.Transitions.SafeLaws.{consistent_within, safe_within}
use Rattle.ltl_spec.proofs.Transitions.LeastPairs.{marked_cases, marked_from}
use Rattle.ltl_spec.proofs.Transitions.PartLaws.{elementary_has}
use Rattle.ltl_spec.proofs.Transitions.PruningLaws.{safe_marked, marked_implies, covered_transitions}
use Rattle.ltl_spec.proofs.Transitions.SameJoins.{Has-united, united_parts}
use Rattle.ltl_spec.proofs.Transitions.ConjunctJoins.{join_of, sound_join_of, rows_sound}
use Rattle.ltl_spec.proofs.Transitions.FulfilmentLaws.{fulfilling_second}

-- what has a place within a list is in it
placed_has : (x : Normal) (xs : List Normal) → place_of same x xs < length xs → Has xs x
placed_has x [] l = absurd (omega arith)
placed_has x (y ∷ ys) l =
    elim (same x y) as (λ b. same x y ≡ b → cond (not b) (1 + place_of same x ys) 0 < length (y ∷ ys) → Has (y ∷ ys) x) [
      | true ↦ λ e m. inl ((same_Decides x y).0 e)
      | false ↦ λ e m. inr (placed_has x ys (omega arith))
    ] refl l

-- of the until rows those count that have their places in `counted`
module _ (core : Normal) (counted : RowSet) where
  abbrev table : Table
  table = table_of core

  -- the until rows

  -- they are elementary
  until_elementary : (f : Normal) → Has (until_rows core) f → Has (elementary_rows core) f
  until_elementary f h = let c = filter_cases is_until (rows core) f h in elementary_has core f c.0 (at f c.1)
    where
      at : (g : Normal) → is_until g ≡ true → is_elementary g ≡ true
      at (Until a b) e = refl
      at _ e = false_is_true e

  -- so nothing else has the place of one
  until_alone : (f g : Normal) → Has (until_rows core) f → place table f ≡ place table g → g ≡ f
  until_alone f g h e =
      let k = until_elementary f h in
      let l = place_below same same_Decides f (elementary_rows core) k in
      place_same same same_Decides g f (elementary_rows core) (placed_has g (elementary_rows core) (subst (λ n. n < length (elementary_rows core)) e l)) k (sym e)

  -- a release row is none
  release_alone : (f a b : Normal) → Has (until_rows core) f → place table f ≡ place table (Release a b) → ⊥
  release_alone f a b h e =
      let c = filter_cases is_until (rows core) f h in
      false_is_true (ap is_until (until_alone f (Release a b) h e) ∙ c.1)

  -- pairs that stand for others

  -- all of m that p asks for, q asks for too
  record KeepsPart (m p q : Pair) : Type 0 where
    cube : (l : Literal) → Has m.cube l → Has p.cube l → Has q.cube l
    targets : (k : ℕ) → Has m.targets k → Has p.targets k → Has q.targets k

  keeps_all : (m p : Pair) → KeepsPart m p p
  keeps_all m p = record { cube = λ l h k. k; targets = λ i h k. k }

  -- united pairs keep what each of the two keeps
  keeps_united : (m p r q s : Pair) → KeepsPart m p q → KeepsPart m r s → KeepsPart m (united p r) (united q s)
  keeps_united m p r q s v w = record {
    cube = λ l h k. elim (union_cases literal_linear p.cube r.cube l k) [
      | inl i ↦ union_left literal_linear q.cube s.cube l (v.cube l h i)
      | inr i ↦ union_right literal_linear q.cube s.cube l (w.cube l h i)
    ];
    targets = λ n h k. elim (union_cases nat_linear p.targets r.targets n k) [
      | inl i ↦ union_left nat_linear q.targets s.targets n (v.targets n h i)
      | inr i ↦ union_right nat_linear q.targets s.targets n (w.targets n h i)
    ];
  }

  -- t puts off each until row that doesn't count and is a target of q
  abbrev PutsOffTargets : Pair → Pair → Type 0
  PutsOffTargets t q = (f : Normal) → Has table.untils f → is_counted table counted f ≡ false → Has q.targets (place table f) → is_marked table t f ≡ false

  -- q keeps what p has of the pairs that fulfil an until row that counts
  abbrev KeepsCounted : Pair → Pair → Type 0
  KeepsCounted p q = (f : Normal) → Has table.untils f → is_counted table counted f ≡ true → (m : Pair) → Has (fulfilling_pairs table f) m → KeepsPart m p q

  -- of the list there is a pair within t that stands for p
  record HasStandIn (ps : List Pair) (t p : Pair) : Type 0 where
    pair : Pair
    there : Has ps pair
    less : Within pair t
    others : PutsOffTargets t pair
    keeps : KeepsCounted p pair

  -- all pairs of the list that are within t have one
  abbrev HaveStandIns : List Pair → Pair → Type 0
  HaveStandIns ps t = (p : Pair) → Has ps p → Within p t → HasStandIn ps t p

  -- a pair may stand for itself
  itself : (ps : List Pair) (t p : Pair) → Has ps p → Within p t → PutsOffTargets t p → HasStandIn ps t p
  itself ps t p h w o = record { pair = p; there = h; less = w; others = o; keeps = λ f k c m n. keeps_all m p }

  -- so may one without targets
  in_empty : (ps : List Pair) (t p q : Pair) → p ≡ q → ((k : ℕ) → Has q.targets k → ⊥) → Has ps p → Within p t → HasStandIn ps t p
  in_empty ps t p q e n h w = itself ps t p h w (λ f k c m. absurd (n (place table f) (subst (λ (x : Pair). Has x.targets (place table f)) e m)))

  -- and the pair that asks for a row next, if t puts off the until rows at that place that don't count
  in_later : (i : ℕ) (t : Pair) → ((f : Normal) → Has table.untils f → is_counted table counted f ≡ false → place table f ≡ i → is_marked table t f ≡ false) → HaveStandIns (later_pair i ∷ []) t
  in_later i t o p (inr x) w = absurd x
  in_later i t o p (inl e) w = itself (later_pair i ∷ []) t p (inl e) w (λ f k c m. at f k c (subst (λ (x : Pair). Has x.targets (place table f)) e m))
    where
      at : (f : Normal) → Has table.untils f → is_counted table counted f ≡ false → Has (i ∷ []) (place table f) → is_marked table t f ≡ false
      at f k c (inl d) = o f k c d
      at f k c (inr x) = absurd x

  -- in a list with more pairs the same one stands for it
  in_more : (ps qs : List Pair) (t p : Pair) → ((q : Pair) → Has ps q → Has qs q) → HasStandIn ps t p → HasStandIn qs t p
  in_more ps qs t p f s = record { pair = s.pair; there = f s.pair s.there; less = s.less; others = s.others; keeps = s.keeps }

  -- and in two lists in a row one of either
  in_append : (ps qs : List Pair) (t : Pair) → HaveStandIns ps t → HaveStandIns qs t → HaveStandIns (ps ++ qs) t
  in_append ps qs t f g p h w = elim (append_cases ps qs p h) [
    | inl k ↦ in_more ps (ps ++ qs) t p (append_left ps qs) (f p k w)
    | inr k ↦ in_more qs (ps ++ qs) t p (append_right ps qs) (g p k w)
  ]

  -- within a consistent pair two of them join
  in_join : (ps qs : List Pair) (t : Pair) → IsConsistent t → HaveStandIns ps t → HaveStandIns qs t → HaveStandIns (join ps qs) t
  in_join ps qs t c f g r h w =
      let (p, q, k, m, e, n) = united_parts ps qs r h in
      let v = subst (λ x. Within x t) e w in
      let a = f p k (within_trans p (united p q) t (within_left p q) v) in
      let b = g q m (within_trans q (united p q) t (within_right p q) v) in
      let l = united_least a.pair b.pair t a.less b.less in
      record {
        pair = united a.pair b.pair;
        there = Has-united ps qs a.pair b.pair a.there b.there (consistent_within (united a.pair b.pair) t l c);
        less = l;
        others = λ i j x y. elim (union_cases nat_linear a.pair.targets b.pair.targets (place table i) y) [ inl z ↦ a.others i j x z | inr z ↦ b.others i j x z ];
        keeps = λ i j x y z. subst (λ u. KeepsPart y u (united a.pair b.pair)) (sym e) (keeps_united y p q a.pair b.pair (a.keeps i j x y z) (b.keeps i j x y z));
      }

  -- the pairs of a formula

  module _ (t : Pair) (c : IsConsistent t) where
    -- an until row, by whether it counts and whether t fulfils it
    until_stands : (a b : Normal) → CountsAll table counted (Until a b) → HaveStandIns (pairs (place table) a) t → HaveStandIns (pairs (place table) b) t → HaveStandIns (pairs (place table) (Until a b)) t
    until_stands a b w f g p h l = elim (append_cases now later p h) [
      | inl k ↦ in_more now all t p (append_left now later) (g p k l)
      | inr k ↦ by_count k (is_counted table counted (Until a b)) refl
    ]
      where
        here : ℕ
        here = place table (Until a b)

        now : List Pair
        now = pairs (place table) b

        later : List Pair
        later = postponing_pairs table counted a b

        all : List Pair
        all = pairs (place table) (Until a b)

        -- with its own place as a target
        postponed : Has later p → ((i : Normal) → Has table.untils i → is_counted table counted i ≡ false → place table i ≡ here → is_marked table t i ≡ false) → HasStandIn all t p
        postponed k o = in_more later all t p (append_right now later) (in_join (pairs (place table) a) (later_pair here ∷ []) t c f (in_later here t o) p k l)

        -- a pair that postpones it leads to its place
        leads : Has later p → Has t.targets here
        leads k =
            let (q, r, m, n, e, d) = united_parts (pairs (place table) a) (later_pair here ∷ []) p k in
            l.targets here (subst (λ (x : Pair). Has x.targets here) (sym e) (union_right nat_linear q.targets r.targets here (at r n)))
          where
            at : (r : Pair) → Has (later_pair here ∷ []) r → Has r.targets here
            at r (inl e) = subst (λ (x : Pair). Has x.targets here) (sym e) (inl refl)
            at r (inr x) = absurd x

        -- where t fulfils it, a pair that fulfils it stands for one that postpones it, since no until row that counts needs that one
        fulfilled : Has later p → is_counted table counted (Until a b) ≡ false → is_marked table t (Until a b) ≡ true → HasStandIn all t p
        fulfilled k e d = elim (marked_cases table t (Until a b) d) [
          | inl n ↦ absurd (n (leads k))
          | inr (m, i, v) ↦
              let s = g m (fulfilling_second core a b m i) v in
              record {
                pair = s.pair;
                there = append_left now later s.pair s.there;
                less = s.less;
                others = s.others;
                keeps = λ j x y z n.
                    let apart = w.2 e j x y in
                    record { cube = λ r u o. absurd (apart.literals z p n k r u o); targets = λ r u o. absurd (apart.targets z p n k r u o) };
              }
        ]

        by_mark : Has later p → is_counted table counted (Until a b) ≡ false → (s : Bool) → is_marked table t (Until a b) ≡ s → HasStandIn all t p
        by_mark k e true d = fulfilled k e d
        by_mark k e false d = postponed k (λ i j x y. subst (λ n. is_marked table t n ≡ false) (until_alone i (Until a b) j y) d)

        by_count : Has later p → (s : Bool) → is_counted table counted (Until a b) ≡ s → HasStandIn all t p
        by_count k true e = postponed k (λ i j x y. false_is_true (sym x ∙ ap (λ n. has nat_cmp n counted) y ∙ e))
        by_count k false e = by_mark k e (is_marked table t (Until a b)) refl

    -- each pair within t has one that stands for it
    stands : (n : Normal) → CountsAll table counted n → HaveStandIns (pairs (place table) n) t
    stands Top w p (inl e) l = in_empty (pairs (place table) Top) t p empty_pair e (λ k x. x) (inl e) l
    stands Top w p (inr x) l = absurd x
    stands Bottom w p h l = absurd h
    stands (Leaf m) w p (inl e) l = in_empty (pairs (place table) (Leaf m)) t p (record { cube = m ∷ []; targets = [] }) e (λ k x. x) (inl e) l
    stands (Leaf m) w p (inr x) l = absurd x
    stands (And a b) w p h l = in_join (pairs (place table) a) (pairs (place table) b) t c (stands a w.0) (stands b w.1) p h l
    stands (Or a b) w p h l = in_append (pairs (place table) a) (pairs (place table) b) t (stands a w.0) (stands b w.1) p h l
    stands (Next a) w p h l =
        let (e, k, d) = map_cases (λ x. record { cube = []; targets = x }) (conj (place table) a) p h in
        itself (pairs (place table) (Next a)) t p h l (λ f i x y. false_is_true (sym x ∙ w f i e k (subst (λ (r : Pair). Has r.targets (place table f)) d y)))
    stands (Until a b) w p h l = until_stands a b w (stands a w.0) (stands b w.1) p h l
    stands (Release a b) w p h l =
        let later = later_pair (place table (Release a b)) ∷ [] in
        in_join (pairs (place table) b) (pairs (place table) a ++ later) t c (stands b w.1)
        (in_append (pairs (place table) a) later t (stands a w.0) (in_later (place table (Release a b)) t (λ f k x y. absurd (release_alone f a b k y)))) p h l

  -- the transitions of a set of rows

  -- v is within t and has its marks for the until rows that count. Of the others those among its targets are without a mark of t
  pub record IsReplaced (ps : List Pair) (t v : Pair) : Type 0 where
    pub there : Has ps v
    pub less : Within v t
    pub marks : (f : Normal) → Has table.untils f → is_counted table counted f ≡ true → is_marked table t f ≡ true → is_marked table v f ≡ true
    pub others : (f : Normal) → Has table.untils f → is_counted table counted f ≡ false → Has v.targets (place table f) → is_marked table t f ≡ false

  module _ (w : AreCounted table counted) where
    -- the rows that stand at places
    rows_stand : (t : Pair) → IsConsistent t → (i : ℕ) → HaveStandIns (pairs_at table i) t
    rows_stand t c i = stands t c (slice_index_or table.elementary i Bottom) (at (cases_lt i (length table.elementary)))
      where
        at : (i < length table.elementary) ⊎ (length table.elementary ≤ i) → CountsAll table counted (slice_index_or table.elementary i Bottom)
        at (inl l) = w (slice_index_or table.elementary i Bottom) (Has-at table.elementary i Bottom l)
        at (inr l) = subst (CountsAll table counted) (sym (get_or_past table.elementary i Bottom l)) tt

    -- and sets of them
    joins_stand : (t : Pair) → IsConsistent t → (e : RowSet) → HaveStandIns (join_of (pairs_at table) e) t
    joins_stand t c [] p (inl e) l = in_empty (empty_pair ∷ []) t p empty_pair e (λ k x. x) (inl e) l
    joins_stand t c [] p (inr x) l = absurd x
    joins_stand t c (i ∷ e) p h l = in_join (pairs_at table i) (join_of (pairs_at table) e) t c (rows_stand t c i) (joins_stand t c e) p h l

    -- no pair of a set of rows contradicts itself
    joins_consistent : (e : RowSet) (t : Pair) → Has (join_of (pairs_at table) e) t → IsConsistent t
    joins_consistent e = (sound_join_of (pairs_at table) (rows_sound table) e).consistent

    -- each pair of a set of rows has one that replaces it
    pub replaced : (e : RowSet) (t : Pair) → Has (join_of (pairs_at table) e) t → (v : Pair) × IsReplaced (join_of (pairs_at table) e) t v
    replaced e t h =
        let s = joins_stand t (joins_consistent e t h) e t h (within_refl t) in
        (s.pair, record { there = s.there; less = s.less; marks = marks s; others = s.others })
      where
        marks : (s : HasStandIn (join_of (pairs_at table) e) t t) → (f : Normal) → Has table.untils f → is_counted table counted f ≡ true → is_marked table t f ≡ true → is_marked table s.pair f ≡ true
        marks s f k c m = marked_from table s.pair f (elim (marked_cases table t f m) [
          | inl n ↦ inl (λ x. n (s.less.targets (place table f) x))
          | inr (q, i, v) ↦
              let a = s.keeps f k c q i in
              inr (q, i, record { cube = λ l x. a.cube l x (v.cube l x); targets = λ n x. a.targets n x (v.targets n x) })
        ])

    -- pairs that were kept by the until rows that count have all unimplied transitions
    pub counted_transitions : (e : RowSet) (qs : List Pair) → IsKept table counted (join_of (pairs_at table) e) qs → unimplied_of table (join_of (pairs_at table) e) ≡ unimplied_of table qs
    counted_transitions e qs kept = covered_transitions table ps qs (sound_join_of (pairs_at table) (rows_sound table) e).proper kept.from above
      where
        ps : List Pair
        ps = join_of (pairs_at table) e

        above : (p : Pair) → Has ps p → (q : Pair) × Has qs q × Implies (with_marks table q) (with_marks table p)
        above p h =
            let (v, r) = replaced e p h in
            let (u, j, s) = kept.covers v r.there in
            let l = safe_within table counted s in
            (u, j, marked_implies table p u (within_trans u v p l r.less) (marks v r u l s))
          where
            marks : (v : Pair) → IsReplaced ps p v → (u : Pair) → Within u v → IsSafeToDrop table counted v u → (f : Normal) → Has table.untils f → is_marked table p f ≡ true → is_marked table u f ≡ true
            marks v r u l s f k m = by_count (is_counted table counted f) refl
              where
                by_target : is_counted table counted f ≡ false → (b : Bool) → has nat_cmp (place table f) u.targets ≡ b → is_marked table u f ≡ true
                by_target e false d = marked_from table u f (inl (λ x. false_is_true (sym d ∙ (has_Decides nat_linear (place table f) u.targets).1 x)))
                by_target e true d = false_is_true (sym (r.others f k e (l.targets (place table f) ((has_Decides nat_linear (place table f) u.targets).0 d))) ∙ m)

                by_count : (b : Bool) → is_counted table counted f ≡ b → is_marked table u f ≡ true
                by_count true d = safe_marked table counted v u (joins_consistent e v r.there) s f k d (r.marks f k d m)
                by_count false e = by_target e (has nat_cmp (place table f) u.targets) refl
