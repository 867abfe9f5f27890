-- Pairs that need no more than others, and joins of pairs.
use Rattle.std.proofs.Common.{◌≡◌, ℕ, Bool, true, false, cond, ◌⊎◌, inl, inr, List, [], ◌∷◌, ◌++◌, map, refl, sym, subst, Some, None, ap}
use Rattle.std.specs.Prelude.{filter_map, option_map}
use Rattle.std.specs.Ordering.{nat_cmp}
use Rattle.std.proofs.lemmas.Option.{none-some}
use Rattle.ltl_spec.specs.Collections.Sets.{Has, IsRising, union}
use Rattle.ltl_spec.specs.Transitions.Cubes.{literal_cmp, is_contradictory, Cube}
use Rattle.ltl_spec.specs.NormalForms.Normal.{Normal, Top, Bottom, Leaf, Next, And, Or, Until, Release}
use Rattle.ltl_spec.specs.Transitions.Pairs.{RowSet, Pair, join_pair, join, empty_pair, later_pair, conj, pairs}
use Rattle.ltl_spec.proofs.Collections.SetLaws.{append_cases, union_left, union_right, IsRising-union, union_cases}
use Rattle.ltl_spec.proofs.Collections.Orders.{nat_linear, literal_linear}
use Rattle.ltl_spec.proofs.Collections.MemberLaws.{Has-flat_map, flat_map_cases, Has-filter_map, filter_map_cases, map_cases}
pub use Rattle.ltl_spec.specs.Transitions.Pairs.{Within}

-- to ask for no more is an order
pub within_refl : (p : Pair) → Within p p
within_refl p = record { cube = λ l h. h; targets = λ k h. h }

pub within_trans : (p q r : Pair) → Within p q → Within q r → Within p r
within_trans p q r f g = record { cube = λ l h. g.cube l (f.cube l h); targets = λ k h. g.targets k (f.targets k h) }

-- one of the pairs asks for no more than p
abbrev pub SomeWithin : List Pair → Pair → Type 0
SomeWithin ps p = (q : Pair) × Has ps q × Within q p

-- what two pairs ask for
abbrev pub united : Pair → Pair → Pair
united p q = record { cube = union literal_cmp p.cube q.cube; targets = union nat_cmp p.targets q.targets }

-- each of two pairs asks for no more than both
pub within_left : (p q : Pair) → Within p (united p q)
within_left p q = record { cube = λ l h. union_left literal_linear p.cube q.cube l h; targets = λ k h. union_left nat_linear p.targets q.targets k h }

pub within_right : (p q : Pair) → Within q (united p q)
within_right p q = record { cube = λ l h. union_right literal_linear p.cube q.cube l h; targets = λ k h. union_right nat_linear p.targets q.targets k h }

-- the literals of the pair don't contradict each other
abbrev pub IsConsistent : Pair → Type 0
IsConsistent p = is_contradictory p.cube ≡ false

-- a joined pair is consistent, and unites both
pub join_pair_is : (p q r : Pair) → join_pair p q ≡ Some r → (r ≡ united p q) × IsConsistent (united p q)
join_pair_is p q r e = at (is_contradictory (union literal_cmp p.cube q.cube)) refl e
  where
    at : (t : Bool) → is_contradictory (union literal_cmp p.cube q.cube) ≡ t
        → option_map (λ (c : Cube). record { cube = c; targets = union nat_cmp p.targets q.targets }) (cond t None (Some (union literal_cmp p.cube q.cube))) ≡ Some r
        → (r ≡ united p q) × (is_contradictory (union literal_cmp p.cube q.cube) ≡ false)
    at true n d = absurd (none-some r d)
    at false n d = (cc, n)

-- consistent pairs join
pub joined_from : (p q : Pair) → IsConsistent (united p q) → join_pair p q ≡ Some (united p q)
joined_from p q n =
    ap (λ t. option_map (λ (c : Cube). record { cube = c; targets = union nat_cmp p.targets q.targets }) (cond t None (Some (union literal_cmp p.cube q.cube)))) n

-- what unites two is within what both are within
pub united_least : (p q r : Pair) → Within p r → Within q r → Within (united p q) r
united_least p q r v w = record {
  cube = λ l h. elim (union_cases literal_linear p.cube q.cube l h) [ inl k ↦ v.cube l k | inr k ↦ w.cube l k ];
  targets = λ i h. elim (union_cases nat_linear p.targets q.targets i h) [ inl k ↦ v.targets i k | inr k ↦ w.targets i k ];
}

-- a pair of a join joins one of each side
pub join_parts : (ps qs : List Pair) (r : Pair) → Has (join ps qs) r → (p : Pair) × (q : Pair) × Has ps p × Has qs q × (join_pair p q ≡ Some r)
join_parts ps qs r h =
    let (p, k, n) = flat_map_cases (λ x. filter_map (join_pair x) qs) ps r h in
    let (q, m, e) = filter_map_cases (join_pair p) qs r n in
    (p, q, k, m, e)

-- so it unites one of each side
pub join_cases : (ps qs : List Pair) (r : Pair) → Has (join ps qs) r → (p : Pair) × (q : Pair) × Has ps p × Has qs q × (r ≡ united p q)
join_cases ps qs r h = let (p, q, k, m, e) = join_parts ps qs r h in (p, q, k, m, (join_pair_is p q r e).0)

-- two pairs that join are in the join
pub Has-join : (ps qs : List Pair) (p q r : Pair) → Has ps p → Has qs q → join_pair p q ≡ Some r → Has (join ps qs) r
Has-join ps qs p q r h k e = Has-flat_map (λ p'. filter_map (join_pair p') qs) ps p r h (Has-filter_map (join_pair p) qs q r k e)

-- what is above a pair of a join is above one of each side
pub join_within : (ps qs : List Pair) (p : Pair) → SomeWithin (join ps qs) p → SomeWithin ps p × SomeWithin qs p
join_within ps qs p (r, h, w) =
    let (a, b, k, m, e) = join_cases ps qs r h in
    let v = subst (λ x. Within x p) e w in
    ((a, k, within_trans a (united a b) p (within_left a b) v), (b, m, within_trans b (united a b) p (within_right a b) v))

-- of two lists in a row one has the pair
pub append_within : (ps qs : List Pair) (p : Pair) → SomeWithin (ps ++ qs) p → SomeWithin ps p ⊎ SomeWithin qs p
append_within ps qs p (r, h, w) = elim (append_cases ps qs r h) [ inl k ↦ inl (r, k, w) | inr k ↦ inr (r, k, w) ]

-- the one pair that asks for a row next
pub later_within : (i : ℕ) (p : Pair) → SomeWithin (later_pair i ∷ []) p → Has p.targets i
later_within i p (q, inl e, w) = w.targets i (subst (λ (x : Pair). Has x.targets i) (sym e) (inl refl))
later_within i p (q, inr x, w) = absurd x

-- the literals and the targets are sets
pub record IsProper (p : Pair) : Type 0 where
  pub cube : IsRising literal_cmp p.cube
  pub targets : IsRising nat_cmp p.targets

-- uniting, joining and appending keep sets
proper_united : (p q : Pair) → IsProper q → IsProper (united p q)
proper_united p q w = record { cube = IsRising-union literal_linear p.cube q.cube w.cube; targets = IsRising-union nat_linear p.targets q.targets w.targets }

-- all pairs of a list have sets
abbrev pub AllProper : List Pair → Type 0
AllProper ps = (p : Pair) → Has ps p → IsProper p

pub proper_join : (ps qs : List Pair) → AllProper qs → AllProper (join ps qs)
proper_join ps qs f r h = let (a, b, k, m, e) = join_cases ps qs r h in subst IsProper (sym e) (proper_united a b (f b m))

proper_append : (ps qs : List Pair) → AllProper ps → AllProper qs → AllProper (ps ++ qs)
proper_append ps qs f g r h = elim (append_cases ps qs r h) [ inl k ↦ f r k | inr k ↦ g r k ]

-- the pairs of one row or none have sets
proper_later : (i : ℕ) → AllProper (later_pair i ∷ [])
proper_later i r (inl e) = subst IsProper (sym e) (record { cube = tt; targets = (tt, tt) })
proper_later i r (inr x) = absurd x

pub proper_nothing : AllProper (empty_pair ∷ [])
proper_nothing r (inl e) = subst IsProper (sym e) (record { cube = tt; targets = tt })
proper_nothing r (inr x) = absurd x

module _ (place : Normal → ℕ) where
  -- one row alone is a set
  single_rises : (i : ℕ) (e : RowSet) → Has ((i ∷ []) ∷ []) e → IsRising nat_cmp e
  single_rises i e (inl d) = subst (IsRising nat_cmp) (sym d) (tt, tt)
  single_rises i e (inr x) = absurd x

  -- the sets of rows of a formula are sets
  pub conj_rises : (F : Normal) (e : RowSet) → Has (conj place F) e → IsRising nat_cmp e
  conj_rises Top e (inl d) = subst (IsRising nat_cmp) (sym d) tt
  conj_rises Top e (inr x) = absurd x
  conj_rises Bottom e h = absurd h
  conj_rises (Leaf l) e h = single_rises (place (Leaf l)) e h
  conj_rises (Next a) e h = single_rises (place (Next a)) e h
  conj_rises (Until a b) e h = single_rises (place (Until a b)) e h
  conj_rises (Release a b) e h = single_rises (place (Release a b)) e h
  conj_rises (Or a b) e h = elim (append_cases (conj place a) (conj place b) e h) [ inl k ↦ conj_rises a e k | inr k ↦ conj_rises b e k ]
  conj_rises (And a b) e h =
      let (d, k, m) = flat_map_cases (λ d'. map (union nat_cmp d') (conj place b)) (conj place a) e h in
      let (c, n, q) = map_cases (union nat_cmp d) (conj place b) e m in
      subst (IsRising nat_cmp) (sym q) (IsRising-union nat_linear d c (conj_rises b c n))

  -- the pairs of a formula have sets
  pub pairs_proper : (F : Normal) → AllProper (pairs place F)
  pairs_proper Top r h = proper_nothing r h
  pairs_proper Bottom r h = absurd h
  pairs_proper (Leaf l) r (inl e) = subst IsProper (sym e) (record { cube = (tt, tt); targets = tt })
  pairs_proper (Leaf l) r (inr x) = absurd x
  pairs_proper (And a b) r h = proper_join (pairs place a) (pairs place b) (pairs_proper b) r h
  pairs_proper (Or a b) r h = proper_append (pairs place a) (pairs place b) (pairs_proper a) (pairs_proper b) r h
  pairs_proper (Next a) r h =
      let (e, k, d) = map_cases (λ x. record { cube = []; targets = x }) (conj place a) r h in
      subst IsProper (sym d) (record { cube = tt; targets = conj_rises a e k })
  pairs_proper (Until a b) r h =
      proper_append (pairs place b) (join (pairs place a) (later_pair (place (Until a b)) ∷ [])) (pairs_proper b)
      (proper_join (pairs place a) (later_pair (place (Until a b)) ∷ []) (proper_later (place (Until a b)))) r h
  pairs_proper (Release a b) r h =
      proper_join (pairs place b) (pairs place a ++ later_pair (place (Release a b)) ∷ [])
      (proper_append (pairs place a) (later_pair (place (Release a b)) ∷ []) (pairs_proper a) (proper_later (place (Release a b)))) r h
