-- What a program that drops pairs before the join is whole may go by.
use Rattle.std.specs.Prelude.{◌≡◌, Bool, true, IsTrue, not, ◌&&◌, List, map, filter, Some}
use Rattle.std.specs.Ordering.{nat_cmp}
use Rattle.ltl_spec.specs.Collections.Sets.{Has, set_of, has, is_subset}
use Rattle.ltl_spec.specs.Transitions.Cubes.{literal_cmp}
use Rattle.ltl_spec.specs.NormalForms.Normal.{Normal}
use Rattle.ltl_spec.specs.Transitions.Pairs.{RowSet, Pair, pair_cmp, join_pair, pairs}
use Rattle.ltl_spec.specs.Transitions.RowTransitions.{Table, place, is_marked, Transition, with_marks, unimplied_transitions}

-- whether q asks for no more than p
abbrev pub is_within : Pair → Pair → Bool
is_within q p = is_subset literal_cmp q.cube p.cube && is_subset nat_cmp q.targets p.targets

-- some of the pairs, of which each one of all has one within it
pub record IsEnough (ps qs : List Pair) : Type 0 where
  pub from : (q : Pair) → Has qs q → Has ps q
  pub covers : (p : Pair) → Has ps p → (q : Pair) × Has qs q × IsTrue (is_within q p)

module _ (table : Table) where
  -- the transitions of these pairs, without those that another one implies
  abbrev pub unimplied_of : List Pair → List Transition
  unimplied_of ps = unimplied_transitions (map (with_marks table) (set_of pair_cmp ps))

  -- the pairs that fulfil an until row without putting it off
  abbrev pub fulfilling_pairs : Normal → List Pair
  fulfilling_pairs f = filter (λ m. not (has nat_cmp (place table f) m.targets)) (pairs (place table) f)

  -- the place of the until row is among those of the until rows that count
  abbrev pub is_counted : RowSet → Normal → Bool
  is_counted counted f = has nat_cmp (place table f) counted

  -- u asks for no more than t, and whatever is joined to both: each until row that counts and that it is marked for with t, it is marked for with u
  pub record IsSafeToDrop (counted : RowSet) (t u : Pair) : Type 0 where
    pub less : IsTrue (is_within u t)
    pub marks : (x c d : Pair) → join_pair t x ≡ Some c → join_pair u x ≡ Some d
        → (f : Normal) → Has table.untils f → is_counted counted f ≡ true → is_marked table c f ≡ true → is_marked table d f ≡ true

  -- of all these pairs those were kept, each other one may be dropped for one of them
  pub record IsKept (counted : RowSet) (ps qs : List Pair) : Type 0 where
    pub from : (q : Pair) → Has qs q → Has ps q
    pub covers : (p : Pair) → Has ps p → (q : Pair) × Has qs q × IsSafeToDrop counted p q
