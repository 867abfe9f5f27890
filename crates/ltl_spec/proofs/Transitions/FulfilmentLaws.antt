-- A pair passes the test of a formula if and only if it needs everything that some pair of the formula needs. So tests decide the marks.
use Rattle.std.proofs.Common.{◌≡◌, ℕ, Bool, true, false, not, ◌||◌, ◌⊎◌, inl, inr, List, [], ◌∷◌, ◌++◌, map, refl, sym, ◌∙◌, ap, subst}
use Rattle.std.specs.Bool.{Decides}
use Rattle.std.specs.List.{list_any}
use Rattle.std.specs.Ordering.{nat_cmp}
use Rattle.std.proofs.lemmas.Bool.{or_cases, or_left, or_right}
use Rattle.std.proofs.lemmas.Bool.Decides.{Decides-and, Decides-or, Decides-like, same_from_decides}
use Rattle.ltl_spec.specs.Collections.Sets.{Has, has, union}
use Rattle.ltl_spec.specs.Transitions.Cubes.{Literal, literal_cmp}
use Rattle.ltl_spec.specs.NormalForms.Normal.{Normal, Top, Bottom, Leaf, Next, And, Or, Until, Release, same}
use Rattle.ltl_spec.specs.NormalForms.NormalForm.{is_until, rows, until_rows, postorder}
use Rattle.ltl_spec.specs.Transitions.Pairs.{RowSet, Pair, Within, join, later_pair, conj, pairs}
use Rattle.ltl_spec.specs.Transitions.RowTransitions.{Table, table_of, place, is_marked}
use Rattle.ltl_spec.specs.Transitions.Pruning.{is_within, fulfilling_pairs, IsEnough}
use Rattle.ltl_spec.proofs.Collections.SetLaws.{has_Decides, append_cases, append_left, append_right, union_cases, union_left, union_right, filter_cases}
use Rattle.ltl_spec.proofs.Collections.MemberLaws.{Has-map, map_cases, Has-flat_map, flat_map_cases, any_cases, any_true}
use Rattle.ltl_spec.proofs.Collections.ListLaws.{first_occurrences_cases}
use Rattle.ltl_spec.proofs.Collections.Orders.{nat_linear, literal_linear}
use Rattle.ltl_spec.proofs.Collections.CaseLaws.{false_is_true}
use Rattle.ltl_spec.proofs.NormalForms.NormalLaws.{same_Decides}
use Rattle.ltl_spec.proofs.Transitions.UnimpliedLaws.{not_cases}
use Rattle.ltl_spec.proofs.Transitions.JoinLaws.{SomeWithin, within_refl, IsConsistent, united, united_least, join_within, append_within, later_within}
use Rattle.ltl_spec.proofs.Transitions.SafeLaws.{consistent_within}
use Rattle.ltl_spec.proofs.Transitions.SameJoins.{Has-united}
use Rattle.ltl_spec.proofs.Transitions.LeastPairs.{is_within_Decides, enough_from, fulfilling_cases, Has-fulfilling, marked_by_enough}
use Rattle.ltl_spec.proofs.Transitions.PartLaws.{AllParts, IsRow, all_rows, part_parts}
use Rattle.ltl_spec.proofs.Semantics.TargetLaws.{second_not_later}
use Rattle.ltl_spec.proofs.Transitions.Fulfilment.{Test, Always, Never, Reads, Leads, Both, Either, passes, literals_of, targets_of, set_test, pair_test, until_test}

-- the pair asks for what the test wants
abbrev pub Passes : Pair → Test → Type 0
Passes p Always = Unit {0}
Passes p Never = ⊥
Passes p (Reads l) = Has p.cube l
Passes p (Leads k) = Has p.targets k
Passes p (Both a b) = Passes p a × Passes p b
Passes p (Either a b) = Passes p a ⊎ Passes p b

pub passes_Decides : (p : Pair) (a : Test) → Decides (passes p a) (Passes p a)
passes_Decides p Always = ((λ e. tt), λ h. refl)
passes_Decides p Never = ((λ e. false_is_true e), λ h. absurd h)
passes_Decides p (Reads l) = has_Decides literal_linear l p.cube
passes_Decides p (Leads k) = has_Decides nat_linear k p.targets
passes_Decides p (Both a b) = Decides-and (passes p a) (passes p b) (passes_Decides p a) (passes_Decides p b)
passes_Decides p (Either a b) = Decides-or (passes p a) (passes p b) (passes_Decides p a) (passes_Decides p b)

-- what asks for all that the test speaks of and that p asks for passes where p does
pub leaves_through : (p q : Pair) (a : Test) → ((l : Literal) → Has (literals_of a) l → Has p.cube l → Has q.cube l) → ((k : ℕ) → Has (targets_of a) k → Has p.targets k → Has q.targets k)
    → Passes p a → Passes q a
leaves_through p q Always f g h = h
leaves_through p q Never f g h = h
leaves_through p q (Reads l) f g h = f l (inl refl) h
leaves_through p q (Leads k) f g h = g k (inl refl) h
leaves_through p q (Both a b) f g h = (
  leaves_through p q a (λ l k. f l (append_left (literals_of a) (literals_of b) l k)) (λ i k. g i (append_left (targets_of a) (targets_of b) i k)) h.0,
  leaves_through p q b (λ l k. f l (append_right (literals_of a) (literals_of b) l k)) (λ i k. g i (append_right (targets_of a) (targets_of b) i k)) h.1,
)
leaves_through p q (Either a b) f g (inl h) =
    inl (leaves_through p q a (λ l k. f l (append_left (literals_of a) (literals_of b) l k)) (λ i k. g i (append_left (targets_of a) (targets_of b) i k)) h)
leaves_through p q (Either a b) f g (inr h) =
    inr (leaves_through p q b (λ l k. f l (append_right (literals_of a) (literals_of b) l k)) (λ i k. g i (append_right (targets_of a) (targets_of b) i k)) h)

-- so what asks for more passes too
pub passes_more : (p q : Pair) (a : Test) → Within p q → Passes p a → Passes q a
passes_more p q a w h = leaves_through p q a (λ l _. w.cube l) (λ k _. w.targets k) h

-- the tests of a join, of lists in a row and of a row next, at a pair that doesn't contradict itself
module _ (p : Pair) where
  join_Decides : IsConsistent p → (ps qs : List Pair) (a b : Test) → Decides (passes p a) (SomeWithin ps p) → Decides (passes p b) (SomeWithin qs p) → Decides (passes p (Both a b)) (SomeWithin (join ps qs) p)
  join_Decides c ps qs a b d e = Decides-like (passes p (Both a b)) there (join_within ps qs p) (Decides-and (passes p a) (passes p b) d e)
    where
      there : SomeWithin ps p × SomeWithin qs p → SomeWithin (join ps qs) p
      there ((q, h, v), (r, k, w)) =
          let l = united_least q r p v w in
          (united q r, Has-united ps qs q r h k (consistent_within (united q r) p l c), l)

  append_Decides : (ps qs : List Pair) (a b : Test) → Decides (passes p a) (SomeWithin ps p) → Decides (passes p b) (SomeWithin qs p) → Decides (passes p (Either a b)) (SomeWithin (ps ++ qs) p)
  append_Decides ps qs a b d e = Decides-like (passes p (Either a b)) there (append_within ps qs p) (Decides-or (passes p a) (passes p b) d e)
    where
      there : SomeWithin ps p ⊎ SomeWithin qs p → SomeWithin (ps ++ qs) p
      there (inl (q, h, w)) = (q, append_left ps qs q h, w)
      there (inr (q, h, w)) = (q, append_right ps qs q h, w)

  later_Decides : (i : ℕ) → Decides (passes p (Leads i)) (SomeWithin (later_pair i ∷ []) p)
  later_Decides i = Decides-like (has nat_cmp i p.targets) there (later_within i p) (has_Decides nat_linear i p.targets)
    where
      there : Has p.targets i → SomeWithin (later_pair i ∷ []) p
      there h = (later_pair i, inl refl, record { cube = λ l k. absurd k; targets = λ k. elim [ inl e ↦ subst (Has p.targets) (sym e) h | inr z ↦ absurd z ] })

-- one of the sets of rows is among these
abbrev pub SomeSet : List RowSet → RowSet → Type 0
SomeSet es rs = (e : RowSet) × Has es e × ((k : ℕ) → Has e k → Has rs k)

module _ (place : Normal → ℕ) where
  -- a row alone
  single_Decides : (i : ℕ) (rs : RowSet) → Decides (has nat_cmp i rs) (SomeSet ((i ∷ []) ∷ []) rs)
  single_Decides i rs = Decides-like (has nat_cmp i rs) there back (has_Decides nat_linear i rs)
    where
      there : Has rs i → SomeSet ((i ∷ []) ∷ []) rs
      there h = (i ∷ [], inl refl, λ k. elim [ inl e ↦ subst (Has rs) (sym e) h | inr z ↦ absurd z ])

      back : SomeSet ((i ∷ []) ∷ []) rs → Has rs i
      back (e, inl d, w) = w i (subst (λ x. Has x i) (sym d) (inl refl))
      back (e, inr z, w) = absurd z

  -- the test of sets of rows is right
  pub set_test_Decides : (p : Pair) (n : Normal) → Decides (passes p (set_test place n)) (SomeSet (conj place n) p.targets)
  set_test_Decides p Top = ((λ e. ([], inl refl, λ k h. absurd h)), λ h. refl)
  set_test_Decides p Bottom = ((λ e. false_is_true e), λ (e, h, w). absurd h)
  set_test_Decides p (Leaf l) = single_Decides (place (Leaf l)) p.targets
  set_test_Decides p (Next a) = single_Decides (place (Next a)) p.targets
  set_test_Decides p (Until a b) = single_Decides (place (Until a b)) p.targets
  set_test_Decides p (Release a b) = single_Decides (place (Release a b)) p.targets
  set_test_Decides p (Or a b) =
      Decides-like (passes p (set_test place (Or a b))) there back
      (Decides-or (passes p (set_test place a)) (passes p (set_test place b)) (set_test_Decides p a) (set_test_Decides p b))
    where
      there : SomeSet (conj place a) p.targets ⊎ SomeSet (conj place b) p.targets → SomeSet (conj place (Or a b)) p.targets
      there (inl (e, h, w)) = (e, append_left (conj place a) (conj place b) e h, w)
      there (inr (e, h, w)) = (e, append_right (conj place a) (conj place b) e h, w)

      back : SomeSet (conj place (Or a b)) p.targets → SomeSet (conj place a) p.targets ⊎ SomeSet (conj place b) p.targets
      back (e, h, w) = elim (append_cases (conj place a) (conj place b) e h) [ inl k ↦ inl (e, k, w) | inr k ↦ inr (e, k, w) ]
  set_test_Decides p (And a b) =
      Decides-like (passes p (set_test place (And a b))) there back
      (Decides-and (passes p (set_test place a)) (passes p (set_test place b)) (set_test_Decides p a) (set_test_Decides p b))
    where
      there : SomeSet (conj place a) p.targets × SomeSet (conj place b) p.targets → SomeSet (conj place (And a b)) p.targets
      there ((d, h, v), (e, k, w)) = (
        union nat_cmp d e,
        Has-flat_map (λ x. map (union nat_cmp x) (conj place b)) (conj place a) d (union nat_cmp d e) h (Has-map (union nat_cmp d) (conj place b) e k),
        λ i m. elim (union_cases nat_linear d e i m) [ inl n ↦ v i n | inr n ↦ w i n ],
      )

      back : SomeSet (conj place (And a b)) p.targets → SomeSet (conj place a) p.targets × SomeSet (conj place b) p.targets
      back (c, h, w) =
          let (d, k, x) = flat_map_cases (λ y. map (union nat_cmp y) (conj place b)) (conj place a) c h in
          let (e, m, q) = map_cases (union nat_cmp d) (conj place b) c x in
          let v = subst (λ y. (i : ℕ) → Has y i → Has p.targets i) q w in
          ((d, k, λ i n. v i (union_left nat_linear d e i n)), (e, m, λ i n. v i (union_right nat_linear d e i n)))

  -- so is the test of pairs, at a pair that doesn't contradict itself
  pub pair_test_Decides : (p : Pair) → IsConsistent p → (n : Normal) → Decides (passes p (pair_test place n)) (SomeWithin (pairs place n) p)
  pair_test_Decides p c Top = ((λ e. (record { cube = []; targets = [] }, inl refl, record { cube = λ l h. absurd h; targets = λ k h. absurd h })), λ h. refl)
  pair_test_Decides p c Bottom = ((λ e. false_is_true e), λ (q, h, w). absurd h)
  pair_test_Decides p c (Leaf l) = Decides-like (has literal_cmp l p.cube) there back (has_Decides literal_linear l p.cube)
    where
      there : Has p.cube l → SomeWithin (pairs place (Leaf l)) p
      there h = (record { cube = l ∷ []; targets = [] }, inl refl, record { cube = λ m. elim [ inl e ↦ subst (Has p.cube) (sym e) h | inr z ↦ absurd z ]; targets = λ k z. absurd z })

      back : SomeWithin (pairs place (Leaf l)) p → Has p.cube l
      back (q, inl e, w) = w.cube l (subst (λ (x : Pair). Has x.cube l) (sym e) (inl refl))
      back (q, inr z, w) = absurd z
  pair_test_Decides p c (And a b) = join_Decides p c (pairs place a) (pairs place b) (pair_test place a) (pair_test place b) (pair_test_Decides p c a) (pair_test_Decides p c b)
  pair_test_Decides p c (Or a b) = append_Decides p (pairs place a) (pairs place b) (pair_test place a) (pair_test place b) (pair_test_Decides p c a) (pair_test_Decides p c b)
  pair_test_Decides p c (Next a) = Decides-like (passes p (set_test place a)) there back (set_test_Decides p a)
    where
      there : SomeSet (conj place a) p.targets → SomeWithin (pairs place (Next a)) p
      there (e, h, w) = (record { cube = []; targets = e }, Has-map (λ x. record { cube = []; targets = x }) (conj place a) e h, record { cube = λ l z. absurd z; targets = w })

      back : SomeWithin (pairs place (Next a)) p → SomeSet (conj place a) p.targets
      back (q, h, w) =
          let (e, k, d) = map_cases (λ x. record { cube = []; targets = x }) (conj place a) q h in
          (e, k, λ i m. w.targets i (subst (λ (x : Pair). Has x.targets i) (sym d) m))
  pair_test_Decides p c (Until a b) =
      let later = place (Until a b) in
      append_Decides p (pairs place b) (join (pairs place a) (later_pair later ∷ [])) (pair_test place b) (Both (pair_test place a) (Leads later)) (pair_test_Decides p c b)
      (join_Decides p c (pairs place a) (later_pair later ∷ []) (pair_test place a) (Leads later) (pair_test_Decides p c a) (later_Decides p later))
  pair_test_Decides p c (Release a b) =
      let later = place (Release a b) in
      join_Decides p c (pairs place b) (pairs place a ++ later_pair later ∷ []) (pair_test place b) (Either (pair_test place a) (Leads later)) (pair_test_Decides p c b)
      (append_Decides p (pairs place a) (later_pair later ∷ []) (pair_test place a) (Leads later) (pair_test_Decides p c a) (later_Decides p later))

  -- the test of pairs finds one of them
  pub passes_pairs : (p : Pair) → IsConsistent p → (n : Normal) → passes p (pair_test place n) ≡ list_any (λ q. is_within q p) (pairs place n)
  passes_pairs p c n = same_from_decides (passes p (pair_test place n)) (list_any (λ q. is_within q p) (pairs place n)) (pair_test_Decides p c n) (there, back)
    where
      there : list_any (λ q. is_within q p) (pairs place n) ≡ true → SomeWithin (pairs place n) p
      there d = let (q, h, w) = any_cases (λ q. is_within q p) (pairs place n) d in (q, h, (is_within_Decides q p).0 w)

      back : SomeWithin (pairs place n) p → list_any (λ q. is_within q p) (pairs place n) ≡ true
      back (q, h, w) = any_true (λ q. is_within q p) (pairs place n) q h ((is_within_Decides q p).1 w)

-- marks

-- an until row by its operands
pub until_parts : (f : Normal) → is_until f ≡ true → (a : Normal) × (b : Normal) × (f ≡ Until a b)
until_parts (Until a b) e = (a, b, refl)
until_parts _ e = false_is_true e

module _ (core : Normal) where
  -- all parts of an until row of the table are rows
  pub until_row_parts : (f : Normal) → Has (until_rows core) f → (a : Normal) × (b : Normal) × (f ≡ Until a b) × AllParts (IsRow core) (Until a b)
  until_row_parts f h =
      let c = filter_cases is_until (rows core) f h in
      let (a, b, e) = until_parts f c.1 in
      let w = part_parts (IsRow core) core f (all_rows core) (first_occurrences_cases same same_Decides (postorder core) f c.0) in
      (a, b, e, subst (AllParts (IsRow core)) e w)

  -- the pairs that fulfil an until row without putting it off are those of its second operand
  pub fulfilling_second : (a b : Normal) → (q : Pair) → Has (fulfilling_pairs (table_of core) (Until a b)) q → Has (pairs (place (table_of core)) b) q
  fulfilling_second a b q h =
      let at = place (table_of core) in
      let later = later_pair (at (Until a b)) ∷ [] in
      let c = fulfilling_cases (table_of core) (Until a b) q h in
      elim (append_cases (pairs at b) (join (pairs at a) later) q c.0) [
        | inl k ↦ k
        | inr k ↦ absurd (c.1 (later_within (at (Until a b)) q (join_within (pairs at a) later q (q, k, within_refl q)).1))
      ]

  -- and those are enough
  pub second_enough : (a b : Normal) → AllParts (IsRow core) (Until a b) → IsEnough (fulfilling_pairs (table_of core) (Until a b)) (pairs (place (table_of core)) b)
  second_enough a b w = enough_from (fulfilling_pairs (table_of core) (Until a b)) (pairs at b) from (λ q h. (q, fulfilling_second a b q h, within_refl q))
    where
      at : Normal → ℕ
      at = place (table_of core)

      from : (q : Pair) → Has (pairs at b) q → Has (fulfilling_pairs (table_of core) (Until a b)) q
      from q h = Has-fulfilling (table_of core) (Until a b) q (append_left (pairs at b) (join (pairs at a) (later_pair (at (Until a b)) ∷ [])) q h) (second_not_later core a b w q h)

  module _ (f : Normal) (h : Has (until_rows core) f) (p : Pair) (c : IsConsistent p) where
    -- a pair that doesn't contradict itself is marked for an until row where the row is no target, or the pair passes the row's test
    pub marked_by_test : is_marked (table_of core) p f ≡ (not (has nat_cmp (place (table_of core) f) p.targets) || passes p (until_test (place (table_of core)) f))
    marked_by_test =
        let (a, b, e, w) = until_row_parts f h in
        subst (λ g. is_marked table p g ≡ (not (has nat_cmp (place table g) p.targets) || passes p (until_test (place table) g))) (sym e)
        (marked_by_enough table (Until a b) (pairs (place table) b) (second_enough a b w) p
        ∙ ap (λ x. not (has nat_cmp (place table (Until a b)) p.targets) || x) (sym (passes_pairs (place table) p c b)))
      where
        table : Table
        table = table_of core

    -- so a marked one with the row as a target passes
    pub marked_passes : is_marked (table_of core) p f ≡ true → Has p.targets (place (table_of core) f) → Passes p (until_test (place (table_of core)) f)
    marked_passes m k = elim (or_cases (not (has nat_cmp (place (table_of core) f) p.targets)) (passes p (until_test (place (table_of core)) f)) (sym marked_by_test ∙ m)) [
      | inl n ↦ absurd (not_cases (has nat_cmp (place (table_of core) f) p.targets) n ((has_Decides nat_linear (place (table_of core) f) p.targets).1 k))
      | inr e ↦ (passes_Decides p (until_test (place (table_of core)) f)).0 e
    ]

    -- and one that passes where the row is a target is marked
    pub passes_marked : (Has p.targets (place (table_of core) f) → Passes p (until_test (place (table_of core)) f)) → is_marked (table_of core) p f ≡ true
    passes_marked g = marked_by_test ∙ at (has nat_cmp (place (table_of core) f) p.targets) refl
      where
        at : (b : Bool) → has nat_cmp (place (table_of core) f) p.targets ≡ b → (not (has nat_cmp (place (table_of core) f) p.targets) || passes p (until_test (place (table_of core)) f)) ≡ true
        at false e = or_left (not (has nat_cmp (place (table_of core) f) p.targets)) (passes p (until_test (place (table_of core)) f)) (ap not e)
        at true e =
            or_right (not (has nat_cmp (place (table_of core) f) p.targets)) (passes p (until_test (place (table_of core)) f))
            ((passes_Decides p (until_test (place (table_of core)) f)).1 (g ((has_Decides nat_linear (place (table_of core) f) p.targets).0 e)))
