-- Which until rows count: what the pairs and the sets of each row need, what a round adds, and that rounds end.
use Rattle.std.proofs.Common.{◌≡◌, ℕ, zero, suc, ◌+◌, ◌<◌, ◌≤◌, Bool, true, false, cond, ◌&&◌, ◌||◌, inl, inr, List, [], ◌∷◌, length, map, refl, sym, ◌∙◌, ap, subst, arith, eqb, Some}
use Rattle.std.specs.Prelude.{slice_get, slice_index_or}
use Rattle.std.specs.List.{list_all}
use Rattle.std.specs.Ordering.{nat_cmp}
use Rattle.std.proofs.lemmas.Bool.Decides.{Decides-eqb}
use Rattle.std.proofs.lemmas.Option.{slice_get-get_or}
use Rattle.ltl_spec.specs.Collections.Lists.{place_of}
use Rattle.ltl_spec.specs.Collections.Sets.{Has, has, union, is_subset, IsRising}
use Rattle.ltl_spec.specs.NormalForms.Normal.{Normal, Top, Bottom, Leaf, Next, And, Or, Until, Release, same}
use Rattle.ltl_spec.specs.NormalForms.NormalForm as normal
use Rattle.ltl_spec.specs.Transitions.Cubes.{Literal}
use Rattle.ltl_spec.specs.Transitions.CountedUntils.{SharesNothing, CountsAll, AreCounted}
use Rattle.ltl_spec.specs.Transitions.Pairs as spec
use Rattle.ltl_spec.specs.Transitions.Pruning.{is_counted, fulfilling_pairs}
use Rattle.ltl_spec.specs.Transitions.RowTransitions.{Table, place}
use Rattle.ltl_spec.proofs.Collections.CaseLaws.{false_is_true, below_or_last, last_or_below}
use Rattle.ltl_spec.proofs.Collections.ListLaws.{at_place, place_below, place_same, numbered_short}
use Rattle.ltl_spec.proofs.Collections.MemberLaws.{Has-map}
use Rattle.ltl_spec.proofs.Collections.Orders.{nat_linear}
use Rattle.ltl_spec.proofs.Collections.ProductLists.{rising_once}
use Rattle.ltl_spec.proofs.Collections.SetLaws.{append_cases, append_left, append_right, has_Decides, is_subset_Decides, union_left, union_right, filter_cases}
use Rattle.ltl_spec.proofs.NormalForms.NormalLaws.{same_Decides}
use Rattle.ltl_spec.proofs.NormalForms.SharedNodes.{tree_of}
use Rattle.ltl_spec.proofs.Transitions.Fulfilment as test
use Rattle.ltl_spec.proofs.Transitions.Fulfilment.{Test, literals_of, targets_of}
use Rattle.ltl_spec.proofs.Transitions.IndependenceTests.{Support, of_sign, support_of, together, shares_some, Covers, covers_one, within_sign, within_together_left, within_together_right, shares_sign, shares_row}
use Rattle.ltl_spec.proofs.Transitions.IndependentPairs.{Asks, Leads as LeadTo, asks_join, leads_join, asks_nothing, leads_nothing}
use Rattle.ltl_spec.proofs.Transitions.SupportTests.{TellsOf}
use Rattle.ltl_formula.specs.SharedNodesView.{node_of, IsBelow}
use Rattle.ltl_formula.specs.TableView.{TableView, IsTable, row_tree, core_of, is_until_row, is_elementary_row}
use Rattle.ltl_formula.specs.declared.row.Row.{Row}
use Rattle.ltl_formula.specs.declared.row.Row.TheVariants as row
use Rattle.ltl_alt.specs.CountedView.{support_at, postponing_support, places_added, IsClosed, AreClosed, IsRound}
use Rattle.ltl_alt.specs.RowLists.{row_place}
use Rattle.ltl_alt.specs.Steps.{IsWholeProgram, steps_at}
use Rattle.ltl_alt.specs.TestPairs.{dnf}
use Rattle.ltl_alt.specs.Tests.{AreLeaves, test_of}
use Rattle.ltl_alt.specs.TransitionView.{table_at}
use Rattle.ltl_alt.specs.declared.program.RowSteps.{RowSteps}
use Rattle.ltl_alt.specs.declared.program.Step.{Step}
use Rattle.ltl_alt.proofs.ElementaryLaws.{kind_stands}
use Rattle.ltl_alt.proofs.RowLaws.{rows_count}
use Rattle.ltl_alt.proofs.TestPairLaws.{dnf_pairs, dnf_sets, next_pair}
use Rattle.ltl_alt.proofs.TreeLaws.{row_tree_is}

-- ---- supports of lists

covers_join : (a b : Support) (ps qs : List spec.Pair) → Covers a ps → Covers b qs → Covers (together a b) (spec.join ps qs)
covers_join a b ps qs c d = record {
  literals = λ l w. elim (asks_join ps qs l w) [
    | inl h ↦ within_sign a (together a b) (within_together_left a b) l.positive l.proposition (c.literals l h)
    | inr h ↦ within_sign b (together a b) (within_together_right a b) l.positive l.proposition (d.literals l h)
  ];
  rows = λ k w. elim (leads_join ps qs k w) [
    | inl h ↦ union_left nat_linear a.targets b.targets k (c.rows k h)
    | inr h ↦ union_right nat_linear a.targets b.targets k (d.rows k h)
  ];
}

-- all that the pairs of a test need is what the test speaks of
covers_dnf : (a : Test) (v : Support) → TellsOf v a → Covers v (dnf a)
covers_dnf test.Always v w = record { literals = λ l h. absurd (asks_nothing l h); rows = λ k h. absurd (leads_nothing k h) }
covers_dnf test.Never v w = record { literals = λ l h. absurd h.1; rows = λ k h. absurd h.1 }
covers_dnf (test.Reads l) v w = record { literals = literals; rows = rows }
  where
    literals : (m : Literal) → Asks (dnf (test.Reads l)) m → Has (of_sign m.positive v) m.proposition
    literals m (p, inl e, k) = w.literals m (subst (λ (x : spec.Pair). Has x.cube m) e k)
    literals m (p, inr z, k) = absurd z

    rows : (k : ℕ) → LeadTo (dnf (test.Reads l)) k → Has v.targets k
    rows k (p, inl e, h) = absurd (subst (λ (x : spec.Pair). Has x.targets k) e h)
    rows k (p, inr z, h) = absurd z
covers_dnf (test.Leads i) v w = record { literals = literals; rows = rows }
  where
    literals : (m : Literal) → Asks (dnf (test.Leads i)) m → Has (of_sign m.positive v) m.proposition
    literals m (p, inl e, k) = absurd (subst (λ (x : spec.Pair). Has x.cube m) e k)
    literals m (p, inr z, k) = absurd z

    rows : (k : ℕ) → LeadTo (dnf (test.Leads i)) k → Has v.targets k
    rows k (p, inl e, h) = w.rows k (subst (λ (x : spec.Pair). Has x.targets k) e h)
    rows k (p, inr z, h) = absurd z
covers_dnf (test.Both a b) v w =
    let c = covers_dnf a v (record { literals = λ l h. w.literals l (append_left (literals_of a) (literals_of b) l h); rows = λ k h. w.rows k (append_left (targets_of a) (targets_of b) k h) }) in
    let d = covers_dnf b v (record { literals = λ l h. w.literals l (append_right (literals_of a) (literals_of b) l h); rows = λ k h. w.rows k (append_right (targets_of a) (targets_of b) k h) }) in
    record {
      literals = λ l h. elim (asks_join (dnf a) (dnf b) l h) [ inl m ↦ c.literals l m | inr m ↦ d.literals l m ];
      rows = λ k h. elim (leads_join (dnf a) (dnf b) k h) [ inl m ↦ c.rows k m | inr m ↦ d.rows k m ];
    }
covers_dnf (test.Either a b) v w =
    let c = covers_dnf a v (record { literals = λ l h. w.literals l (append_left (literals_of a) (literals_of b) l h); rows = λ k h. w.rows k (append_left (targets_of a) (targets_of b) k h) }) in
    let d = covers_dnf b v (record { literals = λ l h. w.literals l (append_right (literals_of a) (literals_of b) l h); rows = λ k h. w.rows k (append_right (targets_of a) (targets_of b) k h) }) in
    record {
      literals = λ l (p, h, k). elim (append_cases (dnf a) (dnf b) p h) [ inl m ↦ c.literals l (p, m, k) | inr m ↦ d.literals l (p, m, k) ];
      rows = λ i (p, h, k). elim (append_cases (dnf a) (dnf b) p h) [ inl m ↦ c.rows i (p, m, k) | inr m ↦ d.rows i (p, m, k) ];
    }

-- ---- what steps depend on

module _ (t : TableView) (ss : List Step) (rs : List RowSteps) (ls : List Support) (program : IsWholeProgram t ss rs) (leaves : AreLeaves ss ls) where
  sets_cover : (i : ℕ) → i < length t.rows → Covers (support_at ls (steps_at rs i).sets) (map next_pair (spec.conj (row_place t) (row_tree t i)))
  sets_cover i l =
      let c = program.count in
      let made = (program.program.rows i (omega arith)).sets in
      subst (Covers (support_at ls (steps_at rs i).sets)) (ap dnf made.test ∙ dnf_sets (row_place t) (row_tree t i)) (covers_dnf (test_of ss (steps_at rs i).sets) (support_at ls (steps_at rs i).sets) (leaves.tell (steps_at rs i).sets))

  pairs_cover : (i : ℕ) → i < length t.rows → Covers (support_at ls (steps_at rs i).pairs) (spec.pairs (row_place t) (row_tree t i))
  pairs_cover i l =
      let c = program.count in
      let made = (program.program.rows i (omega arith)).pairs in
      subst (Covers (support_at ls (steps_at rs i).pairs)) (ap dnf made.test ∙ dnf_pairs (row_place t) (row_tree t i)) (covers_dnf (test_of ss (steps_at rs i).pairs) (support_at ls (steps_at rs i).pairs) (leaves.tell (steps_at rs i).pairs))

  postponing_covers : (i at k : ℕ) → i < length t.rows → at ≡ k → Covers (postponing_support (support_at ls (steps_at rs i).pairs) at) (spec.join (spec.pairs (row_place t) (row_tree t i)) (spec.later_pair k ∷ []))
  postponing_covers i at k l e = covers_join (support_at ls (steps_at rs i).pairs) (support_of (spec.later_pair at)) (spec.pairs (row_place t) (row_tree t i)) (spec.later_pair k ∷ []) (pairs_cover i l)
      (subst (λ j. Covers (support_of (spec.later_pair at)) (spec.later_pair j ∷ [])) e (covers_one (spec.later_pair at)))

-- ---- which rows are until rows

until_row : (f : ℕ → Normal) (r : Row) → normal.is_until (tree_of f (node_of r)) ≡ true → is_until_row r ≡ true
until_row f row.True e = e
until_row f row.False e = e
until_row f (row.Literal l) e = e
until_row f (row.Next i) e = e
until_row f (row.And i j) e = e
until_row f (row.Or i j) e = e
until_row f (row.Until i j) e = refl
until_row f (row.Release i j) e = e

pub no_until : {P : Type 0} (t : TableView) (k : ℕ) (r : Row) → slice_get t.rows k ≡ Some r → IsBelow k r → is_until_row r ≡ false → normal.is_until (row_tree t k) ≡ true → P
no_until t k r f b n u = false_is_true (sym n ∙ until_row (row_tree t) r (ap normal.is_until (sym (row_tree_is t k r f b)) ∙ u))

until_kind : (r : Row) → is_until_row r ≡ true → is_elementary_row r ≡ true
until_kind row.True e = e
until_kind row.False e = e
until_kind (row.Literal l) e = refl
until_kind (row.Next i) e = refl
until_kind (row.And i j) e = e
until_kind (row.Or i j) e = e
until_kind (row.Until i j) e = refl
until_kind (row.Release i j) e = refl

pub until_row_stands : (t : TableView) (k : ℕ) (r : Row) → IsTable t → k < length t.rows → slice_get t.rows k ≡ Some r → IsBelow k r → is_until_row r ≡ true → Has t.elementary k
until_row_stands t k r w l f b e = kind_stands t k r w l f b (until_kind r e)

-- more places are closed too
closed_more : (T : Table) (xs ys : spec.RowSet) (w : Support) (F : Normal) → ((i : ℕ) → Has xs i → Has ys i) → IsClosed T xs w F → IsClosed T ys w F
closed_more T xs ys w Top g h = tt
closed_more T xs ys w Bottom g h = tt
closed_more T xs ys w (Leaf m) g h = tt
closed_more T xs ys w (Next a) g h = λ e i j m. g j (h e i j m)
closed_more T xs ys w (And a c) g h = tt
closed_more T xs ys w (Or a c) g h = tt
closed_more T xs ys w (Until a c) g (inl i) = inl (g _ i)
closed_more T xs ys w (Until a c) g (inr i) = inr i
closed_more T xs ys w (Release a c) g h = tt

module _ (t : TableView) (ss : List Step) (rs : List RowSteps) (ls : List Support) (program : IsWholeProgram t ss rs) (leaves : AreLeaves ss ls) (k : ℕ) (r : Row) (at : ℕ) (l : k < length t.rows) (f : slice_get t.rows k ≡ Some r) (b : IsBelow k r) (p : normal.is_until (row_tree t k) ≡ true → at ≡ row_place t (row_tree t k)) where
  row_is : row_tree t k ≡ tree_of (row_tree t) (node_of r)
  row_is = row_tree_is t k r f b

  -- ---- what a round adds

  row_closed : (w : Support) (s : Row) → IsBelow k s → (normal.is_until (tree_of (row_tree t) (node_of s)) ≡ true → at ≡ row_place t (tree_of (row_tree t) (node_of s)))
      → IsClosed (table_at t) (places_added ls rs w s at) w (tree_of (row_tree t) (node_of s))
  row_closed w row.True c e = tt
  row_closed w row.False c e = tt
  row_closed w (row.Literal m) c e = tt
  row_closed w (row.Next i) c e = λ d h j m. (sets_cover t ss rs ls program leaves i (omega arith)).rows j (next_pair d, Has-map next_pair (spec.conj (row_place t) (row_tree t i)) d h, m)
  row_closed w (row.And i j) c e = tt
  row_closed w (row.Or i j) c e = tt
  row_closed w (row.Until i j) c e =
      let v = postponing_support (support_at ls (steps_at rs i).pairs) at in
      let m = c.0 in
      let F = Until (row_tree t i) (row_tree t j) in
      elim (shares_some w v) as (λ o. shares_some w v ≡ o → IsClosed (table_at t) (cond o (at ∷ []) []) w F) [
        | true ↦ λ d. inl (inl (sym (e refl)))
        | false ↦ λ d. inr (v, postponing_covers t ss rs ls program leaves i at (row_place t F) (omega arith) (e refl), d)
      ] refl
  row_closed w (row.Release i j) c e = tt

  pub closed_step : (w : Support) (xs added : spec.RowSet) → added ≡ places_added ls rs w r at → AreClosed t xs w k → AreClosed t (union nat_cmp xs added) w (k + 1)
  closed_step w xs added q all j m = elim (below_or_last j k m) [
    | inl i ↦ closed_more (table_at t) xs (union nat_cmp xs added) w (row_tree t j) (λ n h. union_left nat_linear xs added n h) (all j i)
    | inr e ↦
        subst (λ i. IsClosed (table_at t) (union nat_cmp xs added) w (row_tree t i)) (sym e)
        (closed_more (table_at t) added (union nat_cmp xs added) w (row_tree t k) (λ n h. union_right nat_linear xs added n h)
        (subst (λ F. IsClosed (table_at t) added w F) (sym row_is) (subst (λ ys. IsClosed (table_at t) ys w (tree_of (row_tree t) (node_of r))) (sym q) (row_closed w r b (λ u. p (ap normal.is_until row_is ∙ u) ∙ ap (row_place t) row_is)))))
  ]

-- ---- a round that adds nothing

-- each row of the formula is a row of the table
row_at : (t : TableView) → IsTable t → (f : Normal) → Has (normal.rows (core_of t)) f → (k : ℕ) × (k < length t.rows) × (row_tree t k ≡ f)
row_at t w f h =
    let F = normal.rows (core_of t) in
    let k = place_of same f F in
    let l = place_below same same_Decides f F h in
    let c = rows_count t w in
    (k, omega arith, ap (λ xs. slice_index_or xs k Bottom) w.table.rows ∙ at_place same same_Decides f F Bottom h)

module _ (t : TableView) (table : IsTable t) (counted : spec.RowSet) (round : IsRound t counted counted) where
  never_needed : (a b : Normal) (v : Support) → Covers v (spec.join (spec.pairs (place (table_at t)) a) (spec.later_pair (place (table_at t) (Until a b)) ∷ [])) → shares_some round.needed v ≡ false
      → (f : Normal) → Has (table_at t).untils f → is_counted (table_at t) counted f ≡ true
      → SharesNothing (fulfilling_pairs (table_at t) f) (spec.join (spec.pairs (place (table_at t)) a) (spec.later_pair (place (table_at t) (Until a b)) ∷ []))
  never_needed a b v c n f h i =
      let T = table_at t in
      let at = at_place same same_Decides f T.untils Bottom h in
      let d : Covers round.needed (fulfilling_pairs T f) = subst (λ F. Covers round.needed (fulfilling_pairs T F)) at
      (round.covers (place_of same f T.untils) (place_below same same_Decides f T.untils h) (subst (λ F. Has counted (place T F)) (sym at) ((has_Decides nat_linear (place T f) counted).0 i))) in
      record {
        literals = λ p q g j m x y. false_is_true (sym n ∙ shares_sign round.needed v m.positive m.proposition (d.literals m (p, g, x)) (c.literals m (q, j, y)));
        targets = λ p q g j m x y. false_is_true (sym n ∙ shares_row round.needed v m (d.rows m (p, g, x)) (c.rows m (q, j, y)));
      }

  counts_row : (n : ℕ) → ((i : ℕ) → i < n → CountsAll (table_at t) counted (row_tree t i)) → (r : Row) → IsBelow n r → IsClosed (table_at t) counted round.needed (tree_of (row_tree t) (node_of r))
      → CountsAll (table_at t) counted (tree_of (row_tree t) (node_of r))
  counts_row n all row.True b c = tt
  counts_row n all row.False b c = tt
  counts_row n all (row.Literal l) b c = tt
  counts_row n all (row.Next i) b c = λ f h e m k. (has_Decides nat_linear (place (table_at t) f) counted).1 (c e m (place (table_at t) f) k)
  counts_row n all (row.And i j) b c = (all i b.0, all j b.1)
  counts_row n all (row.Or i j) b c = (all i b.0, all j b.1)
  counts_row n all (row.Until i j) b (inl h) =
      (all i b.0, all j b.1, λ e. false_is_true (sym e ∙ (has_Decides nat_linear (place (table_at t) (Until (row_tree t i) (row_tree t j))) counted).1 h))
  counts_row n all (row.Until i j) b (inr (v, c, e)) = (all i b.0, all j b.1, λ _. never_needed (row_tree t i) (row_tree t j) v c e)
  counts_row n all (row.Release i j) b c = (all i b.0, all j b.1)

  counts_below : (n k : ℕ) → n ≤ length t.rows → k < n → CountsAll (table_at t) counted (row_tree t k)
  counts_below zero k m l = absurd (omega arith)
  counts_below (suc n) k m l = elim (last_or_below k n l) [
    | inl i ↦ counts_below n k (omega arith) i
    | inr e ↦
        let inside : n < length t.rows = omega arith in
        let r = slice_index_or t.rows n row.True in
        let b = table.ordered n row.True inside in
        let tree : row_tree t n ≡ tree_of (row_tree t) (node_of r) = row_tree_is t n r (slice_get-get_or t.rows n row.True inside) b in
        subst (λ i. CountsAll (table_at t) counted (row_tree t i)) (sym e)
        (subst (CountsAll (table_at t) counted) (sym tree)
        (counts_row n (λ i h. counts_below n i (omega arith) h) r b (subst (IsClosed (table_at t) counted round.needed) tree (round.closed n inside))))
  ]

  counted_by_round : AreCounted (table_at t) counted
  counted_by_round a h =
      let (m, _) = filter_cases (λ x. normal.is_elementary x || same x (core_of t)) (normal.rows (core_of t)) a h in
      let (k, l, e) = row_at t table a m in
      subst (CountsAll (table_at t) counted) e (counts_below (length t.rows) k (omega arith) l)

pub counted_in_round : (t : TableView) (counted next : spec.RowSet) → IsTable t → IsRound t counted next → is_subset nat_cmp next counted ≡ true → AreCounted (table_at t) counted
counted_in_round t counted next table round e =
    let within = (is_subset_Decides nat_linear next counted).0 e in
    counted_by_round t table counted
    (record { more = λ k h. h; needed = round.needed; covers = round.covers; closed = λ k l. closed_more (table_at t) next counted round.needed (row_tree t k) within (round.closed k l) })

-- ---- rounds end

outside : (p : ℕ → Bool) (xs : List ℕ) → list_all p xs ≡ false → (x : ℕ) × Has xs x × (p x ≡ false)
outside p [] e = false_is_true (sym e)
outside p (x ∷ xs) e =
    elim (p x) as (λ o. p x ≡ o → (o && list_all p xs) ≡ false → (y : ℕ) × Has (x ∷ xs) y × (p y ≡ false)) [
      | true ↦ λ d f. let (y, h, g) = outside p xs f in (y, inr h, g)
      | false ↦ λ d f. (x, inl refl, d)
    ] refl e

-- a set with all members of another one and one more is longer
pub longer : (xs ys : spec.RowSet) → IsRising nat_cmp xs → ((k : ℕ) → Has xs k → Has ys k) → is_subset nat_cmp ys xs ≡ false → length xs < length ys
longer xs ys r f e =
    let (z, h, n) = outside (λ x. has nat_cmp x xs) ys e in
    let new : Has xs z → ⊥ = λ i. false_is_true (sym n ∙ (has_Decides nat_linear z xs).1 i) in
    let there : (k : ℕ) → Has (z ∷ xs) k → Has ys k = λ k. elim [ inl d ↦ subst (Has ys) (sym d) h | inr i ↦ f k i ] in
    let l : length (z ∷ xs) ≤ length ys = numbered_short (z ∷ xs) (λ x. place_of eqb x ys) (length ys) (new, rising_once nat_linear xs r)
    (λ x i. place_below eqb Decides-eqb x ys (there x i)) (λ x y i j d. place_same eqb Decides-eqb x y ys (there x i) (there y j) d) in
    omega arith
