-- The transitions of components by number, where more are listed.
use Rattle.std.proofs.Common.{◌≡◌, ℕ, Bool, true, inl, inr, List, [], ◌∷◌, map, refl, sym, ◌∙◌, ap, subst, Some}
use Rattle.std.specs.Prelude.{if◌then◌else◌, nat_eq}
use Rattle.std.specs.Cmp.Lexicographic.{pointwise, bytes_decides}
use Rattle.std.specs.Map.{lookup}
use Rattle.indexmap.specs.IndexMap.{insert_entry}
use Rattle.ltl_spec.specs.Collections.Sets.{Has, set_of}
use Rattle.ltl_spec.specs.Transitions.Pairs.{RowSet, Pair, pair_cmp, join, empty_pair}
use Rattle.ltl_spec.specs.Transitions.RowTransitions.{Table, Transition, unimplied_transitions, with_marks}
use Rattle.ltl_spec.proofs.Collections.MemberLaws.{Has-map, map_cases}
use Rattle.ltl_spec.proofs.Collections.Orders.{pair_linear}
use Rattle.ltl_spec.proofs.Collections.SetLaws.{Has-set_of, IsRising-set_of, set_of_same}
use Rattle.ltl_spec.proofs.Transitions.ProductTransitions.{transitions_of}
use Rattle.ltl_alt.specs.TransitionView.{AllSets, table_at}
use Rattle.ltl_alt.specs.declared.basis.Basis.{Basis}
use Rattle.ltl_alt.specs.FinalView.{AreFactorsOf, AreFinals, AreLists, AreWithin, IsFinal, IsListOf, IsLonger, made_of}
use Rattle.ltl_alt.specs.ComponentView.{IsLastOf}
use Rattle.ltl_alt.specs.MemoView.{last_list}
use Rattle.ltl_alt.specs.ConjunctTableView.{conjunct_of}
use Rattle.ltl_alt.specs.declared.rule.Rule.{Rule}
use Rattle.ltl_alt.proofs.ComponentLaws.{joined_on}
use Rattle.ltl_alt.proofs.JoinOrderLaws.{kept_alike}
use Rattle.ltl_alt.proofs.StandInLaws.{kept_on, stands_in}
use Rattle.ltl_spec.proofs.Transitions.ConjunctJoins.{join_of, joined_from_nothing}
use Rattle.ltl_spec.proofs.Transitions.SameJoins.{AreSound, alike_sym}
use Rattle.ltl_alt.specs.declared.memo.JoinKey.{JoinKey}
use Rattle.ltl_alt.specs.ConjunctTableView as conjuncts
use Rattle.ltl_alt.proofs.JoinLaws.{same_key, key_exact}
use Rattle.ltl_alt.proofs.MapLaws.{exact_cases, map_known, longer_within, longer_there}

-- ---- different pairs with a given set

-- their transitions are those of the set
pub transitions_by_set : (T : Table) (keep : Bool) (ps js : List Pair) → set_of pair_cmp ps ≡ set_of pair_cmp js → transitions_of T keep ps ≡ transitions_of T keep (set_of pair_cmp js)
transitions_by_set T keep ps js e =
    ap (λ xs. if keep then map (with_marks T) xs else unimplied_transitions (map (with_marks T) xs)) (e ∙ sym (set_of_same pair_linear (set_of pair_cmp js) (IsRising-set_of pair_linear js)))

pub sets_by_set : (T : Table) (ps qs : List Pair) → set_of pair_cmp ps ≡ qs → AllSets (map (with_marks T) qs) → AllSets (map (with_marks T) ps)
sets_by_set T ps qs e w t h =
    let (p, k, d) = map_cases (with_marks T) ps t h in
    w t (subst (Has (map (with_marks T) qs)) (sym d) (Has-map (with_marks T) qs p (subst (λ xs. Has xs p) e (Has-set_of pair_linear ps p k))))

-- ---- where more is listed

list_longer : (T : Table) (keep : Bool) (pairs more : List (List Pair)) (lists new : List (List Transition)) (key : JoinKey) (n : ℕ) → conjuncts.IsLonger pairs more → IsLonger lists new → IsListOf T keep pairs lists key n → IsListOf T keep more new key n
list_longer T keep pairs more lists new key n g h w = record {
  left = longer_within pairs more g key.left w.left;
  right = longer_within pairs more g key.right w.right;
  number = longer_within lists new h n w.number;
  made = longer_there [] lists new h n w.number ∙ w.made
      ∙ (λ i. transitions_of T keep (set_of pair_cmp (join (sym (longer_there [] pairs more g key.left w.left) i) (sym (longer_there [] pairs more g key.right w.right) i))));
}

pub final_longer : (T : Table) (r : Rule) (keep : Bool) (ps : List (List Pair)) (lists new : List (List Transition)) (component : RowSet) (n : ℕ) → IsLonger lists new → IsFinal T r keep ps lists component n → IsFinal T r keep ps new component n
final_longer T r keep ps lists new component n h w = record {
  number = longer_within lists new h n w.number;
  pairs = w.pairs;
  kept = w.kept;
  made = longer_there [] lists new h n w.number ∙ w.made;
}

-- pairs that were kept of the joins of a component have its transitions
pub final_kept : (T : Table) (r : Rule) (keep : Bool) (ps pairs : List (List Pair)) (lists : List (List Transition)) (component : RowSet) (key : JoinKey) (n : ℕ) → ((k : ℕ) → AreSound (conjunct_of ps k))
    → IsLastOf T r ps pairs component key → IsListOf T keep pairs lists key n → IsFinal T r keep ps lists component n
final_kept T r keep ps pairs lists component key n sound last is = record {
  number = is.number;
  pairs = last_list pairs key;
  kept = kept_on (stands_in T r) (join_of (conjunct_of ps) component) (joined_on (conjunct_of ps) (empty_pair ∷ []) component) (last_list pairs key)
      (kept_alike (stands_in T r) (join_of (conjunct_of ps) component) (joined_on (conjunct_of ps) (empty_pair ∷ []) component)
      (alike_sym (joined_on (conjunct_of ps) (empty_pair ∷ []) component) (join_of (conjunct_of ps) component) (joined_from_nothing (conjunct_of ps) sound component))) last.1.kept;
  made = is.made;
}

pub finals_longer : (T : Table) (r : Rule) (keep : Bool) (ps pairs more : List (List Pair)) (lists new : List (List Transition)) (of_joins : List (JoinKey × ℕ)) (of_components : List (RowSet × ℕ)) → conjuncts.IsLonger pairs more → IsLonger lists new
    → AreFinals T r keep ps pairs lists of_joins of_components → AreFinals T r keep ps more new of_joins of_components
finals_longer T r keep ps pairs more lists new of_joins of_components g h w = record {
  of_joins = λ key n k. list_longer T keep pairs more lists new key n g h (w.of_joins key n k);
  of_components = λ component n k. final_longer T r keep ps lists new component n h (w.of_components component n k);
}

-- factors stay what they are
pub factors_longer : (lists new : List (List Transition)) (ks : List ℕ) → IsLonger lists new → AreWithin lists ks → map (made_of new) ks ≡ map (made_of lists) ks
factors_longer lists new [] h w = refl
factors_longer lists new (k ∷ ks) h w =
    let first = longer_there [] lists new h k (w k (inl refl)) in
    let rest = factors_longer lists new ks h (λ x m. w x (inr m)) in
    λ i. first i ∷ rest i

pub factors_kept : {A : Type 0} (b : Basis A) (lists new : List (List Transition)) (all : RowSet) (factors : List ℕ) (rest : RowSet) → IsLonger lists new → AreFactorsOf b lists all factors rest → AreFactorsOf b new all factors rest
factors_kept b lists new all factors rest h w = (
  λ k m. longer_within lists new h k (w.0 k m),
  subst (λ tss. AreLists (table_at b.table.now) b.pruning.rule b.keep_implied b.conjuncts.lists.items all tss rest) (sym (factors_longer lists new factors h w.0)) w.1,
)

-- ---- one more

pub set_exact : (x y : RowSet) → pointwise nat_eq x y ≡ true → x ≡ y
set_exact x y e = (bytes_decides x y).0 e

pub lists_more : (T : Table) (r : Rule) (keep : Bool) (ps pairs : List (List Pair)) (lists : List (List Transition)) (of_joins more : List (JoinKey × ℕ)) (of_components : List (RowSet × ℕ)) (key : JoinKey) (n : ℕ) → AreFinals T r keep ps pairs lists of_joins of_components
    → IsListOf T keep pairs lists key n → more ≡ insert_entry same_key of_joins key n → AreFinals T r keep ps pairs lists more of_components
lists_more T r keep ps pairs lists of_joins more of_components key n w is e = record {
  of_joins = λ l m h. elim (exact_cases same_key key_exact of_joins key l n m (subst (λ es. Has es (l, m)) e h)) [
    | inl k ↦ w.of_joins l m k
    | inr k ↦ subst (λ x. IsListOf T keep pairs lists x m) (sym k.0) (subst (IsListOf T keep pairs lists key) (sym k.1) is)
  ];
  of_components = w.of_components;
}

pub components_more : (T : Table) (r : Rule) (keep : Bool) (ps pairs : List (List Pair)) (lists : List (List Transition)) (of_joins : List (JoinKey × ℕ)) (of_components more : List (RowSet × ℕ)) (component : RowSet) (o : ℕ) → AreFinals T r keep ps pairs lists of_joins of_components
    → IsFinal T r keep ps lists component o → more ≡ insert_entry (pointwise nat_eq) of_components component o → AreFinals T r keep ps pairs lists of_joins more
components_more T r keep ps pairs lists of_joins of_components more component o w is e = record {
  of_joins = w.of_joins;
  of_components = λ g p h. elim (exact_cases (pointwise nat_eq) set_exact of_components component g o p (subst (λ es. Has es (g, p)) e h)) [
    | inl k ↦ w.of_components g p k
    | inr k ↦ subst (λ x. IsFinal T r keep ps lists x p) (sym k.0) (subst (IsFinal T r keep ps lists component) (sym k.1) is)
  ];
}

-- what is found
pub list_known : (T : Table) (r : Rule) (keep : Bool) (ps pairs : List (List Pair)) (lists : List (List Transition)) (of_joins : List (JoinKey × ℕ)) (of_components : List (RowSet × ℕ)) (key : JoinKey) (n : ℕ) → AreFinals T r keep ps pairs lists of_joins of_components
    → Some n ≡ lookup (same_key key) of_joins → IsListOf T keep pairs lists key n
list_known T r keep ps pairs lists of_joins of_components key n w e = map_known same_key key_exact (IsListOf T keep pairs lists key) key of_joins (Some n) e (λ m h. w.of_joins key m h)

pub component_known : (T : Table) (r : Rule) (keep : Bool) (ps pairs : List (List Pair)) (lists : List (List Transition)) (of_joins : List (JoinKey × ℕ)) (of_components : List (RowSet × ℕ)) (component : RowSet) (o : ℕ) → AreFinals T r keep ps pairs lists of_joins of_components
    → Some o ≡ lookup (pointwise nat_eq component) of_components → IsFinal T r keep ps lists component o
component_known T r keep ps pairs lists of_joins of_components component o w e =
    map_known (pointwise nat_eq) set_exact (IsFinal T r keep ps lists component) component of_components (Some o) e (λ p h. w.of_components component p h)
