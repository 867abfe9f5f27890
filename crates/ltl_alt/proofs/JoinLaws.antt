-- Equal pairs, joins that are remembered, and what is kept of the joins of a component.
use Rattle.std.proofs.Common.{◌≡◌, ℕ, ◌<◌, Bool, true, ◌&&◌, inl, inr, List, [], ◌∷◌, length, sym, ◌∙◌, subst}
use Rattle.std.specs.Prelude.{nat_eq}
use Rattle.std.specs.Cmp.{first_so, second_so}
use Rattle.std.specs.Cmp.Lexicographic.{pointwise, bytes_decides}
use Rattle.std.proofs.lemmas.Bool.Decides.{Decides-eqb}
use Rattle.indexmap.specs.IndexMap.{insert_entry}
use Rattle.ltl_spec.specs.Collections.Sets.{Has}
use Rattle.ltl_spec.specs.Transitions.Pairs.{Pair, join, empty_pair}
use Rattle.ltl_spec.specs.Transitions.RowTransitions.{Table}
use Rattle.ltl_sets.specs.CubeEq.{same_cube, cube_Decides}
use Rattle.ltl_alt.specs.declared.memo.JoinKey.{JoinKey}
use Rattle.ltl_alt.specs.declared.rule.Rule.{Rule}
use Rattle.ltl_alt.specs.ComponentView.{AreComponents, start_of}
use Rattle.ltl_alt.specs.MemoView.{IsListAt, IsJoin, AreJoins}
use Rattle.ltl_alt.specs.ConjunctTableView.{IsLonger, conjunct_of}
use Rattle.ltl_alt.specs.declared.fulfilment.Fulfilment.{Fulfilment}
use Rattle.ltl_alt.specs.StandIns.{IsFit, IsListed, IsPruned, StandsFor}
use Rattle.ltl_alt.proofs.MapLaws.{exact_cases, longer_within, longer_there}

pub same_pair : (p q : Pair) → same_cube p.cube q.cube ≡ true → pointwise nat_eq p.targets q.targets ≡ true → p ≡ q
same_pair p q a b =
    let cubes = (cube_Decides p.cube q.cube).0 a in
    let targets = (bytes_decides p.targets q.targets).0 b in
    λ i. record { cube = cubes i; targets = targets i }

-- ---- joins

abbrev pub same_key : JoinKey → JoinKey → Bool
same_key k l = nat_eq k.left l.left && nat_eq k.right l.right

pub key_exact : (k l : JoinKey) → same_key k l ≡ true → k ≡ l
key_exact k l e =
    let left = (Decides-eqb k.left l.left).0 (first_so (nat_eq k.left l.left) (nat_eq k.right l.right) e) in
    let right = (Decides-eqb k.right l.right).0 (second_so (nat_eq k.left l.left) (nat_eq k.right l.right) e) in
    λ i. let m : JoinKey = record { left = left i; right = right i } in m

-- what is kept of two lists
pub kept_of : {A : Type 0} (T : Table) (r : Rule) (f : Fulfilment A) (lists : List (List Pair)) (left right : ℕ) (xs ys zs : List Pair) → IsFit T r f → xs ≡ conjunct_of lists left → ys ≡ conjunct_of lists right
    → IsPruned r f (join xs ys) zs → IsListed (StandsFor T r) (join (conjunct_of lists left) (conjunct_of lists right)) zs
kept_of T r f lists left right xs ys zs fit e d w = subst (λ js. IsListed (StandsFor T r) js zs) (λ i. join (e i) (d i)) (w T fit)

module _ (T : Table) (r : Rule) where
  -- a join that was made
  pub new_join : (old new : List (List Pair)) (key : JoinKey) (joined : ℕ) (zs : List Pair) → key.left < length old → key.right < length old → IsLonger old new → IsListAt new zs joined
      → IsListed (StandsFor T r) (join (conjunct_of old key.left) (conjunct_of old key.right)) zs → IsJoin T r new key joined
  new_join old new key joined zs l m g at w =
      let first = longer_there [] old new g key.left l in
      let second = longer_there [] old new g key.right m in
      record {
        left = longer_within old new g key.left l;
        right = longer_within old new g key.right m;
        both = at.0;
        listed = subst (IsListed (StandsFor T r) (join (conjunct_of new key.left) (conjunct_of new key.right))) (sym at.1)
            (subst (λ ps. IsListed (StandsFor T r) ps zs) (sym (λ i. join (first i) (second i))) w);
      }

  -- it stays one where more lists are listed
  pub join_longer : (old new : List (List Pair)) (key : JoinKey) (joined : ℕ) → IsLonger old new → IsJoin T r old key joined → IsJoin T r new key joined
  join_longer old new key joined g w = new_join old new key joined (conjunct_of old joined) w.left w.right g (longer_within old new g joined w.both, longer_there [] old new g joined w.both) w.listed

  pub joins_longer : (old new : List (List Pair)) (joins : List (JoinKey × ℕ)) → IsLonger old new → AreJoins T r old joins → AreJoins T r new joins
  joins_longer old new joins g w key joined h = join_longer old new key joined g (w key joined h)

  -- one more
  pub joins_more : (lists : List (List Pair)) (joins more : List (JoinKey × ℕ)) (key : JoinKey) (joined : ℕ) → AreJoins T r lists joins → IsJoin T r lists key joined → more ≡ insert_entry same_key joins key joined → AreJoins T r lists more
  joins_more lists joins more key joined w is e other n h =
      elim (exact_cases same_key key_exact joins key other joined n (subst (λ es. Has es (other, n)) e h)) [
        | inl m ↦ w other n m
        | inr m ↦ subst (λ k. IsJoin T r lists k n) (sym m.0) (subst (IsJoin T r lists key) (sym m.1) is)
      ]

-- a list keeps its number
pub list_at_longer : (old new : List (List Pair)) (ps : List Pair) (k : ℕ) → IsLonger old new → IsListAt old ps k → IsListAt new ps k
list_at_longer old new ps k g at = (longer_within old new g k at.0, longer_there [] old new g k at.0 ∙ at.1)

-- ---- components

-- components stay as they should be where more is listed
pub components_longer : (T : Table) (r : Rule) (conjuncts old new : List (List Pair)) (joins more : List (JoinKey × ℕ)) (nothing : ℕ) (starts : List ℕ) → IsLonger old new → AreJoins T r new more
    → AreComponents T r conjuncts old joins nothing starts → AreComponents T r conjuncts new more nothing starts
components_longer T r conjuncts old new joins more nothing starts g w a = record {
  joins = w;
  nothing = list_at_longer old new (empty_pair ∷ []) nothing g a.nothing;
  starts = record { count = a.starts.count; each = λ k l. list_at_longer old new (conjunct_of conjuncts k) (start_of starts k) g (a.starts.each k l) };
}
