-- Joins of long lists, each pair once, have the same set.
use Rattle.std.proofs.Common.{◌≡◌, List, [], ◌∷◌, ◌++◌, refl, sym, ◌∙◌, ap, Some, None, Option}
use Rattle.std.specs.Prelude.{fold, filter_map}
use Rattle.std.specs.List.{cons_option}
use Rattle.std.specs.Ordering.{eq_by_cmp}
use Rattle.std.proofs.lemmas.List.{append-nil}
use Rattle.std.proofs.lemmas.List.Concat.{flat_map-append}
use Rattle.std.proofs.lemmas.List.Elements.{filter_map-append}
use Rattle.std.proofs.lemmas.List.Sums.{fold-append}
use Rattle.ltl_spec.specs.Collections.Lists.{first_occurrences, with_new}
use Rattle.ltl_spec.specs.Collections.Sets.{set_of}
use Rattle.ltl_spec.specs.Transitions.Pairs.{Pair, pair_cmp, join_pair, join}
use Rattle.ltl_spec.proofs.Collections.ListLaws.{first_occurrences_cases, Has-first_occurrences}
use Rattle.ltl_spec.proofs.Collections.MemberLaws.{flat_map_cases, Has-flat_map, filter_map_cases, Has-filter_map}
use Rattle.ltl_spec.proofs.Collections.Orders.{pair_linear}
use Rattle.ltl_spec.proofs.Collections.SetLaws.{set_of_alike}
use Rattle.ltl_spec.proofs.Transitions.JoinLaws.{Has-join, join_parts}
use Rattle.ltl_alt.specs.PairHash.{pair_Decides}
use Rattle.ltl_alt.specs.StandIns.{joins_by_right}

-- a join more of one pair
pub noted_some : (f : Pair → Option Pair) (start taken more once next : List Pair) (x : Pair) (p : Pair) → once ≡ fold (with_new (eq_by_cmp pair_cmp)) start (filter_map f taken) → more ≡ taken ++ x ∷ [] → f x ≡ Some p
    → next ≡ with_new (eq_by_cmp pair_cmp) once p → next ≡ fold (with_new (eq_by_cmp pair_cmp)) start (filter_map f more)
noted_some f start taken more once next x p e t d n =
    let same = with_new (eq_by_cmp pair_cmp) in
    n ∙ ap (λ ks. same ks p) e ∙ sym (fold-append same start (filter_map f taken) (p ∷ []))
    ∙ ap (fold same start) (ap (λ ps. filter_map f taken ++ ps) (sym (ap (λ o. cons_option o []) d)) ∙ sym (filter_map-append f taken (x ∷ [])) ∙ ap (filter_map f) (sym t))

none_there : (o : Option Pair) → ((p : Pair) → o ≡ Some p → ⊥) → o ≡ None
none_there None n = refl
none_there (Some p) n = absurd (n p refl)

-- two that contradict each other
pub noted_none : (f : Pair → Option Pair) (start taken more once : List Pair) (x : Pair) → once ≡ fold (with_new (eq_by_cmp pair_cmp)) start (filter_map f taken) → more ≡ taken ++ x ∷ [] → ((p : Pair) → f x ≡ Some p → ⊥)
    → once ≡ fold (with_new (eq_by_cmp pair_cmp)) start (filter_map f more)
noted_none f start taken more once x e t d =
    let same = with_new (eq_by_cmp pair_cmp) in
    e ∙ ap (fold same start) (sym (append-nil (filter_map f taken)) ∙ ap (λ ps. filter_map f taken ++ ps) (sym (ap (λ o. cons_option o []) (none_there (f x) d))) ∙ sym (filter_map-append f taken (x ∷ [])) ∙ ap (filter_map f) (sym t))

-- a pair more is joined
pub noted_next : (left taken more : List Pair) (once next : List Pair) (x : Pair) → once ≡ first_occurrences (eq_by_cmp pair_cmp) (joins_by_right left taken) → more ≡ taken ++ x ∷ []
    → next ≡ fold (with_new (eq_by_cmp pair_cmp)) once (filter_map (λ p. join_pair p x) left) → next ≡ first_occurrences (eq_by_cmp pair_cmp) (joins_by_right left more)
noted_next left taken more once next x e t n =
    let same = with_new (eq_by_cmp pair_cmp) in
    let last = filter_map (λ p. join_pair p x) left in
    n ∙ ap (λ ks. fold same ks last) e ∙ sym (fold-append same [] (joins_by_right left taken) last)
    ∙ ap (first_occurrences (eq_by_cmp pair_cmp))
    (ap (λ ps. joins_by_right left taken ++ ps) (sym (append-nil last)) ∙ sym (flat_map-append (λ q. filter_map (λ p. join_pair p q) left) taken (x ∷ [])) ∙ ap (joins_by_right left) (sym t))

-- the order in which pairs are joined is all the same
pub by_right : (left right : List Pair) → set_of pair_cmp (joins_by_right left right) ≡ set_of pair_cmp (join left right)
by_right left right = set_of_alike pair_linear (joins_by_right left right) (join left right)
    (λ r h.
    let (q, k, n) = flat_map_cases (λ x. filter_map (λ p. join_pair p x) left) right r h in
    let (p, m, e) = filter_map_cases (λ p. join_pair p q) left r n in
    Has-join left right p q r m k e)
    (λ r h.
    let (p, q, k, m, e) = join_parts left right r h in
    Has-flat_map (λ x. filter_map (λ p. join_pair p x) left) right q r m (Has-filter_map (λ p. join_pair p q) left p r k e))

-- the set stays
pub same_set : (xs keys zs : List Pair) → keys ≡ first_occurrences (eq_by_cmp pair_cmp) xs → zs ≡ keys → set_of pair_cmp zs ≡ set_of pair_cmp xs
same_set xs keys zs e f =
    ap (set_of pair_cmp) (f ∙ e) ∙ set_of_alike pair_linear (first_occurrences (eq_by_cmp pair_cmp) xs) xs (first_occurrences_cases (eq_by_cmp pair_cmp) pair_Decides xs) (Has-first_occurrences (eq_by_cmp pair_cmp) pair_Decides xs)
