-- The columns of a block, and what is common to its items.
use Rattle.std.proofs.Common.{◌≡◌, ℕ, zero, suc, ◌+◌, ◌<◌, ◌≤◌, ◌⊎◌, inl, inr, Bool, true, false, not, List, [], ◌∷◌, ◌++◌, All, Some, length, map, take, get_or, refl, sym, ◌∙◌, ap, subst, arith}
use Rattle.std.specs.Prelude.{slice_get}
use Rattle.std.specs.List.{filter}
use Rattle.std.specs.Ordering.{nat_cmp}
use Rattle.std.proofs.lemmas.List.{length-map, take_all, take_more, map-append}
use Rattle.std.proofs.lemmas.List.Elements.{All-more, All-weaker}
use Rattle.ltl_spec.specs.Collections.Sets.{Has, has, put}
use Rattle.ltl_spec.proofs.Collections.CaseLaws.{false_is_true}
use Rattle.ltl_spec.proofs.Collections.Orders.{nat_linear}
use Rattle.ltl_spec.proofs.Collections.SetLaws.{Has-filter, Has-put, filter_cases}
use Rattle.least.specs.Columns.{AreColumnsOf, ColumnTable, column_at, set_at}
use Rattle.least.specs.Blocks.{AreAllBelow, AreLacks, AreLeft, AreNeeds, AreStaying, BlockView, HasCandidates, IsBlockOf, IsCandidate, IsCommonOf, IsKindOf, IsNeeded, KindView, StaysIn}
use Rattle.least.proofs.HasLaws.{false_if, from_has, has_from}
use Rattle.least.proofs.PartLaws.{all_got, push_got}

pub none_lacked : (xs : List ℕ) → [] ≡ filter (λ e. false) xs
none_lacked [] = refl
none_lacked (x ∷ xs) = none_lacked xs

-- ---- what is common

module _ {U : Type 0} (needs : U → ℕ → List ℕ) where
  pub shared_more : (k : ℕ) (us : List U) (i : ℕ) (u : U) (es ns new : List ℕ) → i < length us → u ≡ get_or us i u → ns ≡ needs u k → new ≡ filter (λ e. has nat_cmp e ns) es
      → All (IsNeeded needs k es) (take i us) → All (IsNeeded needs k new) (take (i + 1) us)
  shared_more k us i u es ns new h is n e all =
      All-more (IsNeeded needs k new) us i u h
      (All-weaker (IsNeeded needs k es) (IsNeeded needs k new) (λ v f x m. f x (cases x m).0) (take i us) all)
      (subst (IsNeeded needs k new) is (λ x m. subst (λ l. Has l x) n (from_has x ns (cases x m).1)))
    where
      cases : (x : ℕ) → Has new x → Has es x × (has nat_cmp x ns ≡ true)
      cases x m = filter_cases (λ z. has nat_cmp z ns) es x (subst (λ l. Has l x) e m)

  pub shared_whole : (k : ℕ) (us : List U) (i : ℕ) (es : List ℕ) → length us ≤ i → All (IsNeeded needs k es) (take i us) → All (IsNeeded needs k es) us
  shared_whole k us i es h = subst (All (IsNeeded needs k es)) (take_all i us h)

  pub common_is : (us : List U) (a b c : List ℕ) → All (IsNeeded needs 0 a) us → All (IsNeeded needs 1 b) us → All (IsNeeded needs 2 c) us → IsCommonOf needs us (record { kinds = a ∷ b ∷ c ∷ [] })
  common_is us a b c f g h zero j u e = all_got (IsNeeded needs 0 a) us j u f e
  common_is us a b c f g h (suc zero) j u e = all_got (IsNeeded needs 1 b) us j u g e
  common_is us a b c f g h (suc (suc zero)) j u e = all_got (IsNeeded needs 2 c) us j u h e
  common_is us a b c f g h (suc (suc (suc k))) j u e = λ x m. absurd m

-- ---- columns

mapped_set : {U : Type 0} (f : U → List ℕ) (us : List U) (j : ℕ) (u : U) → slice_get us j ≡ Some u → set_at (map f us) j ≡ f u
mapped_set f [] j u e = absurd (let no : ⊥ = cc in no)
mapped_set f (x ∷ us) zero u e = let same : x ≡ u = cc in ap f same
mapped_set f (x ∷ us) (suc j) u e = mapped_set f us j u e

-- one more set
pub map_next : {U : Type 0} (f : U → List ℕ) (us : List U) (i : ℕ) (u : U) (sets new : List (List ℕ)) (s : List ℕ) → i < length us → u ≡ get_or us i u → s ≡ f u → new ≡ sets ++ s ∷ []
    → sets ≡ map f (take i us) → new ≡ map f (take (i + 1) us)
map_next f us i u sets new s h is t e old =
    e ∙ ap (λ l. l ++ s ∷ []) old ∙ ap (λ x. map f (take i us) ++ x ∷ []) (t ∙ ap f is)
    ∙ sym (ap (map f) (take_more us i u h) ∙ map-append f (take i us) (get_or us i u ∷ []))

pub map_whole : {U : Type 0} (f : U → List ℕ) (us : List U) (i : ℕ) (sets : List (List ℕ)) → length us ≤ i → sets ≡ map f (take i us) → sets ≡ map f us
map_whole f us i sets h e = e ∙ ap (map f) (take_all i us h)

pub map_short : {U : Type 0} (f : U → List ℕ) (us : List U) (sets : List (List ℕ)) → length us ≤ 256 → sets ≡ map f us → length sets ≤ 256
map_short f us sets h e = let same : length sets ≡ length us = ap length e ∙ length-map us f in omega (arith, same)

in_column : {U : Type 0} (f : U → List ℕ) (us : List U) (c : ColumnTable) (e j : ℕ) (u : U) → AreColumnsOf (map f us) c → slice_get us j ≡ Some u → Has (column_at c e) j → Has (f u) e
in_column f us c e j u all g h = from_has e (f u) (ap (has nat_cmp e) (sym (mapped_set f us j u g)) ∙ sym (all.each e j) ∙ has_from j (column_at c e) h)

pub needs_columns : {U : Type 0} (needs : U → ℕ → List ℕ) (us : List U) (k : ℕ) (sets : List (List ℕ)) (c : ColumnTable) → sets ≡ map (λ u. needs u k) us → AreColumnsOf sets c → AreNeeds needs us k c
needs_columns needs us k sets c s all e j u g h = in_column (λ u. needs u k) us c e j u (subst (λ l. AreColumnsOf l c) s all) g h

pub lacks_columns : {U : Type 0} (lacking : U → ℕ → ℕ → Bool) (asked : List ℕ) (us : List U) (k : ℕ) (sets : List (List ℕ)) (c : ColumnTable) → sets ≡ map (λ u. filter (lacking u k) asked) us → AreColumnsOf sets c → AreLacks lacking us k c
lacks_columns lacking asked us k sets c s all e j u g h = (filter_cases (lacking u k) asked e (in_column (λ u. filter (lacking u k) asked) us c e j u (subst (λ l. AreColumnsOf l c) s all) g h)).1

-- ---- all indices

pub all_more : (j : ℕ) (all new : List ℕ) → new ≡ put nat_cmp j all → AreAllBelow j all → AreAllBelow (j + 1) new
all_more j all new e f i h = subst (λ l. Has l i) (sym e) (Has-put nat_linear j all i (elim (last i j h) [ inl s ↦ inl s | inr l ↦ inr (f i l) ]))
  where
    last : (i j : ℕ) → i < j + 1 → (i ≡ j) ⊎ (i < j)
    last i j h = grind arith

pub all_done : (n j : ℕ) (all : List ℕ) → n ≤ j → AreAllBelow j all → AreAllBelow n all
all_done n j all h f i l = f i (omega arith)

-- ---- the kinds of a block

module _ {U : Type 0} (needs : U → ℕ → List ℕ) (lacking : U → ℕ → ℕ → Bool) (us : List U) where
  -- the first kinds
  pub record AreKindsTo (n : ℕ) (vs : List KindView) : Type 0 where
    pub long : length vs ≡ n
    pub each : (k : ℕ) (v : KindView) → slice_get vs k ≡ Some v → IsKindOf needs lacking us k v

  pub kinds_more : (n : ℕ) (vs new : List KindView) (v : KindView) → new ≡ vs ++ v ∷ [] → IsKindOf needs lacking us n v → AreKindsTo n vs → AreKindsTo (n + 1) new
  kinds_more n vs new v e is f = record {
    long = ap length e ∙ more vs ∙ ap (λ m. m + 1) f.long;
    each = λ k w g. elim (push_got vs v k w (sym (ap (λ l. slice_get l k) e) ∙ g)) [
      | inl h ↦ f.each k w h
      | inr (h, s) ↦ subst (IsKindOf needs lacking us k) s (subst (λ m. IsKindOf needs lacking us m v) (sym (h ∙ f.long)) is)
    ];
  }
    where
      more : (vs : List KindView) → length (vs ++ v ∷ []) ≡ length vs + 1
      more [] = refl
      more (x ∷ vs) = let m = more vs in omega (arith, m)

  pub block_is : (n len : ℕ) (all : List ℕ) (vs : List KindView) → len ≡ length us → AreAllBelow len all → AreKindsTo n vs → IsBlockOf needs lacking us (record { all = all; kinds = vs })
  block_is n len all vs l f k = record { all = subst (λ m. AreAllBelow m all) l f; each = k.each }

-- ---- candidates

-- the elements that come later are among them, and those in none of the columns of the others are left
pub record AreLeftBut (all : List ℕ) (c : ColumnTable) (es rest now : List ℕ) : Type 0 where
  pub later : (e : ℕ) → Has rest e → Has es e
  pub left : AreLeft all c es now

pub left_begins : (all : List ℕ) (c : ColumnTable) (es rest : List ℕ) → rest ≡ es → AreLeftBut all c es rest all
left_begins all c es rest e = record { later = λ x h. subst (λ l. Has l x) e h; left = λ j h f. h }

pub left_step : (all : List ℕ) (c : ColumnTable) (es rest next left new column : List ℕ) (e : ℕ) → rest ≡ e ∷ next → column ≡ column_at c e → new ≡ filter (λ j. not (has nat_cmp j column)) left → AreLeftBut all c es rest left
    → AreLeftBut all c es next new
left_step all c es rest next left new column e is col n f = record {
  later = λ x h. f.later x (subst (λ l. Has l x) (sym is) (inr h));
  left = λ j h clear.
      subst (λ l. Has l j) (sym n)
      (Has-filter (λ i. not (has nat_cmp i column)) left j (f.left j h clear)
      (ap not (false_if (has nat_cmp j column) (λ t. clear e (f.later e (subst (λ l. Has l e) (sym is) (inl refl))) (subst (λ l. Has l j) col (from_has j column t))))));
}

pub staying_is : (all needs asks first left es fs : List ℕ) (v : KindView) → es ≡ filter (λ e. not (has nat_cmp e needs)) v.needs.met → fs ≡ filter (λ e. has nat_cmp e asks) v.lacks.met
    → AreLeft all v.needs es first → AreLeft first v.lacks fs left → AreStaying all needs asks v left
staying_is all needs asks first left es fs v e f g h j m stays =
    h j (g j m (λ x i c. lost (has nat_cmp x needs) (filter_cases (λ z. not (has nat_cmp z needs)) v.needs.met x (subst (λ l. Has l x) e i)).1 (has_from x needs (stays.needed x c))))
    (λ x i c. stays.lacked x c (from_has x asks (filter_cases (λ z. has nat_cmp z asks) v.lacks.met x (subst (λ l. Has l x) f i)).1))
  where
    lost : (b : Bool) → not b ≡ true → b ≡ true → ⊥
    lost true i k = false_is_true i
    lost false i k = false_is_true k

pub candidates_begin : (needs asks : ℕ → List ℕ) (b : BlockView) → HasCandidates needs asks b b.all
candidates_begin needs asks b j c = c.inside

pub candidates_step : (needs asks : ℕ → List ℕ) (b : BlockView) (k : ℕ) (v : KindView) (left new ns rs : List ℕ) → slice_get b.kinds k ≡ Some v → ns ≡ needs k → rs ≡ asks k → AreStaying left ns rs v new
    → HasCandidates needs asks b left → HasCandidates needs asks b new
candidates_step needs asks b k v left new ns rs e n r f g j c =
    f j (g j c) (subst (λ l. StaysIn l rs v j) (sym n) (subst (λ l. StaysIn (needs k) l v j) (sym r) (c.stays k v e)))

-- ---- an item below the given one is a candidate

pub candidate : {U : Type 0} (needs : U → ℕ → List ℕ) (lacking : U → ℕ → ℕ → Bool) (us : List U) (b : BlockView) (needed asked : ℕ → List ℕ) (j : ℕ) (u : U) → IsBlockOf needs lacking us b → j < length us → slice_get us j ≡ Some u
    → ((k e : ℕ) → Has (needs u k) e → Has (needed k) e) → ((k e : ℕ) → Has (asked k) e → lacking u k e ≡ false) → IsCandidate needed asked b j
candidate needs lacking us b needed asked j u block h g f r = record {
  inside = block.all j h;
  stays = λ k v i. record {
    needed = λ e c. f k e ((block.each k v i).needed e j u g c);
    lacked = λ e c a. false_is_true (sym (r k e a) ∙ (block.each k v i).lacked e j u g c);
  };
}
