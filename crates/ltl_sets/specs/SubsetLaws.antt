-- Subsets of a fixed set as predicates: what union, intersection and insertion do to the predicates.
use Rattle.std.proofs.Common.{◌≡◌, Bool, true, false, cond, ◌||◌, ◌&&◌, ◌⊎◌, inl, inr, List, [], ◌∷◌, refl, sym, ◌∙◌, ap, subst}
use Rattle.std.specs.declared.cmp.Ordering.{Ordering}
use Rattle.std.specs.declared.cmp.Ordering.TheVariants.{Less, Equal, Greater}
use Rattle.std.specs.Bool.{Decides}
use Rattle.std.specs.List.{filter}
use Rattle.std.specs.Ordering.{ordering_then}
use Rattle.std.specs.Cmp.Lexicographic.{slice_cmp}
use Rattle.std.proofs.lemmas.Bool.Decides.{same_from_decides, Decides-like}
use Rattle.std.proofs.lemmas.Cmp.{tied_itself}
use Rattle.ltl_spec.specs.Collections.Sets.{Has, IsRising, put, union, has, is_subset, IsLinearOrder}
use Rattle.ltl_spec.proofs.Collections.SetLaws.{all_at, put_cases, Has-put, union_cases, union_left, union_right, IsRising-put, IsRising-union, same_members, has_Decides, is_subset_Decides, filter_cases, Has-filter, IsRising-filter}

-- tests that agree on the list leave the same of it
pub same_filter : {K : Type 0} (p q : K → Bool) (us : List K) → ((z : K) → Has us z → p z ≡ q z) → filter p us ≡ filter q us
same_filter p q [] f = refl
same_filter p q (u ∷ us) f = λ i. cond (f u (inl refl) i) (u ∷ same_filter p q us (λ z h. f z (inr h)) i) (same_filter p q us (λ z h. f z (inr h)) i)

-- a test of those that pass is a test of all
filter_twice : {K : Type 0} (p q : K → Bool) (us : List K) → filter (λ z. p z && q z) us ≡ filter q (filter p us)
filter_twice p q [] = refl
filter_twice p q (u ∷ us) = ap (λ ws. cond (p u && q u) (u ∷ ws) ws) (filter_twice p q us) ∙ by (p u)
  where
    by : (b : Bool) → cond (b && q u) (u ∷ filter q (filter p us)) (filter q (filter p us)) ≡ filter q (cond b (u ∷ filter p us) (filter p us))
    by true = refl
    by false = refl

pub filter_none : {K : Type 0} (p : K → Bool) (us : List K) → ((z : K) → Has us z → p z ≡ false) → filter p us ≡ []
filter_none p [] f = refl
filter_none p (u ∷ us) f = ap (λ b. cond b (u ∷ filter p us) (filter p us)) (f u (inl refl)) ∙ filter_none p us (λ z h. f z (inr h))

pub either_true : (a b : Bool) → (a || b) ≡ true → (a ≡ true) ⊎ (b ≡ true)
either_true true b e = inl refl
either_true false b e = inr e

pub left_or : (a b : Bool) → a ≡ true → (a || b) ≡ true
left_or true b e = refl
left_or false b e = cc

pub right_or : (a b : Bool) → b ≡ true → (a || b) ≡ true
right_or true b e = refl
right_or false b e = e

never : true ≡ false → ⊥
never e = cc

itself : (b : Bool) → Decides b (b ≡ true)
itself b = (λ e. e, λ e. e)

module _ {K : Type 0} {cmp : K → K → Ordering} (o : IsLinearOrder cmp) (us : List K) (rising : IsRising cmp us) where
  pub IsRising-subset : (p : K → Bool) → IsRising cmp (filter p us)
  IsRising-subset p = IsRising-filter cmp p us rising

  pub union_tests : (p q r : K → Bool) → ((z : K) → Has us z → r z ≡ (p z || q z)) → filter r us ≡ union cmp (filter p us) (filter q us)
  union_tests p q r f =
      same_members o (filter r us) (union cmp (filter p us) (filter q us)) (IsRising-subset r) (IsRising-union o (filter p us) (filter q us) (IsRising-subset q))
      (λ z h.
      let (m, e) = filter_cases r us z h in
      elim (either_true (p z) (q z) (sym (f z m) ∙ e)) [
        | inl t ↦ union_left o (filter p us) (filter q us) z (Has-filter p us z m t)
        | inr t ↦ union_right o (filter p us) (filter q us) z (Has-filter q us z m t)
      ])
      (λ z h. elim (union_cases o (filter p us) (filter q us) z h) [
        | inl m ↦ let (n, e) = filter_cases p us z m in Has-filter r us z n (f z n ∙ left_or (p z) (q z) e)
        | inr m ↦ let (n, e) = filter_cases q us z m in Has-filter r us z n (f z n ∙ right_or (p z) (q z) e)
      ])

  pub put_test : (x : K) (p r : K → Bool) → Has us x → r x ≡ true → ((z : K) → Has us z → p z ≡ true → r z ≡ true) → ((z : K) → Has us z → r z ≡ true → (z ≡ x) ⊎ (p z ≡ true)) → filter r us ≡ put cmp x (filter p us)
  put_test x p r here new old back =
      same_members o (filter r us) (put cmp x (filter p us)) (IsRising-subset r) (IsRising-put o x (filter p us) (IsRising-subset p))
      (λ z h.
      let (m, e) = filter_cases r us z h in
      elim (back z m e) [
        | inl i ↦ Has-put o x (filter p us) z (inl i)
        | inr t ↦ Has-put o x (filter p us) z (inr (Has-filter p us z m t))
      ])
      (λ z h. elim (put_cases cmp x (filter p us) z h) [
        | inl i ↦ Has-filter r us z (subst (Has us) (sym i) here) (ap r i ∙ new)
        | inr m ↦ let (n, e) = filter_cases p us z m in Has-filter r us z n (old z n e)
      ])

  pub has_test : (x : K) (p : K → Bool) → Has us x → has cmp x (filter p us) ≡ p x
  has_test x p here =
      same_from_decides (has cmp x (filter p us)) (p x) (has_Decides o x (filter p us))
      (Decides-like (p x) (λ e. Has-filter p us x here e) (λ h. (filter_cases p us x h).1) (itself (p x)))

  pub common_tests : (p q r : K → Bool) → ((z : K) → Has us z → r z ≡ (p z && q z)) → filter r us ≡ filter (λ z. has cmp z (filter q us)) (filter p us)
  common_tests p q r f =
      same_filter r (λ z. p z && has cmp z (filter q us)) us (λ z m. f z m ∙ ap (λ b. p z && b) (sym (has_test z q m)))
      ∙ filter_twice p (λ z. has cmp z (filter q us)) us

  pub subset_tests : (p q : K → Bool) → Decides (is_subset cmp (filter p us) (filter q us)) ((z : K) → Has us z → p z ≡ true → q z ≡ true)
  subset_tests p q =
      Decides-like (is_subset cmp (filter p us) (filter q us))
      (λ f z m e. (filter_cases q us z (f z (Has-filter p us z m e))).1)
      (λ f z h. let (m, e) = filter_cases p us z h in Has-filter q us z m (f z m e))
      (is_subset_Decides o (filter p us) (filter q us))

module _ {K : Type 0} {cmp : K → K → Ordering} (o : IsLinearOrder cmp) (x : K) (p : K → Bool) where
  not_below_itself : (y : K) → cmp y y ≡ Less → ⊥
  not_below_itself y e = different (sym (tied_itself o.total y) ∙ e)
    where
      different : Equal ≡ Less → ⊥
      different d = cc

  -- what is below x is not x, and so is what is above it
  below_other : (z : K) → cmp z x ≡ Less → z ≡ x → ⊥
  below_other z e i = not_below_itself x (subst (λ w. cmp w x ≡ Less) i e)

  above_other : (z : K) → cmp x z ≡ Less → z ≡ x → ⊥
  above_other z e i = not_below_itself x (subst (λ w. cmp x w ≡ Less) i e)

  -- an element at x or below it of a list whose first element is u
  first_below : (u : K) (us : List K) → IsRising cmp (u ∷ us) → Has us x → cmp u x ≡ Less
  first_below u us r h = all_at (λ z. cmp u z ≡ Less) us x r.0 h

  -- the first that passes stands before the others
  pub first_taken : (r : K → Bool) → r x ≡ false → p x ≡ true → (us : List K) → IsRising cmp us → Has us x
      → ((z : K) → Has us z → (z ≡ x → ⊥) → r z ≡ p z) → ((z : K) → Has us z → cmp z x ≡ Less → p z ≡ false) → filter p us ≡ x ∷ filter r us
  first_taken r gone there [] rising h kept before = absurd h
  first_taken r gone there (u ∷ us) rising (inl e) kept before =
      ap (λ b. cond b (u ∷ filter p us) (filter p us)) (ap p (sym e) ∙ there)
      ∙ (λ i. e1 i ∷ same_filter p r us (λ z h. sym (kept z (inr h) (above_other z (subst (λ w. cmp w z ≡ Less) e1 (all_at (λ w. cmp u w ≡ Less) us z rising.0 h))))) i)
      ∙ ap (λ b. x ∷ cond b (u ∷ filter r us) (filter r us)) (sym (ap r (sym e) ∙ gone))
    where
      e1 : u ≡ x
      e1 = sym e
  first_taken r gone there (u ∷ us) rising (inr h) kept before =
      let below : cmp u x ≡ Less = first_below u us rising h in
      let none : p u ≡ false = before u (inl refl) below in
      ap (λ b. cond b (u ∷ filter p us) (filter p us)) none
      ∙ first_taken r gone there us rising.1 h (λ z m. kept z (inr m)) (λ z m. before z (inr m))
      ∙ ap (λ b. x ∷ cond b (u ∷ filter r us) (filter r us)) (sym (kept u (inl refl) (below_other u below) ∙ none))

  module _ (q : K → Bool) (mine : p x ≡ true) (lacks : q x ≡ false) where
    same_start : (b c : Bool) → b ≡ c → (u : K) (vs ws : List K) (r : Ordering) → slice_cmp cmp vs ws ≡ r → slice_cmp cmp (cond b (u ∷ vs) vs) (cond c (u ∷ ws) ws) ≡ r
    same_start true true e u vs ws r h = ap (λ t. ordering_then t (slice_cmp cmp vs ws)) (tied_itself o.total u) ∙ h
    same_start true false e u vs ws r h = absurd (never e)
    same_start false true e u vs ws r h = absurd (never (sym e))
    same_start false false e u vs ws r h = h

    -- a list that begins with x is below one that goes on above x, and else above it
    ends_first : (ys vs : List K) → ys ≡ [] → slice_cmp cmp (x ∷ vs) ys ≡ Greater
    ends_first ys vs e = ap (slice_cmp cmp (x ∷ vs)) e

    goes_on : (ys vs : List K) (z : K) → Has ys z → ((y : K) → Has ys y → cmp x y ≡ Less) → slice_cmp cmp (x ∷ vs) ys ≡ Less
    goes_on [] vs z h f = absurd h
    goes_on (y ∷ ys) vs z h f = ap (λ t. ordering_then t (slice_cmp cmp vs ys)) (f y (inl refl))

    here : (u : K) (us : List K) (r : Ordering) → x ≡ u → slice_cmp cmp (x ∷ filter p us) (filter q us) ≡ r → slice_cmp cmp (filter p (u ∷ us)) (filter q (u ∷ us)) ≡ r
    here u us r e h =
        ap (λ b. slice_cmp cmp (cond b (u ∷ filter p us) (filter p us)) (filter q (u ∷ us))) (ap p (sym e) ∙ mine)
        ∙ ap (λ b. slice_cmp cmp (u ∷ filter p us) (cond b (u ∷ filter q us) (filter q us))) (ap q (sym e) ∙ lacks)
        ∙ ap (λ v. slice_cmp cmp (v ∷ filter p us) (filter q us)) (sym e)
        ∙ h

    pub cmp_goes_on : (us : List K) → IsRising cmp us → Has us x → ((z : K) → Has us z → cmp z x ≡ Less → p z ≡ q z)
        → (y : K) → Has us y → cmp x y ≡ Less → q y ≡ true → slice_cmp cmp (filter p us) (filter q us) ≡ Less
    cmp_goes_on [] rising h agree y m above t = absurd h
    cmp_goes_on (u ∷ us) rising (inl e) agree y (inl i) above t = absurd (above_other y above (i ∙ sym e))
    cmp_goes_on (u ∷ us) rising (inl e) agree y (inr m) above t =
        here u us Less e (goes_on (filter q us) (filter p us) y (Has-filter q us y m t)
        (λ z k. subst (λ w. cmp w z ≡ Less) (sym e) (all_at (λ w. cmp u w ≡ Less) us z rising.0 (filter_cases q us z k).0)))
    cmp_goes_on (u ∷ us) rising (inr h) agree y (inl i) above t =
        absurd (not_below_itself x (o.total.trans x y x above (subst (λ w. cmp w x ≡ Less) (sym i) (first_below u us rising h))))
    cmp_goes_on (u ∷ us) rising (inr h) agree y (inr m) above t =
        same_start (p u) (q u) (agree u (inl refl) (first_below u us rising h)) u (filter p us) (filter q us) Less
        (cmp_goes_on us rising.1 h (λ z k. agree z (inr k)) y m above t)

    pub cmp_ends : (us : List K) → IsRising cmp us → Has us x → ((z : K) → Has us z → cmp z x ≡ Less → p z ≡ q z)
        → ((y : K) → Has us y → cmp x y ≡ Less → q y ≡ false) → slice_cmp cmp (filter p us) (filter q us) ≡ Greater
    cmp_ends [] rising h agree none = absurd h
    cmp_ends (u ∷ us) rising (inl e) agree none =
        here u us Greater e (ends_first (filter q us) (filter p us)
        (filter_none q us (λ z m. none z (inr m) (subst (λ w. cmp w z ≡ Less) (sym e) (all_at (λ w. cmp u w ≡ Less) us z rising.0 m)))))
    cmp_ends (u ∷ us) rising (inr h) agree none =
        same_start (p u) (q u) (agree u (inl refl) (first_below u us rising h)) u (filter p us) (filter q us) Greater
        (cmp_ends us rising.1 h (λ z k. agree z (inr k)) (λ y m. none y (inr m)))
