-- Laws of sets as rising lists: their members, subsets, unions and filters. Two sets with the same members are equal.
use Rattle.std.proofs.Common.{◌≡◌, Bool, true, false, cond, ◌||◌, ◌&&◌, ◌⊎◌, inl, inr, List, [], ◌∷◌, ◌++◌, refl, sym, ◌∙◌, ap, subst}
use Rattle.std.specs.declared.cmp.Ordering.{Ordering}
use Rattle.std.specs.declared.cmp.Ordering.TheVariants.{Less, Equal, Greater}
use Rattle.std.specs.Bool.{Decides}
use Rattle.std.specs.List.{AllByRecursion, filter}
use Rattle.std.specs.Ordering.{is_eq, ordering_reverse}
use Rattle.std.proofs.lemmas.Cmp.{tied_itself}
use Rattle.std.proofs.lemmas.Bool.{false≢true}
use Rattle.ltl_spec.specs.Collections.Sets.{by_order, Has, IsRising, put, set_of, union, has, is_subset, IsLinearOrder}

-- what holds of each element holds of one that the list has
pub all_at : {K : Type 0} (P : K → Type 0) (xs : List K) (z : K) → AllByRecursion P xs → Has xs z → P z
all_at P [] z a h = absurd h
all_at P (x ∷ xs) z a (inl e) = subst P (sym e) a.0
all_at P (x ∷ xs) z a (inr h) = all_at P xs z a.1 h

-- and the other way round
pub all_from : {K : Type 0} (P : K → Type 0) (xs : List K) → ((z : K) → Has xs z → P z) → AllByRecursion P xs
all_from P [] f = tt
all_from P (x ∷ xs) f = (f x (inl refl), all_from P xs (λ z h. f z (inr h)))

-- the elements of two lists in a row are those of either
pub append_cases : {K : Type 0} (xs ys : List K) (z : K) → Has (xs ++ ys) z → Has xs z ⊎ Has ys z
append_cases [] ys z h = inr h
append_cases (x ∷ xs) ys z (inl e) = inl (inl e)
append_cases (x ∷ xs) ys z (inr h) = elim (append_cases xs ys z h) [ inl k ↦ inl (inr k) | inr k ↦ inr k ]

pub append_left : {K : Type 0} (xs ys : List K) (z : K) → Has xs z → Has (xs ++ ys) z
append_left [] ys z h = absurd h
append_left (x ∷ xs) ys z (inl e) = inl e
append_left (x ∷ xs) ys z (inr h) = inr (append_left xs ys z h)

pub append_right : {K : Type 0} (xs ys : List K) (z : K) → Has ys z → Has (xs ++ ys) z
append_right [] ys z h = h
append_right (x ∷ xs) ys z h = inr (append_right xs ys z h)

-- a member of a set to which x was put is x or was there
pub put_cases : {K : Type 0} (cmp : K → K → Ordering) (x : K) (ys : List K) (z : K) → Has (put cmp x ys) z → (z ≡ x) ⊎ Has ys z
put_cases cmp x [] z h = h
put_cases cmp x (y ∷ ys) z h =
    elim (cmp x y) as (λ o. Has (by_order o (x ∷ y ∷ ys) (y ∷ ys) (y ∷ put cmp x ys)) z → (z ≡ x) ⊎ Has (y ∷ ys) z) [
      | Less ↦ λ k. k
      | Equal ↦ λ k. inr k
      | Greater ↦ elim [
        | inl e ↦ inr (inl e)
        | inr k ↦ elim (put_cases cmp x ys z k) [ inl e ↦ inl e | inr m ↦ inr (inr m) ]
      ]
    ] h

-- what was there stays
pub put_old : {K : Type 0} (cmp : K → K → Ordering) (x : K) (ys : List K) (z : K) → Has ys z → Has (put cmp x ys) z
put_old cmp x [] z h = absurd h
put_old cmp x (y ∷ ys) z h =
    elim (cmp x y) as (λ o. Has (by_order o (x ∷ y ∷ ys) (y ∷ ys) (y ∷ put cmp x ys)) z) [
      | Less ↦ inr h
      | Equal ↦ h
      | Greater ↦ elim h [ inl e ↦ inl e | inr k ↦ inr (put_old cmp x ys z k) ]
    ]

module _ {K : Type 0} {cmp : K → K → Ordering} (o : IsLinearOrder cmp) where
  -- the new one is there
  pub put_new : (x : K) (ys : List K) → Has (put cmp x ys) x
  put_new x [] = inl refl
  put_new x (y ∷ ys) =
      elim (cmp x y) as (λ r. cmp x y ≡ r → Has (by_order r (x ∷ y ∷ ys) (y ∷ ys) (y ∷ put cmp x ys)) x) [
        | Less ↦ λ e. inl refl
        | Equal ↦ λ e. inl (o.exact x y e)
        | Greater ↦ λ e. inr (put_new x ys)
      ] refl

  pub Has-put : (x : K) (ys : List K) (z : K) → (z ≡ x) ⊎ Has ys z → Has (put cmp x ys) z
  Has-put x ys z (inl e) = subst (λ w. Has (put cmp x ys) w) (sym e) (put_new x ys)
  Has-put x ys z (inr h) = put_old cmp x ys z h

  -- the members of the set of a list are its elements
  pub set_of_cases : (xs : List K) (z : K) → Has (set_of cmp xs) z → Has xs z
  set_of_cases [] z h = h
  set_of_cases (x ∷ xs) z h = elim (put_cases cmp x (set_of cmp xs) z h) [ inl e ↦ inl e | inr k ↦ inr (set_of_cases xs z k) ]

  pub Has-set_of : (xs : List K) (z : K) → Has xs z → Has (set_of cmp xs) z
  Has-set_of [] z h = h
  Has-set_of (x ∷ xs) z (inl e) = Has-put x (set_of cmp xs) z (inl e)
  Has-set_of (x ∷ xs) z (inr h) = Has-put x (set_of cmp xs) z (inr (Has-set_of xs z h))

  -- the members of a union are those of either set
  pub union_cases : (xs ys : List K) (z : K) → Has (union cmp xs ys) z → Has xs z ⊎ Has ys z
  union_cases [] ys z h = inr h
  union_cases (x ∷ xs) ys z h =
      elim (put_cases cmp x (union cmp xs ys) z h) [
        | inl e ↦ inl (inl e)
        | inr k ↦ elim (union_cases xs ys z k) [ inl m ↦ inl (inr m) | inr m ↦ inr m ]
      ]

  pub union_left : (xs ys : List K) (z : K) → Has xs z → Has (union cmp xs ys) z
  union_left [] ys z h = absurd h
  union_left (x ∷ xs) ys z (inl e) = Has-put x (union cmp xs ys) z (inl e)
  union_left (x ∷ xs) ys z (inr h) = Has-put x (union cmp xs ys) z (inr (union_left xs ys z h))

  pub union_right : (xs ys : List K) (z : K) → Has ys z → Has (union cmp xs ys) z
  union_right [] ys z h = h
  union_right (x ∷ xs) ys z h = Has-put x (union cmp xs ys) z (inr (union_right xs ys z h))

  -- x is below each element of a rising list whose first element it is below
  below_rest : (x y : K) (ys : List K) → cmp x y ≡ Less → IsRising cmp (y ∷ ys) → AllByRecursion (λ z. cmp x z ≡ Less) (y ∷ ys)
  below_rest x y ys e h = (e, all_from (λ z. cmp x z ≡ Less) ys (λ z m. o.total.trans x y z e (all_at (λ w. cmp y w ≡ Less) ys z h.0 m)))

  turned : (x y : K) → cmp x y ≡ Greater → cmp y x ≡ Less
  turned x y e = o.total.antisymm y x ∙ ap ordering_reverse e

  -- putting, collecting and uniting give sets
  pub IsRising-put : (x : K) (ys : List K) → IsRising cmp ys → IsRising cmp (put cmp x ys)
  IsRising-put x [] h = (tt, tt)
  IsRising-put x (y ∷ ys) h =
      elim (cmp x y) as (λ r. cmp x y ≡ r → IsRising cmp (by_order r (x ∷ y ∷ ys) (y ∷ ys) (y ∷ put cmp x ys))) [
        | Less ↦ λ e. (below_rest x y ys e h, h)
        | Equal ↦ λ e. h
        | Greater ↦ λ e. (
          all_from (λ z. cmp y z ≡ Less) (put cmp x ys)
              (λ z m. elim (put_cases cmp x ys z m) [ inl i ↦ subst (λ w. cmp y w ≡ Less) (sym i) (turned x y e) | inr k ↦ all_at (λ w. cmp y w ≡ Less) ys z h.0 k ]),
          IsRising-put x ys h.1,
        )
      ] refl

  pub IsRising-set_of : (xs : List K) → IsRising cmp (set_of cmp xs)
  IsRising-set_of [] = tt
  IsRising-set_of (x ∷ xs) = IsRising-put x (set_of cmp xs) (IsRising-set_of xs)

  pub IsRising-union : (xs ys : List K) → IsRising cmp ys → IsRising cmp (union cmp xs ys)
  IsRising-union [] ys h = h
  IsRising-union (x ∷ xs) ys h = IsRising-put x (union cmp xs ys) (IsRising-union xs ys h)

  -- nothing is below itself
  pub irreflexive : (x y : K) → cmp x y ≡ Less → x ≡ y → ⊥
  irreflexive x y e i = different (sym (tied_itself o.total x) ∙ ap (cmp x) i ∙ e)
    where
      different : Equal ≡ Less → ⊥
      different d = cc

  -- of two sets with the same members the first elements are equal
  same_first : (x y : K) (xs ys : List K) → IsRising cmp (x ∷ xs) → IsRising cmp (y ∷ ys) → Has (y ∷ ys) x → Has (x ∷ xs) y → x ≡ y
  same_first x y xs ys r s (inl e) k = e
  same_first x y xs ys r s (inr h) (inl e) = sym e
  same_first x y xs ys r s (inr h) (inr k) =
      let down : cmp y x ≡ Less = all_at (λ w. cmp y w ≡ Less) ys x s.0 h in
      let up : cmp x y ≡ Less = all_at (λ w. cmp x w ≡ Less) xs y r.0 k in
      absurd (irreflexive x x (o.total.trans x y x up down) refl)

  -- the members of the rest are those members that aren't first
  rest_within : (x y : K) (xs ys : List K) → x ≡ y → IsRising cmp (x ∷ xs) → ((z : K) → Has (x ∷ xs) z → Has (y ∷ ys) z) → (z : K) → Has xs z → Has ys z
  rest_within x y xs ys e r f z h =
      elim (f z (inr h)) [
        | inl i ↦ absurd (irreflexive x z (all_at (λ w. cmp x w ≡ Less) xs z r.0 h) (e ∙ sym i))
        | inr k ↦ k
      ]

  -- two sets with the same members are equal
  pub same_members : (xs ys : List K) → IsRising cmp xs → IsRising cmp ys → ((z : K) → Has xs z → Has ys z) → ((z : K) → Has ys z → Has xs z) → xs ≡ ys
  same_members [] [] r s f g = refl
  same_members [] (y ∷ ys) r s f g = absurd (g y (inl refl))
  same_members (x ∷ xs) [] r s f g = absurd (f x (inl refl))
  same_members (x ∷ xs) (y ∷ ys) r s f g =
      let e = same_first x y xs ys r s (f x (inl refl)) (g y (inl refl)) in
      let t = same_members xs ys r.1 s.1 (rest_within x y xs ys e r f) (rest_within y x ys xs (sym e) s g) in
      λ i. e i ∷ t i

  -- the test finds exactly the members
  pub has_Decides : (x : K) (ys : List K) → Decides (has cmp x ys) (Has ys x)
  has_Decides x [] = (λ e. false≢true e, λ h. absurd h)
  has_Decides x (y ∷ ys) =
      elim (cmp x y) as (λ r. cmp x y ≡ r → Decides (is_eq r || has cmp x ys) (Has (y ∷ ys) x)) [
        | Less ↦ λ e. (λ t. inr ((has_Decides x ys).0 t), elim [ inl i ↦ absurd (irreflexive x y e i) | inr h ↦ (has_Decides x ys).1 h ])
        | Equal ↦ λ e. (λ t. inl (o.exact x y e), λ h. refl)
        | Greater ↦ λ e. (λ t. inr ((has_Decides x ys).0 t), elim [ inl i ↦ absurd (irreflexive y x (turned x y e) (sym i)) | inr h ↦ (has_Decides x ys).1 h ])
      ] refl

  pub is_subset_Decides : (xs ys : List K) → Decides (is_subset cmp xs ys) ((z : K) → Has xs z → Has ys z)
  is_subset_Decides [] ys = (λ e z h. absurd h, λ f. refl)
  is_subset_Decides (x ∷ xs) ys =
      let here = has_Decides x ys in
      let rest = is_subset_Decides xs ys in
      elim (has cmp x ys) as (λ b. Decides b (Has ys x) → Decides (b && is_subset cmp xs ys) ((z : K) → Has (x ∷ xs) z → Has ys z)) [
        | true ↦ λ d. (
          λ t z. elim [ inl e ↦ subst (λ w. Has ys w) (sym e) (d.0 refl) | inr h ↦ rest.0 t z h ],
          λ f. rest.1 (λ z h. f z (inr h)),
        )
        | false ↦ λ d. (λ t. absurd (false≢true t), λ f. d.1 (f x (inl refl)))
      ] here

  -- unions: the order of the sets, their grouping and repetition play no part
  pub union_comm : (xs ys : List K) → IsRising cmp xs → IsRising cmp ys → union cmp xs ys ≡ union cmp ys xs
  union_comm xs ys r s =
      same_members (union cmp xs ys) (union cmp ys xs) (IsRising-union xs ys s) (IsRising-union ys xs r) (λ z h. swap xs ys z h) (λ z h. swap ys xs z h)
    where
      swap : (us vs : List K) (z : K) → Has (union cmp us vs) z → Has (union cmp vs us) z
      swap us vs z h = elim (union_cases us vs z h) [ inl m ↦ union_right vs us z m | inr m ↦ union_left vs us z m ]

  pub union_assoc : (xs ys zs : List K) → IsRising cmp zs → union cmp (union cmp xs ys) zs ≡ union cmp xs (union cmp ys zs)
  union_assoc xs ys zs t =
      same_members (union cmp (union cmp xs ys) zs) (union cmp xs (union cmp ys zs)) (IsRising-union (union cmp xs ys) zs t) (IsRising-union xs (union cmp ys zs) (IsRising-union ys zs t))
      (λ z h. elim (union_cases (union cmp xs ys) zs z h) [
        | inl m ↦ elim (union_cases xs ys z m) [ inl n ↦ union_left xs (union cmp ys zs) z n | inr n ↦ union_right xs (union cmp ys zs) z (union_left ys zs z n) ]
        | inr m ↦ union_right xs (union cmp ys zs) z (union_right ys zs z m)
      ])
      (λ z h. elim (union_cases xs (union cmp ys zs) z h) [
        | inl m ↦ union_left (union cmp xs ys) zs z (union_left xs ys z m)
        | inr m ↦ elim (union_cases ys zs z m) [ inl n ↦ union_left (union cmp xs ys) zs z (union_right xs ys z n) | inr n ↦ union_right (union cmp xs ys) zs z n ]
      ])

  pub union_nil : (xs : List K) → IsRising cmp xs → union cmp xs [] ≡ xs
  union_nil xs r = same_members (union cmp xs []) xs (IsRising-union xs [] tt) r (λ z h. elim (union_cases xs [] z h) [ inl m ↦ m | inr m ↦ absurd m ]) (λ z h. union_left xs [] z h)

  -- the set of a set is itself, and lists with the same elements have one set
  pub set_of_same : (xs : List K) → IsRising cmp xs → set_of cmp xs ≡ xs
  set_of_same xs r = same_members (set_of cmp xs) xs (IsRising-set_of xs) r (set_of_cases xs) (Has-set_of xs)

  pub set_of_alike : (xs ys : List K) → ((z : K) → Has xs z → Has ys z) → ((z : K) → Has ys z → Has xs z) → set_of cmp xs ≡ set_of cmp ys
  set_of_alike xs ys f g =
      same_members (set_of cmp xs) (set_of cmp ys) (IsRising-set_of xs) (IsRising-set_of ys) (λ z h. Has-set_of ys z (f z (set_of_cases xs z h))) (λ z h. Has-set_of xs z (g z (set_of_cases ys z h)))

-- what a filter leaves: the elements that pass
pub filter_cases : {K : Type 0} (p : K → Bool) (xs : List K) (z : K) → Has (filter p xs) z → Has xs z × (p z ≡ true)
filter_cases p [] z h = absurd h
filter_cases p (x ∷ xs) z h =
    elim (p x) as (λ b. p x ≡ b → Has (cond b (x ∷ filter p xs) (filter p xs)) z → Has (x ∷ xs) z × (p z ≡ true)) [
      | true ↦ λ e. elim [ inl i ↦ (inl i, ap p i ∙ e) | inr k ↦ (inr (filter_cases p xs z k).0, (filter_cases p xs z k).1) ]
      | false ↦ λ e k. (inr (filter_cases p xs z k).0, (filter_cases p xs z k).1)
    ] refl h

pub Has-filter : {K : Type 0} (p : K → Bool) (xs : List K) (z : K) → Has xs z → p z ≡ true → Has (filter p xs) z
Has-filter p [] z h t = absurd h
Has-filter p (x ∷ xs) z h t =
    elim (p x) as (λ b. p x ≡ b → Has (x ∷ xs) z → Has (cond b (x ∷ filter p xs) (filter p xs)) z) [
      | true ↦ λ e. elim [ inl i ↦ inl i | inr k ↦ inr (Has-filter p xs z k t) ]
      | false ↦ λ e. elim [ inl i ↦ absurd (false≢true (sym e ∙ ap p (sym i) ∙ t)) | inr k ↦ Has-filter p xs z k t ]
    ] refl h

pub IsRising-filter : {K : Type 0} (cmp : K → K → Ordering) (p : K → Bool) (xs : List K) → IsRising cmp xs → IsRising cmp (filter p xs)
IsRising-filter cmp p [] r = tt
IsRising-filter cmp p (x ∷ xs) r =
    let rest = IsRising-filter cmp p xs r.1 in
    elim (p x) as (λ b. IsRising cmp (cond b (x ∷ filter p xs) (filter p xs))) [
      | true ↦ (all_from (λ z. cmp x z ≡ Less) (filter p xs) (λ z h. all_at (λ w. cmp x w ≡ Less) xs z r.0 (filter_cases p xs z h).0), rest)
      | false ↦ rest
    ]
