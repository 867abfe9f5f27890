-- Joins of two lists of cubes, parted by whether cubes have some literals.
use Rattle.std.proofs.Common.{◌≡◌, ◌<◌, ◌⊎◌, Bool, true, false, cond, inl, inr, List, [], ◌∷◌, ◌++◌, length, Some, None, refl, sym, ◌∙◌, ap, subst, arith}
use Rattle.std.specs.Prelude.{flat_map, filter_map, if◌then◌else◌, IfOk, OnOk, Result, Ok, Err}
use Rattle.std.specs.List.{cons_option}
use Rattle.std.proofs.lemmas.List.Elements.{filter_map-append}
use Rattle.std.specs.Bool.{beq}
use Rattle.std.specs.List.{filter}
use Rattle.ltl_spec.specs.Collections.Sets.{Has, IsRising, set_of, union, has, is_subset}
use Rattle.ltl_spec.specs.Transitions.Cubes.{Literal, Cube, literal_cmp, cube_cmp, opposite, is_contradictory, join_cubes}
use Rattle.ltl_spec.proofs.Collections.Orders.{literal_linear, cube_linear}
use Rattle.ltl_spec.proofs.Collections.SetLaws.{append_cases, append_left, append_right, filter_cases, Has-filter, has_Decides, is_subset_Decides, same_members, set_of_alike, set_of_cases, Has-set_of, union_cases, union_left, union_right, IsRising-union}
use Rattle.ltl_spec.proofs.Collections.MemberLaws.{Has-flat_map, flat_map_cases, Has-filter_map, filter_map_cases, any_cases, any_true}
use Rattle.ltl_spec.proofs.Transitions.CubeLaws.{join_cubes_is}
use Rattle.ltl_label.specs.CubesView.{joins, few, joined_cubes, HasFew}
use Rattle.ltl_label.proofs.CubeLists.{set_again, set_append, set_behind, set_longer, set_with_member, same_cube_sets}
use Rattle.std.proofs.lemmas.Grind.{flat_map-append}
use Rattle.std.proofs.lemmas.List.{append-nil, append_assoc}
use Rattle.std.proofs.lemmas.Bool.{lt-ltb}
use Rattle.ltl_spec.specs.Tools.Limits.{stated_limits}

-- ---- members

abbrev pub Joined : List Cube → List Cube → Cube → Type 0
Joined xs ys z = (c : Cube) × (d : Cube) × Has xs c × Has ys d × (join_cubes c d ≡ Some z)

pub joins_cases : (xs ys : List Cube) (z : Cube) → Has (joins xs ys) z → Joined xs ys z
joins_cases xs ys z h =
    let (c, k, m) = flat_map_cases (λ c. filter_map (join_cubes c) ys) xs z h in
    let (d, i, e) = filter_map_cases (join_cubes c) ys z m in
    (c, d, k, i, e)

pub Has-joins : (xs ys : List Cube) (z : Cube) → Joined xs ys z → Has (joins xs ys) z
Has-joins xs ys z (c, d, k, i, e) = Has-flat_map (λ c. filter_map (join_cubes c) ys) xs c z k (Has-filter_map (join_cubes c) ys d z i e)

-- a set's list may be put for the list
across : (xs ys : List Cube) (z : Cube) → set_of cube_cmp xs ≡ set_of cube_cmp ys → Has xs z → Has ys z
across xs ys z e h = set_of_cases cube_linear ys z (subst (λ l. Has l z) e (Has-set_of cube_linear xs z h))

-- ---- cubes that join

no_contradiction_of : (b c : Cube) → ((l : Literal) → Has b l → Has c l) → is_contradictory c ≡ false → is_contradictory b ≡ false
no_contradiction_of b c f e = at (is_contradictory b) refl
  where
    opposed : Cube → Literal → Bool
    opposed a l = has literal_cmp (opposite l) a

    at : (t : Bool) → is_contradictory b ≡ t → t ≡ false
    at false q = refl
    at true q =
        let (l, h, k) = any_cases (opposed b) b q in
        let there = (has_Decides literal_linear (opposite l) c).1 (f (opposite l) ((has_Decides literal_linear (opposite l) b).0 k)) in
        sym (any_true (opposed c) c l (f l h) there) ∙ e

-- two cubes join exactly to what unites them
joined_is : (b c z : Cube) → join_cubes b c ≡ Some z → (z ≡ union literal_cmp b c) × (is_contradictory (union literal_cmp b c) ≡ false)
joined_is b c z e = (join_cubes_is b c z e, at (is_contradictory (union literal_cmp b c)) refl e)
  where
    at : (t : Bool) → is_contradictory (union literal_cmp b c) ≡ t → cond t None (Some (union literal_cmp b c)) ≡ Some z → is_contradictory (union literal_cmp b c) ≡ false
    at false q d = q
    at true q d = absurd (none d)
      where
        none : None ≡ Some z → ⊥
        none d = cc

joined_from : (b c : Cube) → is_contradictory (union literal_cmp b c) ≡ false → join_cubes b c ≡ Some (union literal_cmp b c)
joined_from b c e = ap (λ t. cond t None (Some (union literal_cmp b c))) e

abbrev united : Cube → Cube → Cube
united b c = union literal_cmp b c

-- with literals that the right one has, put to the left one before
left_first : (b c q : Cube) → IsRising literal_cmp c → ((l : Literal) → Has q l → Has c l) → union literal_cmp (union literal_cmp b q) c ≡ union literal_cmp b c
left_first b c q r f =
    same_members literal_linear (united (united b q) c) (united b c) (IsRising-union literal_linear (united b q) c r) (IsRising-union literal_linear b c r)
    (λ l h. elim (union_cases literal_linear (united b q) c l h) [
      | inl k ↦ elim (union_cases literal_linear b q l k) [ inl i ↦ union_left literal_linear b c l i | inr i ↦ union_right literal_linear b c l (f l i) ]
      | inr k ↦ union_right literal_linear b c l k
    ])
    (λ l h. elim (union_cases literal_linear b c l h) [
      | inl k ↦ union_left literal_linear (united b q) c l (union_left literal_linear b q l k)
      | inr k ↦ union_right literal_linear (united b q) c l k
    ])

-- with literals that the left one has, put to the right one before
right_first : (b c q : Cube) → IsRising literal_cmp c → IsRising literal_cmp q → ((l : Literal) → Has q l → Has b l) → union literal_cmp b (union literal_cmp c q) ≡ union literal_cmp b c
right_first b c q r s f =
    same_members literal_linear (united b (united c q)) (united b c) (IsRising-union literal_linear b (united c q) (IsRising-union literal_linear c q s)) (IsRising-union literal_linear b c r)
    (λ l h. elim (union_cases literal_linear b (united c q) l h) [
      | inl k ↦ union_left literal_linear b c l k
      | inr k ↦ elim (union_cases literal_linear c q l k) [ inl i ↦ union_right literal_linear b c l i | inr i ↦ union_left literal_linear b c l (f l i) ]
    ])
    (λ l h. elim (union_cases literal_linear b c l h) [
      | inl k ↦ union_left literal_linear b (united c q) l k
      | inr k ↦ union_right literal_linear b (united c q) l (union_left literal_linear c q l k)
    ])

abbrev AreAmong : Cube → Cube → Type 0
AreAmong q c = (l : Literal) → Has q l → Has c l

through_left : (b c q d z : Cube) → IsRising literal_cmp c → AreAmong q c → join_cubes b q ≡ Some d → join_cubes d c ≡ Some z → join_cubes b c ≡ Some z
through_left b c q d z r f e g =
    let (same, clear) = joined_is d c z g in
    let whole : union literal_cmp d c ≡ union literal_cmp b c = ap (λ a. union literal_cmp a c) ((joined_is b q d e).0) ∙ left_first b c q r f in
    joined_from b c (ap is_contradictory (sym whole) ∙ clear) ∙ ap Some (sym (same ∙ whole))

by_left : (b c q z : Cube) → IsRising literal_cmp c → AreAmong q c → join_cubes b c ≡ Some z → (d : Cube) × (join_cubes b q ≡ Some d) × (join_cubes d c ≡ Some z)
by_left b c q z r f e =
    let (same, clear) = joined_is b c z e in
    let whole = left_first b c q r f in
    let inner : is_contradictory (union literal_cmp b q) ≡ false =
    no_contradiction_of (united b q) (united b c) (λ l h. elim (union_cases literal_linear b q l h) [ inl i ↦ union_left literal_linear b c l i | inr i ↦ union_right literal_linear b c l (f l i) ]) clear in
    (union literal_cmp b q, joined_from b q inner, joined_from (united b q) c (ap is_contradictory whole ∙ clear) ∙ ap Some (whole ∙ sym same))

through_right : (b c q d z : Cube) → IsRising literal_cmp c → IsRising literal_cmp q → AreAmong q b → join_cubes c q ≡ Some d → join_cubes b d ≡ Some z → join_cubes b c ≡ Some z
through_right b c q d z r s f e g =
    let (same, clear) = joined_is b d z g in
    let whole : union literal_cmp b d ≡ union literal_cmp b c = ap (union literal_cmp b) ((joined_is c q d e).0) ∙ right_first b c q r s f in
    joined_from b c (ap is_contradictory (sym whole) ∙ clear) ∙ ap Some (sym (same ∙ whole))

by_right : (b c q z : Cube) → IsRising literal_cmp c → IsRising literal_cmp q → AreAmong q b → join_cubes b c ≡ Some z → (d : Cube) × (join_cubes c q ≡ Some d) × (join_cubes b d ≡ Some z)
by_right b c q z r s f e =
    let (same, clear) = joined_is b c z e in
    let whole = right_first b c q r s f in
    let inner : is_contradictory (union literal_cmp c q) ≡ false =
    no_contradiction_of (united c q) (united b c) (λ l h. elim (union_cases literal_linear c q l h) [ inl i ↦ union_right literal_linear b c l i | inr i ↦ union_left literal_linear b c l (f l i) ]) clear in
    (union literal_cmp c q, joined_from c q inner, joined_from b (united c q) (ap is_contradictory whole ∙ clear) ∙ ap Some (whole ∙ sym same))

-- ---- parts of lists

abbrev pub with_all : Cube → Bool → List Cube → List Cube
with_all q all xs = filter (λ c. beq (is_subset literal_cmp q c) all) xs

abbrev pub widened : Cube → List Cube → List Cube
widened q xs = filter_map (λ c. join_cubes c q) xs

module _ (q : Cube) where
  is_true : (b : Bool) → beq b true ≡ true → b ≡ true
  is_true true e = refl
  is_true false e = cc

  with_cases : (xs : List Cube) (c : Cube) → Has (with_all q true xs) c → Has xs c × ((l : Literal) → Has q l → Has c l)
  with_cases xs c h =
      let (k, e) = filter_cases (λ c. beq (is_subset literal_cmp q c) true) xs c h in
      (k, (is_subset_Decides literal_linear q c).0 (is_true (is_subset literal_cmp q c) e))

  without_cases : (xs : List Cube) (c : Cube) → Has (with_all q false xs) c → Has xs c
  without_cases xs c h = (filter_cases (λ c. beq (is_subset literal_cmp q c) false) xs c h).0

  -- each cube is on one side
  side_of : (xs : List Cube) (c : Cube) → Has xs c → (Has (with_all q true xs) c × ((l : Literal) → Has q l → Has c l)) ⊎ Has (with_all q false xs) c
  side_of xs c h = at (is_subset literal_cmp q c) refl
    where
      at : (t : Bool) → is_subset literal_cmp q c ≡ t → (Has (with_all q true xs) c × ((l : Literal) → Has q l → Has c l)) ⊎ Has (with_all q false xs) c
      at true e = inl (Has-filter (λ c. beq (is_subset literal_cmp q c) true) xs c h (ap (λ b. beq b true) e), (is_subset_Decides literal_linear q c).0 e)
      at false e = inr (Has-filter (λ c. beq (is_subset literal_cmp q c) false) xs c h (ap (λ b. beq b false) e))

  -- cubes that were widened and aren't among the others, with the others
  abbrev IsWidened : List Cube → List Cube → Type 0
  IsWidened xs made = set_of cube_cmp (with_all q true xs ++ made) ≡ set_of cube_cmp (with_all q true xs ++ widened q (with_all q false xs))

  made_cases : (xs made : List Cube) (d : Cube) → IsWidened xs made → Has (with_all q true xs ++ made) d
      → Has (with_all q true xs) d ⊎ ((c : Cube) × Has (with_all q false xs) c × (join_cubes c q ≡ Some d))
  made_cases xs made d e h =
      elim (append_cases (with_all q true xs) (widened q (with_all q false xs)) d (across (with_all q true xs ++ made) (with_all q true xs ++ widened q (with_all q false xs)) d e h)) [
        | inl k ↦ inl k
        | inr k ↦ inr (filter_map_cases (λ c. join_cubes c q) (with_all q false xs) d k)
      ]

  Has-made : (xs made : List Cube) (c d : Cube) → IsWidened xs made → Has (with_all q false xs) c → join_cubes c q ≡ Some d → Has (with_all q true xs ++ made) d
  Has-made xs made c d e h j =
      across (with_all q true xs ++ widened q (with_all q false xs)) (with_all q true xs ++ made) d (sym e)
      (append_right (with_all q true xs) (widened q (with_all q false xs)) d (Has-filter_map (λ c. join_cubes c q) (with_all q false xs) c d h j))

  -- the three parts
  abbrev pub parts : List Cube → List Cube → List Cube → List Cube → List Cube
  parts xs ys left right = joins (with_all q false xs) (with_all q false ys) ++ (joins left (with_all q true ys) ++ joins (with_all q true xs) right)

  pub parted : (xs ys made more : List Cube) → IsRising literal_cmp q → ((c : Cube) → Has ys c → IsRising literal_cmp c) → IsWidened xs made → IsWidened ys more
      → set_of cube_cmp (parts xs ys (set_of cube_cmp made) (set_of cube_cmp (with_all q true ys ++ more))) ≡ set_of cube_cmp (joins xs ys)
  parted xs ys made more s r e f = set_of_alike cube_linear (parts xs ys left right) (joins xs ys) only all
    where
      left : List Cube
      left = set_of cube_cmp made

      right : List Cube
      right = set_of cube_cmp (with_all q true ys ++ more)

      second : List Cube
      second = joins left (with_all q true ys) ++ joins (with_all q true xs) right

      in_first : (z : Cube) → Joined (with_all q false xs) (with_all q false ys) z → Has (parts xs ys left right) z
      in_first z w = append_left (joins (with_all q false xs) (with_all q false ys)) second z (Has-joins (with_all q false xs) (with_all q false ys) z w)

      in_second : (z : Cube) → Joined left (with_all q true ys) z → Has (parts xs ys left right) z
      in_second z w =
          append_right (joins (with_all q false xs) (with_all q false ys)) second z
          (append_left (joins left (with_all q true ys)) (joins (with_all q true xs) right) z (Has-joins left (with_all q true ys) z w))

      in_third : (z : Cube) → Joined (with_all q true xs) right z → Has (parts xs ys left right) z
      in_third z w =
          append_right (joins (with_all q false xs) (with_all q false ys)) second z
          (append_right (joins left (with_all q true ys)) (joins (with_all q true xs) right) z (Has-joins (with_all q true xs) right z w))

      right_of : (d : Cube) → Has (with_all q true ys ++ more) d → Has right d
      right_of d h = Has-set_of cube_linear (with_all q true ys ++ more) d h

      from_first : (z : Cube) → Joined (with_all q false xs) (with_all q false ys) z → Joined xs ys z
      from_first z (c, d, h, k, j) = (c, d, without_cases xs c h, without_cases ys d k, j)

      from_second : (z : Cube) → Joined left (with_all q true ys) z → Joined xs ys z
      from_second z (c, d, h, k, j) =
          let (there, among) = with_cases ys d k in
          elim (made_cases xs made c e (append_right (with_all q true xs) made c (set_of_cases cube_linear made c h))) [
            | inl i ↦ (c, d, (with_cases xs c i).0, there, j)
            | inr (b, i, m) ↦ (b, d, without_cases xs b i, there, through_left b d q c z (r d there) among m j)
          ]

      from_third : (z : Cube) → Joined (with_all q true xs) right z → Joined xs ys z
      from_third z (c, d, h, k, j) =
          let (there, among) = with_cases xs c h in
          elim (made_cases ys more d f (set_of_cases cube_linear (with_all q true ys ++ more) d k)) [
            | inl i ↦ (c, d, there, (with_cases ys d i).0, j)
            | inr (b, i, m) ↦ (c, b, there, without_cases ys b i, through_right c b q d z (r b (without_cases ys b i)) s among m j)
          ]

      only : (z : Cube) → Has (parts xs ys left right) z → Has (joins xs ys) z
      only z h =
          Has-joins xs ys z
          (elim (append_cases (joins (with_all q false xs) (with_all q false ys)) second z h) [
            | inl k ↦ from_first z (joins_cases (with_all q false xs) (with_all q false ys) z k)
            | inr k ↦ elim (append_cases (joins left (with_all q true ys)) (joins (with_all q true xs) right) z k) [
              | inl i ↦ from_second z (joins_cases left (with_all q true ys) z i)
              | inr i ↦ from_third z (joins_cases (with_all q true xs) right z i)
            ]
          ])

      -- a cube that lacks some of the literals, and one that has all
      widened_left : (z c d : Cube) → Has (with_all q false xs) c → Has (with_all q true ys) d → join_cubes c d ≡ Some z → Has (parts xs ys left right) z
      widened_left z c d h k j =
          let (there, among) = with_cases ys d k in
          let (b, m, n) = by_left c d q z (r d there) among j in
          elim (append_cases (with_all q true xs) made b (Has-made xs made c b e h m)) [
            | inl i ↦ in_third z (b, d, i, right_of d (append_left (with_all q true ys) more d k), n)
            | inr i ↦ in_second z (b, d, Has-set_of cube_linear made b i, k, n)
          ]

      widened_right : (z c d : Cube) → Has (with_all q true xs) c → ((l : Literal) → Has q l → Has c l) → Has (with_all q false ys) d → join_cubes c d ≡ Some z → Has (parts xs ys left right) z
      widened_right z c d h among k j =
          let (b, m, n) = by_right c d q z (r d (without_cases ys d k)) s among j in
          in_third z (c, b, h, right_of b (Has-made ys more d b f k m), n)

      all : (z : Cube) → Has (joins xs ys) z → Has (parts xs ys left right) z
      all z h =
          let (c, d, k, i, j) = joins_cases xs ys z h in
          elim (side_of xs c k) [
            | inl (m, among) ↦ elim (side_of ys d i) [
              | inl (n, also) ↦ in_third z (c, d, m, right_of d (append_left (with_all q true ys) more d n), j)
              | inr n ↦ widened_right z c d m among n j
            ]
            | inr m ↦ elim (side_of ys d i) [
              | inl (n, also) ↦ widened_left z c d m n j
              | inr n ↦ in_first z (c, d, m, n, j)
            ]
          ]

-- the same of lists that are these
pub parted_by : (q : Cube) (xs ys with without made widened-left right-with right-without more widened-right : List Cube)
    → IsRising literal_cmp q → ((c : Cube) → Has ys c → IsRising literal_cmp c)
    → with ≡ with_all q true xs → without ≡ with_all q false xs → right-with ≡ with_all q true ys → right-without ≡ with_all q false ys
    → set_of cube_cmp (with ++ made) ≡ set_of cube_cmp (with ++ widened q without)
    → set_of cube_cmp (right-with ++ more) ≡ set_of cube_cmp (right-with ++ widened q right-without)
    → widened-left ≡ set_of cube_cmp made → widened-right ≡ set_of cube_cmp (right-with ++ more)
    → set_of cube_cmp (joins without right-without ++ (joins widened-left right-with ++ joins with widened-right)) ≡ set_of cube_cmp (joins xs ys)
parted_by q xs ys with without made widened-left right-with right-without more widened-right s r a b c d e f g h =
    (λ i. set_of cube_cmp (joins (b i) (d i) ++ (joins (g i) (c i) ++ joins (a i) ((h ∙ ap (λ l. set_of cube_cmp (l ++ more)) c) i))))
    ∙ parted q xs ys made more s r
    (ap (λ l. set_of cube_cmp (l ++ made)) (sym a) ∙ e ∙ (λ i. set_of cube_cmp (a i ++ widened q (b i))))
    (ap (λ l. set_of cube_cmp (l ++ more)) (sym c) ∙ f ∙ (λ i. set_of cube_cmp (c i ++ widened q (d i))))

-- ---- what waits

popped : {X : Type 0} (old new : List X) (s : X) (f : X → List Cube) → old ≡ new ++ s ∷ [] → flat_map f old ≡ flat_map f new ++ f s
popped old new s f e = ap (flat_map f) e ∙ flat_map-append f new (s ∷ []) ∙ ap (λ l. flat_map f new ++ l) (append-nil (f s))

-- parts of a whole wait behind what waited before
pub part_waits : {X A E : Type 0} (f : X → List Cube) (r : Result A E) (new old : List X) (parts whole : List Cube) → set_of cube_cmp parts ≡ set_of cube_cmp whole
    → OnOk r (set_of cube_cmp (flat_map f new) ≡ set_of cube_cmp (flat_map f old ++ parts)) → OnOk r (set_of cube_cmp (flat_map f new) ≡ set_of cube_cmp (flat_map f old ++ whole))
part_waits f (Ok x) new old parts whole e h = h ∙ set_behind (flat_map f old) parts whole e
part_waits f (Err x) new old parts whole e h = tt

swapped : (xs ys zs : List Cube) → set_of cube_cmp ((xs ++ ys) ++ zs) ≡ set_of cube_cmp (xs ++ (zs ++ ys))
swapped xs ys zs =
    same_cube_sets ((xs ++ ys) ++ zs) (xs ++ (zs ++ ys))
    (λ z h. elim (append_cases (xs ++ ys) zs z h) [
      | inl k ↦ elim (append_cases xs ys z k) [ inl m ↦ append_left xs (zs ++ ys) z m | inr m ↦ append_right xs (zs ++ ys) z (append_right zs ys z m) ]
      | inr k ↦ append_right xs (zs ++ ys) z (append_left zs ys z k)
    ])
    (λ z h. elim (append_cases xs (zs ++ ys) z h) [
      | inl k ↦ append_left (xs ++ ys) zs z (append_left xs ys z k)
      | inr k ↦ elim (append_cases zs ys z k) [ inl m ↦ append_right (xs ++ ys) zs z m | inr m ↦ append_left (xs ++ ys) zs z (append_right xs ys z m) ]
    ])

-- one of the joins that waited was parted, or made, or made too many
module _ {X : Type 0} (old rest : List X) (last : X) (f : X → List Cube) (p : old ≡ rest ++ last ∷ []) where
  pub turn_parted : (joined : List Cube) (new : List X) (whole : List Cube) → set_of cube_cmp (joined ++ flat_map f old) ≡ whole
      → set_of cube_cmp (flat_map f new) ≡ set_of cube_cmp (flat_map f rest ++ f last) → set_of cube_cmp (joined ++ flat_map f new) ≡ whole
  turn_parted joined new whole e n =
      set_behind joined (flat_map f new) (flat_map f rest ++ f last) n ∙ ap (λ l. set_of cube_cmp (joined ++ l)) (sym (popped old rest last f p)) ∙ e

  pub turn_joined : (joined held whole : List Cube) → set_of cube_cmp (joined ++ flat_map f old) ≡ whole → set_of cube_cmp held ≡ set_of cube_cmp (joined ++ f last)
      → set_of cube_cmp (held ++ flat_map f rest) ≡ whole
  turn_joined joined held whole e n =
      set_append held (joined ++ f last) (flat_map f rest) n ∙ swapped joined (f last) (flat_map f rest)
      ∙ ap (λ l. set_of cube_cmp (joined ++ l)) (sym (popped old rest last f p)) ∙ e

  pub turn_wide : (joined left right : List Cube) → set_of cube_cmp (joined ++ flat_map f old) ≡ joined_cubes left right
      → stated_limits.label_cubes < length (set_of cube_cmp (joined ++ f last)) → None ≡ few (joined_cubes left right)
  turn_wide joined left right e m =
      let longer = set_longer (joined ++ f last) (flat_map f rest) in
      let same = ap length (swapped joined (f last) (flat_map f rest) ∙ ap (λ l. set_of cube_cmp (joined ++ l)) (sym (popped old rest last f p)) ∙ e) in
      let k : stated_limits.label_cubes < length (joined_cubes left right) = omega (arith, m, longer, same) in
      sym (ap (λ t. if t then None else Some (joined_cubes left right)) (lt-ltb _ _ k))

-- the same of lists that are these
pub held_by : (start left right xs ys after : List Cube) (b : Bool) → HasFew (start ++ joins xs ys) b after → xs ≡ left → ys ≡ right → HasFew (start ++ joins left right) b after
held_by start left right xs ys after b h e f = subst (λ l. HasFew (start ++ l) b after) (λ i. joins (e i) (f i)) h

-- what was joined by itself, put behind what was there before
pub wide_behind : (start left right xs ys held after : List Cube) (b : Bool) → HasFew (held ++ joins xs ys) b after → b ≡ false → held ≡ [] → xs ≡ left → ys ≡ right
    → stated_limits.label_cubes < length (set_of cube_cmp (start ++ joins left right))
wide_behind start left right xs ys held after b h f n d e =
    let whole = joins left right in
    let m : stated_limits.label_cubes < length (set_of cube_cmp whole) = subst (λ k. HasFew whole k after) f (held_by [] left right xs ys after b (subst (λ l. HasFew (l ++ joins xs ys) b after) n h) d e) in
    let longer = set_longer whole start in
    let same = ap length (swapped [] whole start) in
    omega (arith, m, longer, same)

behind_by : (start made whole after : List Cube) (b : Bool) → set_of cube_cmp made ≡ set_of cube_cmp whole → HasFew (start ++ made) b after → HasFew (start ++ whole) b after
behind_by start made whole after true e h = h ∙ set_behind start made whole e
behind_by start made whole after false e h = subst (λ s. stated_limits.label_cubes < length s) (set_behind start made whole e) h

pub few_behind : {E : Type 0} (r : Result Bool E) (start made whole after : List Cube) → set_of cube_cmp made ≡ set_of cube_cmp whole
    → IfOk r (λ b. HasFew (start ++ made) b after) → IfOk r (λ b. HasFew (start ++ whole) b after)
few_behind (Ok b) start made whole after e h = behind_by start made whole after b e h
few_behind (Err x) start made whole after e h = tt

-- what one list of sides joins to, once distinct
pub joined_once : (left right xs ys held after made : List Cube) (b : Bool) → HasFew (held ++ joins xs ys) b after → b ≡ true → held ≡ [] → xs ≡ left → ys ≡ right
    → made ≡ set_of cube_cmp after → set_of cube_cmp made ≡ set_of cube_cmp (joins left right)
joined_once left right xs ys held after made b h f n d e m =
    ap (set_of cube_cmp) m ∙ set_again after
    ∙ subst (λ k. HasFew (joins left right) k after) f (held_by [] left right xs ys after b (subst (λ l. HasFew (l ++ joins xs ys) b after) n h) d e)

-- ---- what isn't among others

widened_next : (q : Cube) (before all : List Cube) (c : Cube) → all ≡ before ++ c ∷ [] → widened q all ≡ widened q before ++ cons_option (join_cubes c q) []
widened_next q before all c n = ap (widened q) n ∙ filter_map-append (λ d. join_cubes d q) before (c ∷ [])

pub widened_more : (q : Cube) (others made more before all : List Cube) (c d : Cube) → set_of cube_cmp (others ++ made) ≡ set_of cube_cmp (others ++ widened q before)
    → all ≡ before ++ c ∷ [] → join_cubes c q ≡ Some d → more ≡ made ++ d ∷ [] → set_of cube_cmp (others ++ more) ≡ set_of cube_cmp (others ++ widened q all)
widened_more q others made more before all c d e n j m =
    ap (λ l. set_of cube_cmp (others ++ l)) m ∙ ap (set_of cube_cmp) (sym (append_assoc others made (d ∷ []))) ∙ set_append (others ++ made) (others ++ widened q before) (d ∷ []) e
    ∙ ap (set_of cube_cmp) (append_assoc others (widened q before) (d ∷ []) ∙ ap (λ l. others ++ l) (sym (widened_next q before all c n ∙ ap (λ o. widened q before ++ cons_option o []) j)))

pub widened_none : (q : Cube) (others made before all : List Cube) (c : Cube) → set_of cube_cmp (others ++ made) ≡ set_of cube_cmp (others ++ widened q before)
    → all ≡ before ++ c ∷ [] → join_cubes c q ≡ None → set_of cube_cmp (others ++ made) ≡ set_of cube_cmp (others ++ widened q all)
widened_none q others made before all c e n j =
    e ∙ ap (λ l. set_of cube_cmp (others ++ l)) (sym (append-nil (widened q before)) ∙ sym (widened_next q before all c n ∙ ap (λ o. widened q before ++ cons_option o []) j))

pub widened_there : (q : Cube) (others made before all : List Cube) (c d : Cube) → set_of cube_cmp (others ++ made) ≡ set_of cube_cmp (others ++ widened q before)
    → all ≡ before ++ c ∷ [] → join_cubes c q ≡ Some d → Has others d → set_of cube_cmp (others ++ made) ≡ set_of cube_cmp (others ++ widened q all)
widened_there q others made before all c d e n j m =
    e ∙ set_with_member (others ++ widened q before) d (append_left others (widened q before) d m)
    ∙ ap (set_of cube_cmp) (append_assoc others (widened q before) (d ∷ []) ∙ ap (λ l. others ++ l) (sym (widened_next q before all c n ∙ ap (λ o. widened q before ++ cons_option o []) j)))
