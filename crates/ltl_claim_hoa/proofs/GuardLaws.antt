-- A letter satisfies a guard exactly if one of the guard's cubes allows it, and exactly if one of its label's cubes does.
use Rattle.std.proofs.Common.{◌≡◌, ℕ, Bool, true, false, not, ◌&&◌, ◌||◌, inl, inr, List, [], ◌∷◌, ◌++◌, map, Some, refl, sym, ◌∙◌, ap, subst}
use Rattle.std.specs.Prelude.{flat_map, filter_map, nat_le, if◌then◌else◌}
use Rattle.std.specs.Bool.{beq}
use Rattle.ltl_spec.specs.Collections.Sets.{Has, union}
use Rattle.ltl_spec.specs.Collections.Lists.{place_of}
use Rattle.ltl_spec.specs.Semantics.Word.{Name}
use Rattle.ltl_spec.specs.Formulas.Tokens.{same_name}
use Rattle.ltl_spec.specs.Transitions.Cubes.{Cube, literal_cmp, cube_cmp, join_cubes, allows}
use Rattle.ltl_spec.specs.NormalForms.Normal as normal
use Rattle.ltl_spec.specs.NormalForms.Normal.{Normal}
use Rattle.ltl_spec.specs.NormalForms.NormalForm.{normal_form}
use Rattle.ltl_spec.specs.Hoa.HoaLabel.{Label, BracketLabel, cubes, label_cubes, label_formula, label_normal, label_rank}
use Rattle.ltl_spec.specs.Claims.ClaimProgram.{Guard, Constant, Named, Not, And, Or}
use Rattle.ltl_spec.specs.Claims.ClaimMeaning.{cubes_of_two, guard_cubes}
use Rattle.ltl_spec.proofs.Collections.CaseLaws.{beq_true, beq_refl, left_true, right_true}
use Rattle.ltl_spec.proofs.Collections.MemberLaws.{Has-map, map_cases, Has-flat_map, flat_map_cases, Has-filter_map, filter_map_cases, all_front, all_behind, all_append}
use Rattle.ltl_spec.proofs.Collections.SetLaws.{append_cases, append_left, append_right, set_of_cases, Has-set_of, union_cases, union_left, union_right}
use Rattle.ltl_spec.proofs.Collections.Orders.{cube_linear, literal_linear}
use Rattle.ltl_spec.proofs.Transitions.CubeLaws.{Agrees, allows_Decides, agrees_union, join_cubes_agree, join_cubes_is}
use Rattle.ltl_claim_hoa.specs.ClaimHoa.{guard_label, tight}

not_not : (b : Bool) → not (not b) ≡ b
not_not true = refl
not_not false = refl

and_false : (b : Bool) → (b && false) ≡ false
and_false true = refl
and_false false = refl

or_true : (b : Bool) → (b || true) ≡ true
or_true true = refl
or_true false = refl

-- the ways in which two truth values are joined to a value
both_true : (a b : Bool) → a ≡ true → b ≡ true → (a && b) ≡ true
both_true a b e f = λ i. e i && f i

none_true : (a b : Bool) → a ≡ false → b ≡ false → (a || b) ≡ false
none_true a b e f = λ i. e i || f i

and_left : (a b : Bool) → a ≡ false → (a && b) ≡ false
and_left a b e = ap (λ v. v && b) e

and_right : (a b : Bool) → b ≡ false → (a && b) ≡ false
and_right a b e = ap (λ v. a && v) e ∙ and_false a

or_left : (a b : Bool) → a ≡ true → (a || b) ≡ true
or_left a b e = ap (λ v. v || b) e

or_right : (a b : Bool) → b ≡ true → (a || b) ≡ true
or_right a b e = ap (λ v. a || v) e ∙ or_true a

or_false_left : (a b : Bool) → (a || b) ≡ false → a ≡ false
or_false_left true b e = e
or_false_left false b e = refl

or_false_right : (a b : Bool) → (a || b) ≡ false → b ≡ false
or_false_right true b e = cc
or_false_right false b e = e

module _ (truth : ℕ → Bool) where
  -- one of the cubes allows the letter
  abbrev pub Allowed : List Cube → Type 0
  Allowed cs = (c : Cube) × Has cs c × (allows truth c ≡ true)

  two_to : (cs ds : List Cube) → Allowed (cubes_of_two true cs ds) → Allowed cs × Allowed ds
  two_to cs ds (c, h, a) =
      let (x, m, n) = flat_map_cases (λ c. map (λ d. c ++ d) ds) cs c h in
      let (y, k, e) = map_cases (λ d. x ++ d) ds c n in
      let whole : allows truth (x ++ y) ≡ true = subst (λ z. allows truth z ≡ true) e a in
      ((x, m, all_front (λ l. beq (truth l.proposition) l.positive) x y whole), (y, k, all_behind (λ l. beq (truth l.proposition) l.positive) x y whole))

  two_from : (cs ds : List Cube) → Allowed cs → Allowed ds → Allowed (cubes_of_two true cs ds)
  two_from cs ds (c, h, a) (d, k, b) = (
    c ++ d,
    Has-flat_map (λ c. map (λ d. c ++ d) ds) cs c (c ++ d) h (Has-map (λ d. c ++ d) ds d k),
    all_append (λ l. beq (truth l.proposition) l.positive) c d a b,
  )

  left_allowed : (cs ds : List Cube) → Allowed cs → Allowed (cs ++ ds)
  left_allowed cs ds (c, h, a) = (c, append_left cs ds c h, a)

  right_allowed : (cs ds : List Cube) → Allowed ds → Allowed (cs ++ ds)
  right_allowed cs ds (c, h, a) = (c, append_right cs ds c h, a)

  module _ (names : List Name) where
    -- the truth of a guard under the letter
    abbrev pub guard_value : Guard → Bool
    guard_value (Constant b) = b
    guard_value (Named n) = truth (place_of same_name n names)
    guard_value (Not g) = not (guard_value g)
    guard_value (And g h) = guard_value g && guard_value h
    guard_value (Or g h) = guard_value g || guard_value h

    pub cubes_to : (b : Bool) (g : Guard) → Allowed (guard_cubes names b g) → guard_value g ≡ b
    cubes_to true (Constant true) h = refl
    cubes_to true (Constant false) (c, h, a) = absurd h
    cubes_to false (Constant false) h = refl
    cubes_to false (Constant true) (c, h, a) = absurd h
    cubes_to b (Named n) (c, inl e, a) = beq_true (truth (place_of same_name n names)) b (left_true _ _ (subst (λ d. allows truth d ≡ true) e a))
    cubes_to b (Named n) (c, inr h, a) = absurd h
    cubes_to b (Not g) h = ap not (cubes_to (not b) g h) ∙ not_not b
    cubes_to true (And g h) k = let w = two_to (guard_cubes names true g) (guard_cubes names true h) k in both_true _ _ (cubes_to true g w.0) (cubes_to true h w.1)
    cubes_to false (And g h) (c, k, a) = elim (append_cases (guard_cubes names false g) (guard_cubes names false h) c k) [
      | inl m ↦ and_left _ (guard_value h) (cubes_to false g (c, m, a))
      | inr m ↦ and_right (guard_value g) _ (cubes_to false h (c, m, a))
    ]
    cubes_to false (Or g h) k = let w = two_to (guard_cubes names false g) (guard_cubes names false h) k in none_true _ _ (cubes_to false g w.0) (cubes_to false h w.1)
    cubes_to true (Or g h) (c, k, a) = elim (append_cases (guard_cubes names true g) (guard_cubes names true h) c k) [
      | inl m ↦ or_left _ (guard_value h) (cubes_to true g (c, m, a))
      | inr m ↦ or_right (guard_value g) _ (cubes_to true h (c, m, a))
    ]

    pub cubes_from : (b : Bool) (g : Guard) → guard_value g ≡ b → Allowed (guard_cubes names b g)
    cubes_from true (Constant true) e = ([], inl refl, refl)
    cubes_from true (Constant false) e = cc
    cubes_from false (Constant false) e = ([], inl refl, refl)
    cubes_from false (Constant true) e = cc
    cubes_from b (Named n) e =
        (record { proposition = place_of same_name n names; positive = b } ∷ [], inl refl, ap (λ v. beq v b && true) e ∙ ap (λ v. v && true) (beq_refl b))
    cubes_from b (Not g) e = cubes_from (not b) g (sym (not_not (guard_value g)) ∙ ap not e)
    cubes_from true (And g h) e =
        two_from (guard_cubes names true g) (guard_cubes names true h) (cubes_from true g (left_true (guard_value g) (guard_value h) e)) (cubes_from true h (right_true (guard_value g) (guard_value h) e))
    cubes_from false (And g h) e = go (guard_value g) refl e (cubes_from false g) (cubes_from false h)
      where
        go : (v : Bool) → guard_value g ≡ v → (v && guard_value h) ≡ false → (guard_value g ≡ false → Allowed (guard_cubes names false g)) → (guard_value h ≡ false → Allowed (guard_cubes names false h))
            → Allowed (guard_cubes names false g ++ guard_cubes names false h)
        go false d f left right = left_allowed (guard_cubes names false g) (guard_cubes names false h) (left d)
        go true d f left right = right_allowed (guard_cubes names false g) (guard_cubes names false h) (right f)
    cubes_from false (Or g h) e =
        two_from (guard_cubes names false g) (guard_cubes names false h) (cubes_from false g (or_false_left (guard_value g) (guard_value h) e)) (cubes_from false h (or_false_right (guard_value g) (guard_value h) e))
    cubes_from true (Or g h) e = go (guard_value g) refl e (cubes_from true g) (cubes_from true h)
      where
        go : (v : Bool) → guard_value g ≡ v → (v || guard_value h) ≡ true → (guard_value g ≡ true → Allowed (guard_cubes names true g)) → (guard_value h ≡ true → Allowed (guard_cubes names true h))
            → Allowed (guard_cubes names true g ++ guard_cubes names true h)
        go true d f left right = left_allowed (guard_cubes names true g) (guard_cubes names true h) (left d)
        go false d f left right = right_allowed (guard_cubes names true g) (guard_cubes names true h) (right f)

  -- ---- labels

  -- the truth of a normal form without `X`, `U` and `V`
  abbrev pub normal_value : Normal → Bool
  normal_value normal.Top = true
  normal_value (normal.Leaf l) = beq (truth l.proposition) l.positive
  normal_value (normal.And a b) = normal_value a && normal_value b
  normal_value (normal.Or a b) = normal_value a || normal_value b
  normal_value _ = false

  joined_to : (c d u : Cube) → join_cubes c d ≡ Some u → allows truth u ≡ true → (allows truth c ≡ true) × (allows truth d ≡ true)
  joined_to c d u e a =
      let agrees : Agrees truth (union literal_cmp c d) = subst (Agrees truth) (join_cubes_is c d u e) ((allows_Decides truth u).0 a) in (
        (allows_Decides truth c).1 (λ l h. agrees l (union_left literal_linear c d l h)),
        (allows_Decides truth d).1 (λ l h. agrees l (union_right literal_linear c d l h)),
      )

  pub normal_to : (N : Normal) → Allowed (cubes N) → normal_value N ≡ true
  normal_to normal.Top h = refl
  normal_to (normal.Leaf l) (c, inl e, a) = left_true _ _ (subst (λ d. allows truth d ≡ true) e a)
  normal_to (normal.Leaf l) (c, inr h, a) = absurd h
  normal_to (normal.And a b) (u, h, t) =
      let (c, m, n) = flat_map_cases (λ c. filter_map (join_cubes c) (cubes b)) (cubes a) u (set_of_cases cube_linear (flat_map (λ c. filter_map (join_cubes c) (cubes b)) (cubes a)) u h) in
      let (d, k, e) = filter_map_cases (join_cubes c) (cubes b) u n in
      let w = joined_to c d u e t in
      both_true _ _ (normal_to a (c, m, w.0)) (normal_to b (d, k, w.1))
  normal_to (normal.Or a b) (c, h, t) = elim (union_cases cube_linear (cubes a) (cubes b) c h) [
    | inl m ↦ or_left _ (normal_value b) (normal_to a (c, m, t))
    | inr m ↦ or_right (normal_value a) _ (normal_to b (c, m, t))
  ]
  normal_to _ (c, h, a) = absurd h

  pub normal_from : (N : Normal) → normal_value N ≡ true → Allowed (cubes N)
  normal_from normal.Top e = ([], inl refl, refl)
  normal_from (normal.Leaf l) e = (l ∷ [], inl refl, ap (λ v. v && true) e)
  normal_from (normal.And a b) e =
      let (c, h, t) = normal_from a (left_true _ _ e) in
      let (d, k, s) = normal_from b (right_true (normal_value a) _ e) in
      let agree = (allows_Decides truth c).0 t in
      let agree_too = (allows_Decides truth d).0 s in
      let u = union literal_cmp c d in (
        u,
        Has-set_of cube_linear (flat_map (λ c. filter_map (join_cubes c) (cubes b)) (cubes a)) u
            (Has-flat_map (λ c. filter_map (join_cubes c) (cubes b)) (cubes a) c u h (Has-filter_map (join_cubes c) (cubes b) d u k (join_cubes_agree truth c d agree agree_too))),
        (allows_Decides truth u).1 (agrees_union truth c d agree agree_too),
      )
  normal_from (normal.Or a b) e = go (normal_value a) refl e (normal_from a) (normal_from b)
    where
      go : (v : Bool) → normal_value a ≡ v → (v || normal_value b) ≡ true → (normal_value a ≡ true → Allowed (cubes a)) → (normal_value b ≡ true → Allowed (cubes b)) → Allowed (union cube_cmp (cubes a) (cubes b))
      go true d f left right = let (c, h, t) = left d in (c, union_left cube_linear (cubes a) (cubes b) c h, t)
      go false d f left right = let (c, h, t) = right f in (c, union_right cube_linear (cubes a) (cubes b) c h, t)
  normal_from _ e = cc

  module _ (names : List Name) where
    -- brackets change no formula
    tight_same : (most : ℕ) (a : Label) → label_formula (tight most a) ≡ label_formula a
    tight_same most a = go (nat_le (label_rank a) most)
      where
        go : (t : Bool) → label_formula (if t then a else BracketLabel a) ≡ label_formula a
        go true = refl
        go false = refl

    label_value : (b : Bool) (g : Guard) → normal_value (normal_form b (label_formula (guard_label names g))) ≡ beq (guard_value names g) b
    label_value true (Constant true) = refl
    label_value true (Constant false) = refl
    label_value false (Constant true) = refl
    label_value false (Constant false) = refl
    label_value true (Named n) = refl
    label_value false (Named n) = refl
    label_value true (Not g) = ap (λ F. normal_value (normal_form false F)) (tight_same 0 (guard_label names g)) ∙ label_value false g ∙ other (guard_value names g)
      where
        other : (v : Bool) → beq v false ≡ beq (not v) true
        other true = refl
        other false = refl
    label_value false (Not g) = ap (λ F. normal_value (normal_form true F)) (tight_same 0 (guard_label names g)) ∙ label_value true g ∙ other (guard_value names g)
      where
        other : (v : Bool) → beq v true ≡ beq (not v) false
        other true = refl
        other false = refl
    label_value true (And g h) =
        (λ i. normal_value (normal_form true (tight_same 1 (guard_label names g) i)) && normal_value (normal_form true (tight_same 0 (guard_label names h) i)))
        ∙ (λ i. label_value true g i && label_value true h i) ∙ both (guard_value names g) (guard_value names h)
      where
        both : (v w : Bool) → (beq v true && beq w true) ≡ beq (v && w) true
        both true true = refl
        both true false = refl
        both false w = refl
    label_value false (And g h) =
        (λ i. normal_value (normal_form false (tight_same 1 (guard_label names g) i)) || normal_value (normal_form false (tight_same 0 (guard_label names h) i)))
        ∙ (λ i. label_value false g i || label_value false h i) ∙ both (guard_value names g) (guard_value names h)
      where
        both : (v w : Bool) → (beq v false || beq w false) ≡ beq (v && w) false
        both true true = refl
        both true false = refl
        both false w = refl
    label_value true (Or g h) =
        ap (λ F. normal_value (normal_form true (label_formula (guard_label names g))) || normal_value (normal_form true F)) (tight_same 1 (guard_label names h))
        ∙ (λ i. label_value true g i || label_value true h i) ∙ both (guard_value names g) (guard_value names h)
      where
        both : (v w : Bool) → (beq v true || beq w true) ≡ beq (v || w) true
        both true w = refl
        both false true = refl
        both false false = refl
    label_value false (Or g h) =
        ap (λ F. normal_value (normal_form false (label_formula (guard_label names g))) && normal_value (normal_form false F)) (tight_same 1 (guard_label names h))
        ∙ (λ i. label_value false g i && label_value false h i) ∙ both (guard_value names g) (guard_value names h)
      where
        both : (v w : Bool) → (beq v false && beq w false) ≡ beq (v || w) false
        both true w = refl
        both false true = refl
        both false false = refl

    -- a label's cubes allow a letter exactly if the guard holds
    pub label_to : (g : Guard) → Allowed (label_cubes (guard_label names g)) → guard_value names g ≡ true
    label_to g h = beq_true (guard_value names g) true (sym (label_value true g) ∙ normal_to (label_normal (guard_label names g)) h)

    pub label_from : (g : Guard) → guard_value names g ≡ true → Allowed (label_cubes (guard_label names g))
    label_from g e = normal_from (label_normal (guard_label names g)) (label_value true g ∙ ap (λ v. beq v true) e)
