-- What is open of a label shows what the definition holds.
use Rattle.std.proofs.Common.{◌≡◌, ℕ, zero, suc, ◌+◌, Bool, true, false, not, ◌||◌, inl, inr, List, [], ◌∷◌, ◌++◌, length, Option, Some, None, refl, sym, ◌∙◌, ap, arith}
use Rattle.std.specs.Prelude.{nat_lt, if◌then◌else◌, flat_map, filter_map, option_map, unwrap_or}
use Rattle.std.specs.Bool.{beq}
use Rattle.std.specs.List.{list_any}
use Rattle.ltl_spec.specs.Tools.Limits.{stated_limits}
use Rattle.ltl_spec.specs.Collections.Sets.{set_of, union, IsRising}
use Rattle.ltl_spec.specs.Transitions.Cubes.{Cube, cube_cmp, join_cubes}
use Rattle.ltl_spec.specs.NormalForms.Normal.{Normal, Top, Bottom, Leaf, Next, And, Or, Until, Release}
use Rattle.ltl_spec.specs.NormalForms.NormalForm.{normal_form, postorder}
use Rattle.ltl_spec.specs.Hoa.HoaLabel.{Label, ConstantLabel, NumberLabel, NotLabel, BracketLabel, AndLabel, OrLabel, label_formula, cubes, label_cubes, is_wide}
use Rattle.ltl_spec.specs.Hoa.HoaPlace.{LabelPart, LabelParts, negated, joined, with_operand, whole, empty_part}
use Rattle.ltl_spec.proofs.Collections.Orders.{cube_linear}
use Rattle.ltl_spec.proofs.Collections.SetLaws.{IsRising-set_of, IsRising-union, union_cases, union_left, union_right, append_cases, append_left, append_right, same_members, set_of_cases, Has-set_of}
use Rattle.ltl_label.specs.CubesView.{few, constant_cubes, literal_cubes, both_cubes}
use Rattle.ltl_label.specs.LabelView as view
use Rattle.ltl_label.specs.LabelView.{LabelView}
use Rattle.ltl_hoa.specs.Shown.{narrow_normal, narrow, is_odd, shown_part, sign_within, shown_around, shown_label}
use Rattle.std.proofs.lemmas.List.{same_from_push}

-- cubes of a normal form are a set
cubes_rise : (N : Normal) → IsRising cube_cmp (cubes N)
cubes_rise Top = (tt, tt)
cubes_rise Bottom = tt
cubes_rise (Leaf l) = (tt, tt)
cubes_rise (Next a) = tt
cubes_rise (And a b) = IsRising-set_of cube_linear (flat_map (λ c. filter_map (join_cubes c) (cubes b)) (cubes a))
cubes_rise (Or a b) = IsRising-union cube_linear (cubes a) (cubes b) (cubes_rise b)
cubes_rise (Until a b) = tt
cubes_rise (Release a b) = tt

any_more : (p : Normal → Bool) (xs ys : List Normal) → list_any p (xs ++ ys) ≡ (list_any p xs || list_any p ys)
any_more p [] ys = refl
any_more p (x ∷ xs) ys = ap (λ t. p x || t) (any_more p xs ys) ∙ assoc (p x) (list_any p xs) (list_any p ys)
  where
    assoc : (s t u : Bool) → (s || (t || u)) ≡ ((s || t) || u)
    assoc true t u = refl
    assoc false t u = refl

abbrev is_large : Normal → Bool
is_large p = nat_lt stated_limits.label_cubes (length (cubes p))

-- a node above two others
node : (a b c : Normal) → list_any is_large (postorder a ++ postorder b ++ c ∷ []) ≡ (list_any is_large (postorder a) || list_any is_large (postorder b) || is_large c)
node a b c =
    any_more is_large (postorder a ++ postorder b) (c ∷ [])
    ∙ ap (λ t. list_any is_large (postorder a ++ postorder b) || t) (last (is_large c))
    ∙ ap (λ t. t || is_large c) (any_more is_large (postorder a) (postorder b))
  where
    last : (t : Bool) → (t || false) ≡ t
    last true = refl
    last false = refl

united : (xs ys : List Cube) → IsRising cube_cmp ys → union cube_cmp xs ys ≡ set_of cube_cmp (xs ++ ys)
united xs ys r =
    same_members cube_linear (union cube_cmp xs ys) (set_of cube_cmp (xs ++ ys)) (IsRising-union cube_linear xs ys r) (IsRising-set_of cube_linear (xs ++ ys))
    (λ z h. Has-set_of cube_linear (xs ++ ys) z (elim (union_cases cube_linear xs ys z h) [ inl k ↦ append_left xs ys z k | inr k ↦ append_right xs ys z k ]))
    (λ z h. elim (append_cases xs ys z (set_of_cases cube_linear (xs ++ ys) z h)) [ inl k ↦ union_left cube_linear xs ys z k | inr k ↦ union_right cube_linear xs ys z k ])

pub narrow_and : (a b : Normal) → narrow_normal (And a b) ≡ both_cubes true (narrow_normal a) (narrow_normal b)
narrow_and a b =
    ap (λ w. if w then None else Some (cubes (And a b))) (node a b (And a b)) ∙ go (list_any is_large (postorder a)) (list_any is_large (postorder b))
  where
    go : (s t : Bool) → (if (s || t || is_large (And a b)) then None else Some (cubes (And a b))) ≡ both_cubes true (if s then None else Some (cubes a)) (if t then None else Some (cubes b))
    go true t = refl
    go false true = refl
    go false false = refl

pub narrow_or : (a b : Normal) → narrow_normal (Or a b) ≡ both_cubes false (narrow_normal a) (narrow_normal b)
narrow_or a b =
    ap (λ w. if w then None else Some (cubes (Or a b))) (node a b (Or a b)) ∙ go (list_any is_large (postorder a)) (list_any is_large (postorder b))
  where
    go : (s t : Bool) → (if (s || t || is_large (Or a b)) then None else Some (cubes (Or a b))) ≡ both_cubes false (if s then None else Some (cubes a)) (if t then None else Some (cubes b))
    go true t = refl
    go false true = refl
    go false false = ap few (united (cubes a) (cubes b) (cubes_rise b))

-- the cubes of labels, by their parts
pub narrow_product : (sign : Bool) (a b : Label) → narrow sign (AndLabel a b) ≡ both_cubes sign (narrow sign a) (narrow sign b)
unfolding narrow
narrow_product true a b = narrow_and (normal_form true (label_formula a)) (normal_form true (label_formula b))
narrow_product false a b = narrow_or (normal_form false (label_formula a)) (normal_form false (label_formula b))

pub narrow_sum : (sign : Bool) (a b : Label) → narrow sign (OrLabel a b) ≡ both_cubes (not sign) (narrow sign a) (narrow sign b)
unfolding narrow
narrow_sum true a b = narrow_or (normal_form true (label_formula a)) (normal_form true (label_formula b))
narrow_sum false a b = narrow_and (normal_form false (label_formula a)) (normal_form false (label_formula b))

pub narrow_not : (sign : Bool) (a : Label) → narrow sign (NotLabel a) ≡ narrow (not sign) a
unfolding narrow
narrow_not true a = refl
narrow_not false a = refl

pub narrow_bracket : (sign : Bool) (a : Label) → narrow sign (BracketLabel a) ≡ narrow sign a
unfolding narrow
narrow_bracket sign a = refl

pub narrow_constant : (sign value : Bool) → narrow sign (ConstantLabel value) ≡ constant_cubes (beq value sign)
unfolding narrow
narrow_constant true true = refl
narrow_constant true false = refl
narrow_constant false true = refl
narrow_constant false false = refl

pub narrow_number : (sign : Bool) (n : ℕ) → narrow sign (NumberLabel n) ≡ literal_cubes n sign
unfolding narrow
narrow_number true n = refl
narrow_number false n = refl

-- the cubes of a label, unless a part has too many
pub narrow_is : (a : Label) → narrow true a ≡ (if is_wide stated_limits.label_cubes a then None else Some (label_cubes a))
unfolding narrow
narrow_is a = refl

-- ---- signs

abbrev pub flipped : Bool → Bool → Bool
flipped positive odd = not (beq positive odd)

pub narrow_negated : (n : ℕ) (sign : Bool) (a : Label) → narrow sign (negated n a) ≡ narrow (flipped sign (is_odd n)) a
narrow_negated zero sign a = ap (λ s. narrow s a) (even sign)
  where
    even : (s : Bool) → s ≡ not (beq s false)
    even true = refl
    even false = refl
narrow_negated (suc n) sign a = narrow_not sign (negated n a) ∙ narrow_negated n (not sign) a ∙ ap (λ s. narrow s a) (other sign (is_odd n))
  where
    other : (s o : Bool) → not (beq (not s) o) ≡ not (beq s (not o))
    other true true = refl
    other true false = refl
    other false true = refl
    other false false = refl

odd_more : (n : ℕ) → is_odd (n + 1) ≡ not (is_odd n)
odd_more n = ap is_odd (succ n)
  where
    succ : (k : ℕ) → k + 1 ≡ suc k
    succ k = omega arith

-- ---- parts

pub part_negated : (s : Bool) (p : LabelPart) → shown_part s (record p { negations = p.negations + 1 }) ≡ view.negate (shown_part s p)
part_negated s p = ap (λ o. record (shown_part s p) { negated = o }) (odd_more p.negations)

-- an operand behind the part
pub part_added : (s : Bool) (p : LabelPart) (a : Label) → shown_part s (with_operand p a) ≡ view.add (shown_part s p) (narrow (flipped s (is_odd p.negations)) a)
part_added s p a = ap (λ c. record { positive = s; negated = false; sum = option_map (narrow s) p.sum; product = Some c }) (beside p.product)
  where
    beside : (o : Option Label)
        → narrow s (joined AndLabel o (negated p.negations a)) ≡ view.beside s (option_map (narrow s) o) (narrow (flipped s (is_odd p.negations)) a)
    beside None = narrow_negated p.negations s a
    beside (Some b) = narrow_product s b (negated p.negations a) ∙ ap (both_cubes s (narrow s b)) (narrow_negated p.negations s a)

-- the whole part
pub part_whole : (s : Bool) (p : LabelPart) → narrow s (whole p) ≡ view.whole (shown_part s p)
part_whole s p = beside p.sum ∙ ap (view.beside (not s) (option_map (narrow s) p.sum)) (product p.product)
  where
    beside : (o : Option Label) → narrow s (joined OrLabel o (unwrap_or p.product (ConstantLabel true))) ≡ view.beside (not s) (option_map (narrow s) o) (narrow s (unwrap_or p.product (ConstantLabel true)))
    beside None = refl
    beside (Some b) = narrow_sum s b (unwrap_or p.product (ConstantLabel true))

    product : (o : Option Label) → narrow s (unwrap_or o (ConstantLabel true)) ≡ view.product_of s (option_map (narrow s) o)
    product None = narrow_constant s true ∙ ap constant_cubes (true_is s)
      where
        true_is : (b : Bool) → beq true b ≡ b
        true_is true = refl
        true_is false = refl
    product (Some b) = refl

-- ---- labels

pub shows_negated : (p : LabelParts) → shown_label (record p { inner = record p.inner { negations = p.inner.negations + 1 } }) ≡ view.negate_inner (shown_label p)
shows_negated p = ap (λ q. record { inner = q; around = shown_around p.around }) (part_negated (sign_within p.around) p.inner)

pub shows_opened : (p : LabelParts) → shown_label (record { inner = empty_part; around = p.inner ∷ p.around }) ≡ view.open_bracket (shown_label p)
shows_opened p = refl

-- an operand with these cubes
pub shows_operand : (p : LabelParts) (a : Label)
    → shown_label (record p { inner = with_operand p.inner a }) ≡ view.take_cubes (shown_label p) (narrow (view.sign_of (shown_part (sign_within p.around) p.inner)) a)
shows_operand p a = ap (λ q. record { inner = q; around = shown_around p.around }) (part_added (sign_within p.around) p.inner a)

pub shows_constant : (p : LabelParts) (value : Bool) → shown_label (record p { inner = with_operand p.inner (ConstantLabel value) }) ≡ view.take_constant (shown_label p) value
shows_constant p value = shows_operand p (ConstantLabel value) ∙ ap (view.take_cubes (shown_label p)) (narrow_constant _ value)

pub shows_number : (p : LabelParts) (n : ℕ) → shown_label (record p { inner = with_operand p.inner (NumberLabel n) }) ≡ view.take_proposition (shown_label p) n
shows_number p n = shows_operand p (NumberLabel n) ∙ ap (view.take_cubes (shown_label p)) (narrow_number _ n)

pub shows_alternative : (p : LabelParts) → shown_label (record p { inner = record { sum = Some (whole p.inner); product = None; negations = 0 } }) ≡ view.take_alternative (shown_label p)
shows_alternative p =
    ap (λ c. record { inner = record { positive = sign_within p.around; negated = false; sum = Some c; product = None }; around = shown_around p.around }) (part_whole (sign_within p.around) p.inner)

pub shows_closed : (inner p : LabelPart) (ps : List LabelPart) (x : LabelView) → view.Closes (shown_label (record { inner = inner; around = p ∷ ps })) true x
    → x ≡ shown_label (record { inner = with_operand p (BracketLabel (whole inner)); around = ps })
shows_closed inner p ps x (q, e, f) =
    let last = same_from_push (shown_around ps) x.around (shown_part (sign_within ps) p) q e in
    let cubes = part_whole (flipped (sign_within ps) (is_odd p.negations)) inner in
    let added = part_added (sign_within ps) p (BracketLabel (whole inner)) ∙ ap (view.add (shown_part (sign_within ps) p)) (narrow_bracket _ (whole inner) ∙ cubes) in
    let same : x.inner ≡ shown_part (sign_within ps) (with_operand p (BracketLabel (whole inner))) = f ∙ ap (λ r. view.add r (view.whole (shown_part (flipped (sign_within ps) (is_odd p.negations)) inner))) (sym last.1) ∙ sym added in
    let outer = sym last.0 in
    λ i. record { inner = same i; around = outer i }
