-- Sets of cubes that are collected piece by piece.
use Rattle.std.proofs.Common.{◌≡◌, ℕ, suc, ◌+◌, ◌<◌, ◌≤◌, Bool, true, false, cond, inl, inr, List, [], ◌∷◌, ◌++◌, length, refl, sym, ◌∙◌, ap, subst, arith, take, drop}
use Rattle.std.specs.Prelude.{flat_map, filter_map, slice_index_or, insert}
use Rattle.std.specs.List.{dedup, dedup_from, items_where_true, refill}
use Rattle.std.specs.List.Retain.{DiffersFromLast, IsFiltered, ReturnsInTurn}
use Rattle.std.specs.declared.cmp.Ordering.{Ordering}
use Rattle.std.specs.declared.cmp.Ordering.TheVariants.{Less, Equal, Greater}
use Rattle.std.proofs.Math.Seq.{take-append_seam}
use Rattle.std.proofs.lemmas.Grind.{flat_map-append}
use Rattle.std.proofs.lemmas.List.{append-nil, append_assoc, take-append-drop}
use Rattle.ltl_spec.specs.Tools.Limits.{stated_limits}
use Rattle.ltl_spec.specs.Collections.Sets.{Has, put, set_of, by_order}
use Rattle.ltl_spec.specs.Transitions.Cubes.{Cube, cube_cmp, join_cubes}
use Rattle.ltl_spec.proofs.Collections.SetLaws.{append_cases, append_left, append_right, same_members, set_of_cases, Has-set_of, IsRising-set_of}
use Rattle.ltl_spec.proofs.Collections.ListLaws.{Has-at}
use Rattle.ltl_spec.proofs.Collections.Orders.{cube_linear}
use Rattle.ltl_label.specs.CubesView.{joins}

-- lists with the same members are the same set
pub same_cube_sets : (xs ys : List Cube) → ((z : Cube) → Has xs z → Has ys z) → ((z : Cube) → Has ys z → Has xs z) → set_of cube_cmp xs ≡ set_of cube_cmp ys
same_cube_sets xs ys f g =
    same_members cube_linear (set_of cube_cmp xs) (set_of cube_cmp ys) (IsRising-set_of cube_linear xs) (IsRising-set_of cube_linear ys)
    (λ z h. Has-set_of cube_linear ys z (f z (set_of_cases cube_linear xs z h))) (λ z h. Has-set_of cube_linear xs z (g z (set_of_cases cube_linear ys z h)))

pub set_again : (xs : List Cube) → set_of cube_cmp (set_of cube_cmp xs) ≡ set_of cube_cmp xs
set_again xs = same_cube_sets (set_of cube_cmp xs) xs (λ z h. set_of_cases cube_linear xs z h) (λ z h. Has-set_of cube_linear xs z h)

-- what follows may be put to any list of the same set
pub set_append : (xs ys zs : List Cube) → set_of cube_cmp xs ≡ set_of cube_cmp ys → set_of cube_cmp (xs ++ zs) ≡ set_of cube_cmp (ys ++ zs)
set_append xs ys zs e =
    same_cube_sets (xs ++ zs) (ys ++ zs)
    (λ z h. elim (append_cases xs zs z h) [ inl k ↦ append_left ys zs z (across xs ys e z k) | inr k ↦ append_right ys zs z k ])
    (λ z h. elim (append_cases ys zs z h) [ inl k ↦ append_left xs zs z (across ys xs (sym e) z k) | inr k ↦ append_right xs zs z k ])
  where
    across : (us vs : List Cube) → set_of cube_cmp us ≡ set_of cube_cmp vs → (z : Cube) → Has us z → Has vs z
    across us vs q z k = set_of_cases cube_linear vs z (subst (λ l. Has l z) q (Has-set_of cube_linear us z k))

put_longer : (x : Cube) (ys : List Cube) → length ys ≤ length (put cube_cmp x ys)
put_longer x [] = omega arith
put_longer x (y ∷ ys) = go (cube_cmp x y) (put_longer x ys)
  where
    go : (o : Ordering) → length ys ≤ length (put cube_cmp x ys) → suc (length ys) ≤ length (by_order o (x ∷ y ∷ ys) (y ∷ ys) (y ∷ put cube_cmp x ys))
    go Less k = omega arith
    go Equal k = omega arith
    go Greater k = omega (arith, k)

-- a set has no fewer members with more behind
pub set_longer : (xs ys : List Cube) → length (set_of cube_cmp xs) ≤ length (set_of cube_cmp (xs ++ ys))
set_longer xs ys =
    subst (λ n. length (set_of cube_cmp xs) ≤ n) (ap length (same_cube_sets (ys ++ xs) (xs ++ ys) (turned ys xs) (turned xs ys))) (behind ys)
  where
    turned : (us vs : List Cube) (z : Cube) → Has (us ++ vs) z → Has (vs ++ us) z
    turned us vs z h = elim (append_cases us vs z h) [ inl k ↦ append_right vs us z k | inr k ↦ append_left vs us z k ]

    behind : (zs : List Cube) → length (set_of cube_cmp xs) ≤ length (set_of cube_cmp (zs ++ xs))
    behind [] = omega arith
    behind (z ∷ zs) = let k = behind zs in let m = put_longer z (set_of cube_cmp (zs ++ xs)) in omega (arith, k, m)

-- and what stands before may be put before any list of the same set
pub set_behind : (xs ys zs : List Cube) → set_of cube_cmp ys ≡ set_of cube_cmp zs → set_of cube_cmp (xs ++ ys) ≡ set_of cube_cmp (xs ++ zs)
set_behind xs ys zs e =
    same_cube_sets (xs ++ ys) (xs ++ zs)
    (λ z h. elim (append_cases xs ys z h) [ inl k ↦ append_left xs zs z k | inr k ↦ append_right xs zs z (across ys zs e z k) ])
    (λ z h. elim (append_cases xs zs z h) [ inl k ↦ append_left xs ys z k | inr k ↦ append_right xs ys z (across zs ys (sym e) z k) ])
  where
    across : (us vs : List Cube) → set_of cube_cmp us ≡ set_of cube_cmp vs → (z : Cube) → Has us z → Has vs z
    across us vs q z k = set_of_cases cube_linear vs z (subst (λ l. Has l z) q (Has-set_of cube_linear us z k))

-- a member more often
pub set_with_member : (xs : List Cube) (x : Cube) → Has xs x → set_of cube_cmp xs ≡ set_of cube_cmp (xs ++ x ∷ [])
set_with_member xs x m =
    same_cube_sets xs (xs ++ x ∷ []) (λ z h. append_left xs (x ∷ []) z h)
    (λ z h. elim (append_cases xs (x ∷ []) z h) [ inl k ↦ k | inr (inl e) ↦ subst (Has xs) (sym e) m | inr (inr n) ↦ absurd n ])

-- or somewhere else
pub set_inserted : (xs : List Cube) (i : ℕ) (x : Cube) → set_of cube_cmp (insert xs i x) ≡ set_of cube_cmp (xs ++ x ∷ [])
set_inserted xs i x =
    same_cube_sets (insert xs i x) (xs ++ x ∷ [])
    (λ z h. elim (append_cases (take i xs) (x ∷ drop i xs) z h) [
      | inl k ↦ append_left xs (x ∷ []) z (subst (λ l. Has l z) (take-append-drop i xs) (append_left (take i xs) (drop i xs) z k))
      | inr (inl e) ↦ append_right xs (x ∷ []) z (inl e)
      | inr (inr k) ↦ append_left xs (x ∷ []) z (subst (λ l. Has l z) (take-append-drop i xs) (append_right (take i xs) (drop i xs) z k))
    ])
    (λ z h. elim (append_cases xs (x ∷ []) z h) [
      | inl k ↦ elim (append_cases (take i xs) (drop i xs) z (subst (λ l. Has l z) (sym (take-append-drop i xs)) k)) [
        | inl m ↦ append_left (take i xs) (x ∷ drop i xs) z m
        | inr m ↦ append_right (take i xs) (x ∷ drop i xs) z (inr m)
      ]
      | inr (inl e) ↦ append_right (take i xs) (x ∷ drop i xs) z (inl e)
      | inr (inr n) ↦ absurd n
    ])

-- a cube that compares as equal is there
pub found_at : (xs : List Cube) (i : ℕ) (x d : Cube) → i < length xs → slice_index_or xs i d ≡ d → cube_cmp d x ≡ Equal → Has xs x
found_at xs i x d b e q = subst (Has xs) (e ∙ cube_linear.exact d x q) (Has-at xs i d b)

-- one cube more, behind those that stood before
pub joined_step : (start left right joined more : List Cube) (i : ℕ) (c : Cube) → set_of cube_cmp joined ≡ set_of cube_cmp (start ++ flat_map (λ d. filter_map (join_cubes d) right) (take i left))
    → take (i + 1) left ≡ take i left ++ c ∷ [] → more ≡ joined ++ filter_map (join_cubes c) right
    → set_of cube_cmp more ≡ set_of cube_cmp (start ++ flat_map (λ d. filter_map (join_cubes d) right) (take (i + 1) left))
joined_step start left right joined more i c e t m =
    let f : Cube → List Cube = λ d. filter_map (join_cubes d) right in
    ap (set_of cube_cmp) m ∙ set_append joined (start ++ flat_map f (take i left)) (f c) e
    ∙ ap (set_of cube_cmp)
    (append_assoc start (flat_map f (take i left)) (f c)
    ∙ ap (λ l. start ++ l) (ap (λ l. flat_map f (take i left) ++ l) (sym (append-nil (f c))) ∙ sym (flat_map-append f (take i left) (c ∷ [])) ∙ ap (flat_map f) (sym t)))

-- where a beginning joins to too many cubes, the whole does
pub joined_wide : (start left right joined : List Cube) (i : ℕ) → set_of cube_cmp joined ≡ set_of cube_cmp (start ++ flat_map (λ d. filter_map (join_cubes d) right) (take i left))
    → stated_limits.label_cubes < length (set_of cube_cmp joined) → stated_limits.label_cubes < length (set_of cube_cmp (start ++ joins left right))
joined_wide start left right joined i e m =
    let f : Cube → List Cube = λ d. filter_map (join_cubes d) right in
    let n : stated_limits.label_cubes < length (set_of cube_cmp (start ++ flat_map f (take i left))) = subst (λ l. stated_limits.label_cubes < length l) e m in
    let longer = set_longer (start ++ flat_map f (take i left)) (flat_map f (drop i left)) in
    let whole : (start ++ flat_map f (take i left)) ++ flat_map f (drop i left) ≡ start ++ joins left right =
    append_assoc start (flat_map f (take i left)) (flat_map f (drop i left))
    ∙ ap (λ l. start ++ l) (sym (flat_map-append f (take i left) (drop i left)) ∙ ap (flat_map f) (take-append-drop i left)) in
    let more = ap (λ l. length (set_of cube_cmp l)) whole in
    omega (arith, n, longer, more)

-- ---- neighbours that are the same

module _ {X : Type 0} (E : X → X → Bool) where
  abbrev Keeps : X → List X → Type 0
  Keeps k xs = (bs : List Bool) × (q : List X) × (length bs ≡ length xs) × ReturnsInTurn (DiffersFromLast E) (k ∷ []) bs xs q × (dedup_from E k xs ≡ k ∷ items_where_true bs xs)

  from_last : (k : X) (xs : List X) → Keeps k xs
  from_last k [] = ([], k ∷ [], refl, refl, refl)
  from_last k (x ∷ xs) = go (E x k) refl (from_last k xs) (from_last x xs)
    where
      go : (b : Bool) → E x k ≡ b → Keeps k xs → Keeps x xs → Keeps k (x ∷ xs)
      go true e (bs, q, l, r, d) w =
          (false ∷ bs, q, ap suc l, (k ∷ [], (e, refl), r), ap (λ c. cond c (dedup_from E k xs) (k ∷ dedup_from E x xs)) e ∙ d)
      go false e w (bs, q, l, r, d) =
          (true ∷ bs, q, ap suc l, (x ∷ [], (e, refl), r), ap (λ c. cond c (dedup_from E k xs) (k ∷ dedup_from E x xs)) e ∙ ap (λ ys. k ∷ ys) d)

  -- what `dedup` leaves is what the test lets through
  pub dedup_filtered : (xs : List X) → IsFiltered (DiffersFromLast E) [] xs (dedup E xs)
  dedup_filtered [] = ([], [], refl, refl, refl)
  dedup_filtered (x ∷ xs) = let (bs, q, l, r, d) = from_last x xs in (true ∷ bs, q, ap suc l, (x ∷ [], (refl, refl), r), d)

-- ---- what stands in a list once a slice of all of it was sorted

pub refill_all : {X : Type 0} (xs ws : List X) → length ws ≡ length xs → refill (length xs) xs ws ≡ ws
refill_all xs ws e = ap (λ n. take n (ws ++ drop (length ws) xs)) (sym e) ∙ take-append_seam ws (drop (length ws) xs)
