-- The elements of lists that are made by a map, a chain or a filter with a map; what holds of all or of some elements.
use Rattle.std.proofs.Common.{◌≡◌, Bool, true, false, cond, ◌||◌, inl, inr, List, [], ◌∷◌, map, length, refl, sym, ◌∙◌, ap, subst, Option, Some, None, ◌++◌}
use Rattle.std.specs.Prelude.{flat_map, filter_map}
use Rattle.std.specs.Bool.{Decides}
use Rattle.std.specs.List.{filter, list_all, list_any, cons_option}
use Rattle.std.proofs.lemmas.Bool.{and_from}
use Rattle.std.proofs.lemmas.List.{length-map}
use Rattle.ltl_spec.specs.Collections.Sets.{Has}
use Rattle.ltl_spec.proofs.Collections.SetLaws.{append_cases, append_left, append_right}
use Rattle.ltl_spec.proofs.Collections.CaseLaws.{false_is_true, left_true, right_true}
-- a map's element at a place
pub use Rattle.std.proofs.lemmas.List.{get_or-map as at_map}

-- a map has the images of the elements
pub Has-map : {X Y : Type 0} (f : X → Y) (xs : List X) (x : X) → Has xs x → Has (map f xs) (f x)
Has-map f [] x h = absurd h
Has-map f (y ∷ ys) x (inl e) = inl (ap f e)
Has-map f (y ∷ ys) x (inr h) = inr (Has-map f ys x h)

pub map_cases : {X Y : Type 0} (f : X → Y) (xs : List X) (z : Y) → Has (map f xs) z → (x : X) × Has xs x × (z ≡ f x)
map_cases f [] z h = absurd h
map_cases f (y ∷ ys) z (inl e) = (y, inl refl, e)
map_cases f (y ∷ ys) z (inr h) = let (x, k, e) = map_cases f ys z h in (x, inr k, e)

-- a map's length
pub map_length : {X Y : Type 0} (f : X → Y) (xs : List X) → length (map f xs) ≡ length xs
map_length f xs = length-map xs f

-- a chain has what one of its lists has
pub Has-flat_map : {X Y : Type 0} (f : X → List Y) (xs : List X) (x : X) (y : Y) → Has xs x → Has (f x) y → Has (flat_map f xs) y
Has-flat_map f [] x y h k = absurd h
Has-flat_map f (z ∷ xs) x y (inl e) k = append_left (f z) (flat_map f xs) y (subst (λ w. Has (f w) y) e k)
Has-flat_map f (z ∷ xs) x y (inr h) k = append_right (f z) (flat_map f xs) y (Has-flat_map f xs x y h k)

pub flat_map_cases : {X Y : Type 0} (f : X → List Y) (xs : List X) (y : Y) → Has (flat_map f xs) y → (x : X) × Has xs x × Has (f x) y
flat_map_cases f [] y h = absurd h
flat_map_cases f (z ∷ xs) y h = elim (append_cases (f z) (flat_map f xs) y h) [
  | inl k ↦ (z, inl refl, k)
  | inr k ↦ let (x, m, n) = flat_map_cases f xs y k in (x, inr m, n)
]

-- a filter that maps has the images that there are
behind : {Y : Type 0} (o : Option Y) (ys : List Y) (y : Y) → Has ys y → Has (cons_option o ys) y
behind None ys y h = h
behind (Some w) ys y h = inr h

pub Has-filter_map : {X Y : Type 0} (f : X → Option Y) (xs : List X) (x : X) (y : Y) → Has xs x → f x ≡ Some y → Has (filter_map f xs) y
Has-filter_map f [] x y h e = absurd h
Has-filter_map f (z ∷ xs) x y (inl d) e = subst (λ o. Has (cons_option o (filter_map f xs)) y) (sym (ap f (sym d) ∙ e)) (inl refl)
Has-filter_map f (z ∷ xs) x y (inr h) e = behind (f z) (filter_map f xs) y (Has-filter_map f xs x y h e)

pub filter_map_cases : {X Y : Type 0} (f : X → Option Y) (xs : List X) (y : Y) → Has (filter_map f xs) y → (x : X) × Has xs x × (f x ≡ Some y)
filter_map_cases f [] y h = absurd h
filter_map_cases {X} {Y} f (z ∷ xs) y h =
    let rest : Has (filter_map f xs) y → (x : X) × Has (z ∷ xs) x × (f x ≡ Some y) = λ k. let (x, m, n) = filter_map_cases f xs y k in (x, inr m, n) in
    elim (f z) as (λ o. f z ≡ o → Has (cons_option o (filter_map f xs)) y → (x : X) × Has (z ∷ xs) x × (f x ≡ Some y)) [
      | None ↦ λ e k. rest k
      | Some w ↦ λ e. elim [ inl d ↦ (z, inl refl, e ∙ ap Some (sym d)) | inr k ↦ rest k ]
    ] refl h

-- the tests of all elements and of some element are right
pub all_Decides : {X : Type 0} (p : X → Bool) (xs : List X) → Decides (list_all p xs) ((x : X) → Has xs x → p x ≡ true)
all_Decides p [] = ((λ e x h. absurd h), λ f. refl)
all_Decides p (y ∷ ys) = (
  (λ e x. elim [ inl d ↦ ap p d ∙ left_true _ _ e | inr h ↦ (all_Decides p ys).0 (right_true (p y) _ e) x h ]),
  λ f. and_from _ _ (f y (inl refl)) ((all_Decides p ys).1 (λ x h. f x (inr h))),
)

-- some element passes exactly where the test of some says so
pub any_cases : {X : Type 0} (p : X → Bool) (xs : List X) → list_any p xs ≡ true → (x : X) × Has xs x × (p x ≡ true)
any_cases p [] e = false_is_true e
any_cases {X} p (y ∷ ys) e =
    elim (p y) as (λ b. p y ≡ b → (b || list_any p ys) ≡ true → (x : X) × Has (y ∷ ys) x × (p x ≡ true)) [
      | true ↦ λ d f. (y, inl refl, d)
      | false ↦ λ d f. let (x, m, n) = any_cases p ys f in (x, inr m, n)
    ] refl e

pub any_true : {X : Type 0} (p : X → Bool) (xs : List X) (x : X) → Has xs x → p x ≡ true → list_any p xs ≡ true
any_true p [] x h e = absurd h
any_true p (y ∷ ys) x (inl d) e = ap (λ b. b || list_any p ys) (ap p (sym d) ∙ e)
any_true p (y ∷ ys) x (inr h) e =
    elim (p y) as (λ b. (b || list_any p ys) ≡ true) [ true ↦ refl | false ↦ any_true p ys x h e ]

-- what holds of all of two lists in a row holds of all of each
pub all_front : {X : Type 0} (p : X → Bool) (xs ys : List X) → list_all p (xs ++ ys) ≡ true → list_all p xs ≡ true
all_front p [] ys e = refl
all_front p (x ∷ xs) ys e = and_from (p x) (list_all p xs) (left_true (p x) _ e) (all_front p xs ys (right_true (p x) _ e))

pub all_behind : {X : Type 0} (p : X → Bool) (xs ys : List X) → list_all p (xs ++ ys) ≡ true → list_all p ys ≡ true
all_behind p [] ys e = e
all_behind p (x ∷ xs) ys e = all_behind p xs ys (right_true (p x) _ e)

-- and the other way round
pub all_append : {X : Type 0} (p : X → Bool) (xs ys : List X) → list_all p xs ≡ true → list_all p ys ≡ true → list_all p (xs ++ ys) ≡ true
all_append p [] ys e f = f
all_append p (x ∷ xs) ys e f = and_from (p x) _ (left_true (p x) _ e) (all_append p xs ys (right_true (p x) _ e) f)

-- a weaker test passes too
pub all_weaker : {X : Type 0} (p q : X → Bool) → ((x : X) → p x ≡ true → q x ≡ true) → (xs : List X) → list_all p xs ≡ true → list_all q xs ≡ true
all_weaker p q w [] e = refl
all_weaker p q w (x ∷ xs) e = and_from (q x) _ (w x (left_true (p x) _ e)) (all_weaker p q w xs (right_true (p x) _ e))

-- a filter leaves a list as it is whose elements all pass
pub filter_all : {X : Type 0} (p : X → Bool) (xs : List X) → ((x : X) → Has xs x → p x ≡ true) → filter p xs ≡ xs
filter_all p [] f = refl
filter_all p (x ∷ xs) f = ap (λ b. cond b (x ∷ filter p xs) (filter p xs)) (f x (inl refl)) ∙ ap (λ ys. x ∷ ys) (filter_all p xs (λ y h. f y (inr h)))
