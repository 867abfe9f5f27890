-- Lists that are joined two by two, in any order.
use Rattle.std.proofs.Common.{◌≡◌, ℕ, zero, suc, ◌<◌, inl, inr, List, [], ◌∷◌, ◌++◌, length, map, refl, sym, ◌∙◌, ap, subst, arith}
use Rattle.std.specs.Prelude.{slice_index_or}
use Rattle.std.specs.List.{remove}
use lib.ListN.{set, take, drop}
use Rattle.std.proofs.lemmas.List.{append-nil, append_assoc, set-get_or, set_split}
use Rattle.ltl_spec.specs.Collections.Sets.{Has, set_of}
use Rattle.ltl_spec.specs.Transitions.Pairs.{Pair, pair_cmp, join, empty_pair}
use Rattle.ltl_spec.proofs.Collections.MemberLaws.{map_cases}
use Rattle.ltl_spec.proofs.Collections.Orders.{pair_linear}
use Rattle.ltl_spec.proofs.Collections.SetLaws.{append_cases, append_left, append_right, IsRising-set_of, set_of_same}
use Rattle.ltl_spec.proofs.Transitions.ConjunctJoins.{join_of, joined_from_nothing}
use Rattle.ltl_spec.proofs.Transitions.SameJoins.{AreAlike, alike_refl, alike_sym, alike_trans, AreSound, sound_nothing, sound_join, sound_some, join_alike, join_comm, join_assoc, join_nothing}
use Rattle.ltl_alt.specs.StandIns.{IsKeptBy, IsListed}
use Rattle.ltl_alt.proofs.ComponentLaws.{joined_on}
use Rattle.ltl_alt.proofs.StandInLaws.{IsStandIn, kept_all, kept_join, kept_on, kept_same}

-- ---- elements of a list without one, and with one more

whole : {X : Type 0} (xs : List X) (i : ℕ) (x : X) → i < length xs → x ≡ slice_index_or xs i x → take i xs ++ x ∷ drop (suc i) xs ≡ xs
whole xs i x lt is = sym (set_split xs i x lt) ∙ ap (set xs i) is ∙ set-get_or xs i x

between : (xs ys : List ℕ) (x k : ℕ) → Has (xs ++ ys) k → Has (xs ++ x ∷ ys) k
between xs ys x k h = elim (append_cases xs ys k h) [ inl m ↦ append_left xs (x ∷ ys) k m | inr m ↦ append_right xs (x ∷ ys) k (inr m) ]

between_longer : (xs ys : List ℕ) (x : ℕ) → length (xs ++ x ∷ ys) ≡ suc (length (xs ++ ys))
between_longer [] ys x = refl
between_longer (w ∷ xs) ys x = ap suc (between_longer xs ys x)

-- one fewer is left
pub left_fewer : (xs : List ℕ) (i x : ℕ) → i < length xs → x ≡ slice_index_or xs i x → length xs ≡ suc (length (remove xs i))
left_fewer xs i x lt is = sym (ap length (whole xs i x lt is)) ∙ between_longer (take i xs) (drop (suc i) xs) x

-- what is left was there
pub left_there : (xs : List ℕ) (i x : ℕ) → i < length xs → x ≡ slice_index_or xs i x → (k : ℕ) → Has (remove xs i) k → Has xs k
left_there xs i x lt is k h = subst (λ l. Has l k) (whole xs i x lt is) (between (take i xs) (drop (suc i) xs) x k h)

-- so was what was taken
pub taken_there : (xs : List ℕ) (i x : ℕ) → i < length xs → x ≡ slice_index_or xs i x → Has xs x
taken_there xs i x lt is = subst (λ l. Has l x) (whole xs i x lt is) (append_right (take i xs) (x ∷ drop (suc i) xs) x (inl refl))

-- one of them, or what stands in place of those that lack
pub at_place : (P : ℕ → Type 0) (xs : List ℕ) (none i : ℕ) → ((k : ℕ) → Has xs k → P k) → P none → P (slice_index_or xs i none)
at_place P [] none i f p = p
at_place P (x ∷ xs) none zero f p = f x (inl refl)
at_place P (x ∷ xs) none (suc i) f p = at_place P xs none i (λ k h. f k (inr h)) p

-- each of the numbers of things
pub mapped_each : (P : ℕ → Type 0) (h : ℕ → ℕ) (e ns : List ℕ) → ns ≡ map h e → ((k : ℕ) → Has e k → P (h k)) → (n : ℕ) → Has ns n → P n
mapped_each P h e ns d f n m = let (k, i, s) = map_cases h e n (subst (λ l. Has l n) d m) in subst P (sym s) (f k i)

-- the number of one more of them
pub number_pushed : (f : ℕ → ℕ) (old new is rest all : List ℕ) (k x : ℕ) → new ≡ old ++ x ∷ [] → is ≡ k ∷ rest → f k ≡ x → old ++ map f is ≡ all → new ++ map f rest ≡ all
number_pushed f old new is rest all k x d e g h =
    ap (λ l. l ++ map f rest) d ∙ append_assoc old (x ∷ []) (map f rest) ∙ ap (λ y. old ++ y ∷ map f rest) (sym g) ∙ sym (ap (λ l. old ++ map f l) e) ∙ h

-- one more at the end
pub pushed_cases : (P : ℕ → Type 0) (xs : List ℕ) (n : ℕ) → ((k : ℕ) → Has xs k → P k) → P n → (k : ℕ) → Has (xs ++ n ∷ []) k → P k
pushed_cases P xs n f p k h = elim (append_cases xs (n ∷ []) k h) [
  | inl m ↦ f k m
  | inr (inl e) ↦ subst P (sym e) p
  | inr (inr z) ↦ absurd z
]

-- ---- joins

-- the same lists under other numbers
pub join_same : (f g : ℕ → List Pair) (ns : List ℕ) → ((k : ℕ) → Has ns k → f k ≡ g k) → join_of f ns ≡ join_of g ns
join_same f g [] e = refl
join_same f g (n ∷ ns) e = λ i. join (e n (inl refl) i) (join_same f g ns (λ k h. e k (inr h)) i)

pub join_mapped : (f : ℕ → List Pair) (h : ℕ → ℕ) (ns : List ℕ) → join_of f (map h ns) ≡ join_of (λ k. f (h k)) ns
join_mapped f h [] = refl
join_mapped f h (n ∷ ns) = ap (join (f (h n))) (join_mapped f h ns)

swapped : (us vs rs : List Pair) → AreSound us → AreSound vs → AreSound rs → AreAlike (join us (join vs rs)) (join vs (join us rs))
swapped us vs rs s t w =
    alike_trans (join us (join vs rs)) (join (join us vs) rs) (join vs (join us rs)) (alike_sym (join (join us vs) rs) (join us (join vs rs)) (join_assoc us vs rs w.proper))
    (alike_trans (join (join us vs) rs) (join (join vs us) rs) (join vs (join us rs)) (join_alike (join us vs) (join vs us) rs rs (join_comm us vs s.proper t.proper) (alike_refl rs)) (join_assoc vs us rs w.proper))

module _ (f : ℕ → List Pair) where
  abbrev AreAllSound : List ℕ → Type 0
  AreAllSound ns = (k : ℕ) → Has ns k → AreSound (f k)

  sound_of : (ns : List ℕ) → AreSound (join_of f ns)
  sound_of [] = sound_nothing
  sound_of (n ∷ ns) = sound_join (f n) (join_of f ns) (sound_of ns)

  -- one from between goes first
  from_between : (xs : List ℕ) (x : ℕ) (ys : List ℕ) → AreAllSound (xs ++ x ∷ ys) → AreAlike (join_of f (xs ++ x ∷ ys)) (join (f x) (join_of f (xs ++ ys)))
  from_between [] x ys s = alike_refl (join (f x) (join_of f ys))
  from_between (w ∷ xs) x ys s =
      let rs = join_of f (xs ++ ys) in
      alike_trans (join (f w) (join_of f (xs ++ x ∷ ys))) (join (f w) (join (f x) rs)) (join (f x) (join (f w) rs))
      (join_alike (f w) (f w) (join_of f (xs ++ x ∷ ys)) (join (f x) rs) (alike_refl (f w)) (from_between xs x ys (λ k h. s k (inr h))))
      (swapped (f w) (f x) rs (s w (inl refl)) (s x (inr (append_right xs (x ∷ ys) x (inl refl)))) (sound_of (xs ++ ys)))

  -- one that is taken goes first
  taken_first : (ns : List ℕ) (i x : ℕ) → i < length ns → x ≡ slice_index_or ns i x → AreAllSound ns → AreAlike (join_of f ns) (join (f x) (join_of f (remove ns i)))
  taken_first ns i x lt is s =
      let e = whole ns i x lt is in
      subst (λ l. AreAlike (join_of f l) (join (f x) (join_of f (remove ns i)))) e (from_between (take i ns) x (drop (suc i) ns) (subst AreAllSound (sym e) s))

  -- two that are taken are joined first
  taken_two : (ns : List ℕ) (i j x y : ℕ) → j < length ns → y ≡ slice_index_or ns j y → i < length (remove ns j) → x ≡ slice_index_or (remove ns j) i x → AreAllSound ns
      → AreAlike (join_of f ns) (join (join (f x) (f y)) (join_of f (remove (remove ns j) i)))
  taken_two ns i j x y lt is lu iu s =
      let ms = remove ns j in
      let left = left_there ns j y lt is in
      let rs = join_of f (remove ms i) in
      let sx = s x (left x (taken_there ms i x lu iu)) in
      let sy = s y (taken_there ns j y lt is) in
      let sr = sound_of (remove ms i) in
      alike_trans (join_of f ns) (join (f y) (join_of f ms)) (join (join (f x) (f y)) rs) (taken_first ns j y lt is s)
      (alike_trans (join (f y) (join_of f ms)) (join (f y) (join (f x) rs)) (join (join (f x) (f y)) rs)
      (join_alike (f y) (f y) (join_of f ms) (join (f x) rs) (alike_refl (f y)) (taken_first ms i x lu iu (λ k h. s k (left k h))))
      (alike_trans (join (f y) (join (f x) rs)) (join (f x) (join (f y) rs)) (join (join (f x) (f y)) rs) (swapped (f y) (f x) rs sy sx sr)
      (alike_sym (join (join (f x) (f y)) rs) (join (f x) (join (f y) rs)) (join_assoc (f x) (f y) rs sr.proper))))

  -- at most two lists, with one whose only pair needs nothing in place of those that lack
  pub two_left : (ns : List ℕ) (none : ℕ) → length ns < 3 → f none ≡ empty_pair ∷ [] → AreAllSound ns → AreAlike (join_of f ns) (join (f (slice_index_or ns 0 none)) (f (slice_index_or ns 1 none)))
  two_left [] none l e s = alike_sym (join (f none) (f none)) (empty_pair ∷ []) (subst (λ ps. AreAlike (join ps ps) (empty_pair ∷ [])) (sym e) (join_nothing (empty_pair ∷ []) sound_nothing))
  two_left (x ∷ []) none l e s = subst (λ ps. AreAlike (join (f x) (empty_pair ∷ [])) (join (f x) ps)) (sym e) (alike_refl (join (f x) (empty_pair ∷ [])))
  two_left (x ∷ y ∷ []) none l e s = join_alike (f x) (f x) (join (f y) (empty_pair ∷ [])) (f y) (alike_refl (f x)) (join_nothing (f y) (s y (inr (inl refl))))
  two_left (x ∷ y ∷ z ∷ ns) none l e s = absurd (omega (arith, l))

-- ---- what is kept

module _ {S : Pair → Pair → Type 0} (o : IsStandIn S) where
  pub kept_alike : (ps qs : List Pair) → AreAlike ps qs → IsKeptBy S ps qs
  kept_alike ps qs a = record { from = a.back; covers = λ p h. (p, a.there p h, o.itself p) }

  -- the lists of conjuncts under their numbers
  pub order_begins : (conjunct f : ℕ → List Pair) (sound : (k : ℕ) → AreSound (conjunct k)) (start : ℕ → ℕ) (e ns : List ℕ) → ns ≡ map start e → ((k : ℕ) → Has e k → conjunct k ≡ f (start k))
      → IsKeptBy S (joined_on conjunct (empty_pair ∷ []) e) (join_of f ns)
  order_begins conjunct f sound start e ns d g =
      subst (IsKeptBy S (joined_on conjunct (empty_pair ∷ []) e)) (join_same conjunct (λ k. f (start k)) e g ∙ sym (join_mapped f start e) ∙ ap (join_of f) (sym d))
      (kept_alike (joined_on conjunct (empty_pair ∷ []) e) (join_of conjunct e) (joined_from_nothing conjunct sound e))

  -- two are taken, and what is kept of their join comes last
  pub order_step : (f : ℕ → List Pair) (all : List Pair) (ns : List ℕ) (i j x y n : ℕ) → j < length ns → y ≡ slice_index_or ns j y → i < length (remove ns j) → x ≡ slice_index_or (remove ns j) i x
      → ((k : ℕ) → Has ns k → AreSound (f k)) → IsKeptBy S (join (f x) (f y)) (f n) → IsKeptBy S all (join_of f ns) → IsKeptBy S all (join_of f (remove (remove ns j) i ++ n ∷ []))
  order_step f all ns i j x y n lt is lu iu s k a =
      let rest = remove (remove ns j) i in
      let rs = join_of f rest in
      let sy = s y (taken_there ns j y lt is) in
      let sn = sound_some (join (f x) (f y)) (f n) k.from (sound_join (f x) (f y) sy) in
      let left : (m : ℕ) → Has rest m → AreSound (f m) = λ m h. s m (left_there ns j y lt is m (left_there (remove ns j) i x lu iu m h)) in
      let last = from_between f rest n [] (pushed_cases (λ m. AreSound (f m)) rest n left sn) in
      let back : AreAlike (join (f n) rs) (join_of f (rest ++ n ∷ [])) = alike_sym (join_of f (rest ++ n ∷ [])) (join (f n) rs) (subst (λ l. AreAlike (join_of f (rest ++ n ∷ [])) (join (f n) (join_of f l))) (append-nil rest) last) in
      kept_on o all (join_of f ns) (join_of f (rest ++ n ∷ [])) a
      (kept_on o (join_of f ns) (join (join (f x) (f y)) rs) (join_of f (rest ++ n ∷ [])) (kept_alike (join_of f ns) (join (join (f x) (f y)) rs) (taken_two f ns i j x y lt is lu iu s))
      (kept_on o (join (join (f x) (f y)) rs) (join (f n) rs) (join_of f (rest ++ n ∷ [])) (kept_join o (join (f x) (f y)) (f n) rs rs k (kept_all o rs)) (kept_alike (join (f n) rs) (join_of f (rest ++ n ∷ [])) back)))

  -- of the last join none is dropped but repeated ones
  pub order_ends : (f : ℕ → List Pair) (all : List Pair) (ns : List ℕ) (none : ℕ) → length ns < 3 → f none ≡ empty_pair ∷ [] → ((k : ℕ) → Has ns k → AreSound (f k)) → IsKeptBy S all (join_of f ns)
      → IsListed S all (set_of pair_cmp (join (f (slice_index_or ns 0 none)) (f (slice_index_or ns 1 none))))
  order_ends f all ns none l e s a =
      let ps = join (f (slice_index_or ns 0 none)) (f (slice_index_or ns 1 none)) in
      let up = IsRising-set_of pair_linear ps in
      record {
        kept = kept_on o all (join_of f ns) (set_of pair_cmp ps) a
            (kept_on o (join_of f ns) ps (set_of pair_cmp ps) (kept_alike (join_of f ns) ps (two_left f ns none l e s)) (kept_same o ps (set_of pair_cmp ps) (set_of_same pair_linear (set_of pair_cmp ps) up)));
        rising = up;
      }
