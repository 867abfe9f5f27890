-- Which pairs are safe to drop, and tests for that.
use Rattle.std.proofs.Common.{◌≡◌, Bool, true, false, refl, sym, ◌∙◌, subst, Some}
use Rattle.ltl_spec.specs.Collections.Sets.{Has, has}
use Rattle.ltl_spec.specs.Transitions.Cubes.{Literal, literal_cmp, opposite, Cube, is_contradictory}
use Rattle.ltl_spec.specs.NormalForms.Normal.{Normal}
use Rattle.ltl_spec.specs.Transitions.Pairs.{RowSet, Pair, join_pair}
use Rattle.ltl_spec.specs.Transitions.RowTransitions.{Table, is_marked}
use Rattle.ltl_spec.proofs.Collections.SetLaws.{has_Decides}
use Rattle.ltl_spec.proofs.Collections.Orders.{literal_linear}
use Rattle.ltl_spec.proofs.Transitions.JoinLaws.{Within, within_refl, within_trans, united, within_left, within_right, IsConsistent, join_pair_is, joined_from, united_least}
use Rattle.ltl_spec.specs.Transitions.Pruning.{IsSafeToDrop, is_counted}
use Rattle.ltl_spec.proofs.Transitions.LeastPairs.{is_within_Decides, marked_alike}
use Rattle.ltl_spec.proofs.Collections.CaseLaws.{false_is_true}
use Rattle.ltl_spec.proofs.Collections.MemberLaws.{any_cases, any_true}

-- contradiction

-- more literals contradict each other too
pub contradiction_grows : (a b : Cube) → ((l : Literal) → Has a l → Has b l) → is_contradictory a ≡ true → is_contradictory b ≡ true
contradiction_grows a b f e =
    let (l, h, t) = any_cases (λ m. has literal_cmp (opposite m) a) a e in
    any_true (λ m. has literal_cmp (opposite m) b) b l (f l h) ((has_Decides literal_linear (opposite l) b).1 (f (opposite l) ((has_Decides literal_linear (opposite l) a).0 t)))

-- fewer literals don't
pub consistent_shrinks : (a b : Cube) → ((l : Literal) → Has a l → Has b l) → is_contradictory b ≡ false → is_contradictory a ≡ false
consistent_shrinks a b f n = at (is_contradictory a) refl
  where
    at : (x : Bool) → is_contradictory a ≡ x → x ≡ false
    at true e = false_is_true (sym n ∙ contradiction_grows a b f e)
    at false e = refl

-- so is what is within a consistent pair
pub consistent_within : (p q : Pair) → Within p q → IsConsistent q → IsConsistent p
consistent_within p q w n = consistent_shrinks p.cube q.cube w.cube n

-- uniting keeps what is within
pub united_within : (p q x y : Pair) → Within p q → Within x y → Within (united p x) (united q y)
united_within p q x y v w = united_least p x (united q y) (within_trans p q (united q y) v (within_left q y)) (within_trans x y (united q y) w (within_right q y))

-- the grouping of three plays no part
pub grouped_right : (p q r : Pair) → Within (united (united p q) r) (united p (united q r))
grouped_right p q r =
    united_least (united p q) r (united p (united q r))
    (united_within p p q (united q r) (within_refl p) (within_left q r))
    (within_trans r (united q r) (united p (united q r)) (within_right q r) (within_right p (united q r)))

-- the other way round
pub grouped_left : (p q r : Pair) → Within (united p (united q r)) (united (united p q) r)
grouped_left p q r =
    united_least p (united q r) (united (united p q) r)
    (within_trans p (united p q) (united (united p q) r) (within_left p q) (within_left (united p q) r))
    (united_within q (united p q) r r (within_right p q) (within_refl r))

-- nor the order of two
pub swapped : (p q : Pair) → Within (united p q) (united q p)
swapped p q = united_least p q (united q p) (within_right q p) (within_left q p)

-- safe to drop

-- of the until rows those count that have their places in `counted`
module _ (table : Table) (counted : RowSet) where
  -- the same without the joins: every consistent completion of t keeps its marks with u
  abbrev pub KeepsMarks : Pair → Pair → Type 0
  KeepsMarks t u = (x : Pair) → IsConsistent (united t x) → (f : Normal) → Has table.untils f → is_counted table counted f ≡ true → is_marked table (united t x) f ≡ true → is_marked table (united u x) f ≡ true

  -- the pair that stands for t is within it
  pub safe_within : {t u : Pair} → IsSafeToDrop table counted t u → Within u t
  safe_within {t} {u} s = (is_within_Decides u t).0 s.less

  -- that is enough to be safe
  pub safe_from : (t u : Pair) → Within u t → KeepsMarks t u → IsSafeToDrop table counted t u
  safe_from t u w keeps = record {
    less = (is_within_Decides u t).1 w;
    marks = λ x c d a b f h k m.
        let i = join_pair_is t x c a in
        let j = join_pair_is u x d b in
        subst (λ p. is_marked table p f ≡ true) (sym j.0) (keeps x i.1 f h k (subst (λ p. is_marked table p f ≡ true) i.0 m));
  }

  -- and follows from it
  pub safe_keeps : (t u : Pair) → IsSafeToDrop table counted t u → KeepsMarks t u
  safe_keeps t u s x n f h k m =
      s.marks x (united t x) (united u x) (joined_from t x n)
      (joined_from u x (consistent_within (united u x) (united t x) (united_within u t x x (safe_within s) (within_refl x)) n)) f h k m

  -- a pair may stand for itself
  pub safe_refl : (t : Pair) → IsSafeToDrop table counted t t
  safe_refl t = safe_from t t (within_refl t) (λ x n f h k m. m)

  -- what stands for one that stands for t stands for t
  pub safe_trans : (t u v : Pair) → IsSafeToDrop table counted t u → IsSafeToDrop table counted u v → IsSafeToDrop table counted t v
  safe_trans t u v a b =
      safe_from t v (within_trans v u t (safe_within b) (safe_within a))
      (λ x n f h k m. safe_keeps u v b x (consistent_within (united u x) (united t x) (united_within u t x x (safe_within a) (within_refl x)) n) f h k (safe_keeps t u a x n f h k m))

  -- only the members count
  pub safe_alike : (t u s v : Pair) → Within t s → Within s t → Within u v → Within v u → IsSafeToDrop table counted t u → IsSafeToDrop table counted s v
  safe_alike t u s v ts st uv vu a =
      safe_from s v (within_trans v u s vu (within_trans u t s (safe_within a) ts))
      (λ x n f h k m.
      let tx = united_within t s x x ts (within_refl x) in
      let sx = united_within s t x x st (within_refl x) in
      let ux = united_within u v x x uv (within_refl x) in
      let vx = united_within v u x x vu (within_refl x) in
      marked_alike table (united u x) (united v x) f ux vx
      (safe_keeps t u a x (consistent_within (united t x) (united s x) tx n) f h k (marked_alike table (united s x) (united t x) f sx tx m)))

  -- it stays safe with more pairs at once
  pub safe_united : (t u y : Pair) → IsSafeToDrop table counted t u → IsSafeToDrop table counted (united t y) (united u y)
  safe_united t u y a =
      safe_from (united t y) (united u y) (united_within u t y y (safe_within a) (within_refl y))
      (λ x n f h k m.
      marked_alike table (united u (united y x)) (united (united u y) x) f (grouped_left u y x) (grouped_right u y x)
      (safe_keeps t u a (united y x) (consistent_within (united t (united y x)) (united (united t y) x) (grouped_left t y x) n) f h k
      (marked_alike table (united (united t y) x) (united t (united y x)) f (grouped_right t y x) (grouped_left t y x) m)))

  -- on either side
  pub safe_united_right : (t u y : Pair) → IsSafeToDrop table counted t u → IsSafeToDrop table counted (united y t) (united y u)
  safe_united_right t u y a =
      safe_alike (united t y) (united u y) (united y t) (united y u) (swapped t y) (swapped y t) (swapped u y) (swapped y u) (safe_united t u y a)

  -- so of two joined pairs each may be dropped for another one
  pub safe_join : (t u s v a : Pair) → IsSafeToDrop table counted t u → IsSafeToDrop table counted s v → join_pair t s ≡ Some a → (b : Pair) × (join_pair u v ≡ Some b) × IsSafeToDrop table counted a b
  safe_join t u s v a tu sv e =
      let i = join_pair_is t s a e in
      let w = united_within u t v s (safe_within tu) (safe_within sv) in (
        united u v,
        joined_from u v (consistent_within (united u v) (united t s) w i.1),
        subst (λ p. IsSafeToDrop table counted p (united u v)) (sym i.0) (safe_trans (united t s) (united u s) (united u v) (safe_united t u s tu) (safe_united_right s v u sv)),
      )
