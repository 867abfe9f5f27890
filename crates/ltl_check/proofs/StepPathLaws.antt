-- Laws of ways, and of what holds of each step.
use Rattle.std.proofs.Common.{◌≡◌, ◌≢◌, ℕ, ◌+◌, ◌<◌, List, [], ◌∷◌, ◌++◌, length, take, get_or, ◌⊎◌, inl, inr, refl, sym, subst}
use Rattle.std.proofs.lemmas.List.{take_more}
use Rattle.ltl_check.specs.declared.graph.Step.{Step}
use Rattle.ltl_check.specs.declared.walk.Taken.{Taken}
use Rattle.ltl_check.specs.Nets.{Net, IsSuccessor, IsStepPath}
use Rattle.ltl_check.specs.Explored.{Each, OneOf, AreDistinct}

-- ---- each and some
pub each_push : (P : Taken → Type 0) (ts : List Taken) (t : Taken) → Each P ts → P t → Each P (ts ++ t ∷ [])
each_push P [] t e p = (p, tt)
each_push P (u ∷ ts) t e p = (e.0, each_push P ts t e.1 p)

pub each_pop : (P : Taken → Type 0) (ts : List Taken) (t : Taken) → Each P (ts ++ t ∷ []) → Each P ts × P t
each_pop P [] t e = (tt, e.0)
each_pop P (u ∷ ts) t e = let r = each_pop P ts t e.1 in ((e.0, r.0), r.1)

pub each_weaker : (P Q : Taken → Type 0) → ((t : Taken) → P t → Q t) → (ts : List Taken) → Each P ts → Each Q ts
each_weaker P Q f [] e = tt
each_weaker P Q f (t ∷ ts) e = (f t e.0, each_weaker P Q f ts e.1)

pub one_push : (P : Taken → Type 0) (ts : List Taken) (t : Taken) → OneOf P ts → OneOf P (ts ++ t ∷ [])
one_push P [] t h = absurd h
one_push P (u ∷ ts) t (inl p) = inl p
one_push P (u ∷ ts) t (inr h) = inr (one_push P ts t h)

pub one_last : (P : Taken → Type 0) (ts : List Taken) (t : Taken) → P t → OneOf P (ts ++ t ∷ [])
one_last P [] t p = inl p
one_last P (u ∷ ts) t p = inr (one_last P ts t p)

pub one_pop : (P : Taken → Type 0) (ts : List Taken) (t : Taken) → OneOf P (ts ++ t ∷ []) → OneOf P ts ⊎ P t
one_pop P [] t (inl p) = inr p
one_pop P [] t (inr h) = absurd h
one_pop P (u ∷ ts) t (inl p) = inl (inl p)
one_pop P (u ∷ ts) t (inr h) = elim (one_pop P ts t h) [ inl i ↦ inl (inr i) | inr i ↦ inr i ]

-- the steps before place i + 1 are those before i, and the one there
pub one_more : (P : Taken → Type 0) (ts : List Taken) (i : ℕ) (d : Taken) → i < length ts → (OneOf P (take i ts) → ⊥) → (P (get_or ts i d) → ⊥) → OneOf P (take (i + 1) ts) → ⊥
one_more P ts i d l n m h =
    elim (one_pop P (take i ts) (get_or ts i d) (subst (OneOf P) (take_more ts i d l) h)) [ inl a ↦ n a | inr a ↦ m a ]

-- ---- apart
pub distinct_push : (ts : List Taken) (t : Taken) (n : ℕ) → AreDistinct ts t.state → Each (λ u. u.state ≢ n) ts → t.state ≢ n → AreDistinct (ts ++ t ∷ []) n
distinct_push [] t n a e d = (d, tt, tt)
distinct_push (u ∷ ts) t n a e d = (e.0, each_push (λ v. u.state ≢ v.state) ts t a.1 a.0, distinct_push ts t n a.2 e.1 d)

pub distinct_pop : (ts : List Taken) (t : Taken) (n : ℕ) → AreDistinct (ts ++ t ∷ []) n → AreDistinct ts t.state × Each (λ u. u.state ≢ n) (ts ++ t ∷ [])
distinct_pop [] t n a = (tt, (a.0, tt))
distinct_pop (u ∷ ts) t n a =
    let r = distinct_pop ts t n a.2 in
    ((let e = each_pop (λ v. u.state ≢ v.state) ts t a.1 in e.1, (each_pop (λ v. u.state ≢ v.state) ts t a.1).0, r.0), (a.0, r.1))

module _ (N : Net) where
  -- ---- ways
  pub path_append : (s m e : ℕ) (ts us : List Taken) → IsStepPath N s ts m → IsStepPath N m us e → IsStepPath N s (ts ++ us) e
  path_append s m e [] us w v = subst (λ x. IsStepPath N x us e) (sym w) v
  path_append s m e (t ∷ ts) us w v = (w.0, (w.1.0, w.1.1, w.1.2, path_append w.1.0.target m e ts us w.1.3 v))

  pub path_push : (s e : ℕ) (ts : List Taken) (t : Taken) (a : Step ℕ) → IsStepPath N s ts t.state → IsSuccessor N t.state t.pick a → a.letter ≡ t.letter → a.target ≡ e → IsStepPath N s (ts ++ t ∷ []) e
  path_push s e ts t a w i l q = path_append s t.state e ts (t ∷ []) w (refl, (a, i, l, q))

  -- a stem through a step falls in two
  pub path_split : (s e : ℕ) (ts : List Taken) (t : Taken) (us : List Taken) → IsStepPath N s (ts ++ t ∷ us) e → IsStepPath N s ts t.state × IsStepPath N t.state (t ∷ us) e
  path_split s e [] t us w = (sym w.0, (refl, w.1))
  path_split s e (u ∷ ts) t us w =
      let r = path_split w.1.0.target e ts t us w.1.3 in
      ((w.0, (w.1.0, w.1.1, w.1.2, r.0)), r.1)
