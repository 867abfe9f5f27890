-- The columns of sets, step by step.
use Rattle.std.proofs.Common.{◌≡◌, ℕ, ◌+◌, ◌-◌, ◌*◌, ◌<◌, ◌≤◌, ◌⊎◌, max, inl, inr, List, [], ◌∷◌, ◌++◌, All, length, take, get_or, sym, ◌∙◌, ap, subst, arith}
use Rattle.std.specs.List.{AllByRecursion}
use Rattle.std.specs.Ordering.{nat_cmp}
use Rattle.std.proofs.lemmas.List.{length-append, get_or-append_right, get_or_append_left, get_or_past, take_all}
use Rattle.std.proofs.lemmas.List.Elements.{All-get_or, All-more, All-weaker}
use Rattle.ltl_spec.specs.Collections.Sets.{Has, has, union}
use Rattle.ltl_sets.specs.Transposed.{AreMet, IsOctet}
use Rattle.ltl_spec.proofs.Collections.Orders.{nat_linear}
use Rattle.ltl_spec.proofs.Collections.SetLaws.{union_left, union_right}
use Rattle.least.specs.Columns.{AreColumnsOf, AreFilled, IsMet, IsWide, set_at}
use Rattle.least.proofs.HasLaws.{false_if, from_has}

inside_or_past : (a b : ℕ) → (a < b) ⊎ (b ≤ a)
inside_or_past a b = grind arith

-- ---- the numbers that are met

pub met_more : (all new set : List ℕ) (sets : List (List ℕ)) (i : ℕ) → i < length sets → set ≡ get_or sets i set → new ≡ union nat_cmp all set → All (IsMet all) (take i sets) → All (IsMet new) (take (i + 1) sets)
met_more all new set sets i h e n f =
    subst (λ m. All (IsMet m) (take (i + 1) sets)) (sym n)
    (All-more (IsMet (union nat_cmp all set)) sets i set h
    (All-weaker (IsMet all) (IsMet (union nat_cmp all set)) (λ x m z p. union_left nat_linear all set z (m z p)) (take i sets) f)
    (subst (IsMet (union nat_cmp all set)) e (λ z p. union_right nat_linear all set z p)))

pub met_whole : (all : List ℕ) (sets : List (List ℕ)) (i : ℕ) → length sets ≤ i → All (IsMet all) (take i sets) → AreMet sets all
met_whole all sets i h f e j m = elim (inside_or_past j (length sets)) [
  | inl l ↦ All-get_or (IsMet all) sets j [] l (subst (All (IsMet all)) (take_all i sets h) f) e m
  | inr l ↦ absurd (subst (λ s. Has s e) (get_or_past sets j [] l) m)
]

-- ---- a number above all members

-- the members are below the number, or they come later
abbrev pub IsWideBut : List ℕ → List ℕ → ℕ → Type 0
IsWideBut met rest width = (width ≤ 256) × (AllByRecursion (λ i. i < 256) rest) × ((e : ℕ) → Has met e → (e < width) ⊎ Has rest e)

pub wide_step : (met rest new : List ℕ) (e width wider : ℕ) → rest ≡ e ∷ new → wider ≡ max width (e + 1) → IsWideBut met rest width → IsWideBut met new wider
wide_step met rest new e width wider is w (fits, low, f) = (
  omega (arith, w, fits, (subst (AllByRecursion (λ i. i < 256)) is low).0),
  (subst (AllByRecursion (λ i. i < 256)) is low).1,
  λ z h. elim (f z h) [
    | inl l ↦ inl (omega (arith, w))
    | inr m ↦ by z (subst (λ l. Has l z) is m)
  ],
)
  where
    by : (z : ℕ) → Has (e ∷ new) z → (z < wider) ⊎ Has new z
    by z (inl s) = inl (omega (arith, w))
    by z (inr m) = inr m

pub wide_fits : (met rest new : List ℕ) (e width : ℕ) → rest ≡ e ∷ new → IsWideBut met rest width → e < 256
wide_fits met rest new e width is (fits, low, f) = (subst (AllByRecursion (λ i. i < 256)) is low).0

pub wide_ends : (met rest : List ℕ) (width : ℕ) → rest ≡ [] → IsWideBut met rest width → IsWide met width
wide_ends met rest width is (fits, low, f) z h = elim (f z h) [ inl l ↦ l | inr m ↦ absurd (subst (λ l. Has l z) is m) ]

-- ---- eight more columns

-- the first 8 * k columns
pub record AreFilledTo (sets : List (List ℕ)) (k : ℕ) (columns : List (List ℕ)) : Type 0 where
  pub long : length columns ≡ 8 * k
  pub each : (e j : ℕ) → e < 8 * k → has nat_cmp j (set_at columns e) ≡ has nat_cmp e (set_at sets j)

pub fill_step : (sets columns new octet : List (List ℕ)) (k : ℕ) → length octet ≡ 8 → IsOctet sets k octet → new ≡ columns ++ octet → AreFilledTo sets k columns → AreFilledTo sets (k + 1) new
fill_step sets columns new octet k long eight is f = record {
  long = ap length is ∙ length-append columns octet ∙ omega (arith, f.long, long);
  each = λ e j h. elim (inside_or_past e (8 * k)) [
    | inl l ↦ ap (λ cs. has nat_cmp j (set_at cs e)) is ∙ ap (has nat_cmp j) (get_or_append_left columns octet [] e (omega (arith, f.long))) ∙ f.each e j l
    | inr l ↦
        ap (λ cs. has nat_cmp j (set_at cs e)) is
        ∙ ap (has nat_cmp j) (get_or-append_right columns octet (8 * k) e [] f.long l)
        ∙ eight (e - 8 * k) j (omega arith)
        ∙ ap (λ x. has nat_cmp x (set_at sets j)) (omega arith)
  ];
}

-- ---- all columns

pub columns_of : (sets columns : List (List ℕ)) (met : List ℕ) (width : ℕ) → AreMet sets met → IsWide met width → AreFilled sets width columns → AreColumnsOf sets (record { met = met; columns = columns })
columns_of sets columns met width all wide filled = record {
  each = λ e j. elim (inside_or_past e (length columns)) [
    | inl l ↦ filled.each e j l
    | inr l ↦
        ap (has nat_cmp j) (get_or_past columns e [] l)
        ∙ sym (false_if (has nat_cmp e (set_at sets j)) (λ t. past e (wide e (all e j (from_has e (set_at sets j) t))) l))
  ];
  met = all;
}
  where
    past : (e : ℕ) → e < width → length columns ≤ e → ⊥
    past e l h = absurd (omega (arith, filled.long))
