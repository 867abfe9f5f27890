-- A test by sets of numbers that lists of pairs are independent of each other.
use Rattle.std.proofs.Common.{◌≡◌, ℕ, Bool, true, false, not, ◌&&◌, ◌||◌, inl, inr, List, [], ◌∷◌, ◌++◌, refl, sym, ◌∙◌, ap, subst}
use Rattle.std.specs.Prelude.{if◌then◌else◌, cond}
use Rattle.std.specs.List.{list_any}
use Rattle.std.specs.Bool.{beq}
use Rattle.std.specs.Ordering.{nat_cmp}
use Rattle.std.proofs.lemmas.Bool.{or_left, or_right}
use Rattle.ltl_spec.specs.Collections.Sets.{Has, union, has}
use Rattle.ltl_spec.specs.Transitions.Cubes.{Literal}
use Rattle.ltl_spec.specs.NormalForms.Normal.{Normal}
use Rattle.ltl_spec.specs.Transitions.Pairs.{RowSet, Pair}
use Rattle.ltl_spec.specs.Transitions.RowTransitions.{Table, place}
use Rattle.ltl_spec.proofs.Collections.SetLaws.{has_Decides, append_cases, union_left, union_right}
use Rattle.ltl_spec.proofs.Collections.Orders.{nat_linear}
use Rattle.ltl_spec.proofs.Collections.MemberLaws.{any_true}
use Rattle.ltl_spec.proofs.Collections.CaseLaws.{false_is_true, left_true, right_true, beq_true, beq_refl}
use Rattle.ltl_spec.proofs.Transitions.UnimpliedLaws.{not_cases}
use Rattle.ltl_spec.proofs.Transitions.IndependentPairs.{Asks, Leads, KeepsOff, AreIndependent}

-- what pairs ask for: the propositions of positive and of negative literals, and targets
pub record Support : Type 0 where
  pub positive : List ℕ
  pub negative : List ℕ
  pub targets : RowSet

abbrev pub of_sign : Bool → Support → List ℕ
of_sign true a = a.positive
of_sign false a = a.negative

-- the propositions of the literals of this sign
abbrev pub names_in : Bool → List Literal → List ℕ
names_in sign [] = []
names_in sign (l ∷ ls) = if beq sign l.positive then l.proposition ∷ names_in sign ls else names_in sign ls

-- nothing, what one pair asks for, and what two ask for together
abbrev pub no_support : Support
no_support = record { positive = []; negative = []; targets = [] }

abbrev pub support_of : Pair → Support
support_of p = record { positive = names_in true p.cube; negative = names_in false p.cube; targets = p.targets }

abbrev pub together : Support → Support → Support
together a b = record { positive = union nat_cmp a.positive b.positive; negative = union nat_cmp a.negative b.negative; targets = union nat_cmp a.targets b.targets }

-- what the pairs of a list ask for
abbrev pub asked_of : List Pair → Support
asked_of [] = no_support
asked_of (p ∷ ps) = together (support_of p) (asked_of ps)

-- two lists of numbers share one
abbrev pub meets : List ℕ → List ℕ → Bool
meets xs ys = list_any (λ x. has nat_cmp x ys) xs

-- a literal or a target is in both
abbrev pub shares_some : Support → Support → Bool
shares_some a b = meets a.positive b.positive || meets a.negative b.negative || meets a.targets b.targets

-- a proposition is in both, of whichever sign, or a target
abbrev pub speaks_of_same : Support → Support → Bool
speaks_of_same a b = shares_some a b || meets a.positive b.negative || meets a.negative b.positive

-- a and b are what two lists ask for, v and w what fulfils the until rows that they put off
abbrev pub is_independent : Support → Support → Support → Support → Bool
is_independent a v b w = not (speaks_of_same a b) && not (shares_some v b) && not (shares_some w a)

-- what an answer of the tests says

meets_from : (xs ys : List ℕ) (z : ℕ) → Has xs z → Has ys z → meets xs ys ≡ true
meets_from xs ys z h k = any_true (λ x. has nat_cmp x ys) xs z h ((has_Decides nat_linear z ys).1 k)

-- all that the pairs of a list ask for is among it
pub record Covers (a : Support) (ps : List Pair) : Type 0 where
  pub literals : (l : Literal) → Asks ps l → Has (of_sign l.positive a) l.proposition
  pub rows : (k : ℕ) → Leads ps k → Has a.targets k

-- what is more covers too
pub record IsWithinSupport (a b : Support) : Type 0 where
  pub positive : (n : ℕ) → Has a.positive n → Has b.positive n
  pub negative : (n : ℕ) → Has a.negative n → Has b.negative n
  pub targets : (n : ℕ) → Has a.targets n → Has b.targets n

-- of either sign
pub within_sign : (a b : Support) → IsWithinSupport a b → (s : Bool) (n : ℕ) → Has (of_sign s a) n → Has (of_sign s b) n
within_sign a b w true n h = w.positive n h
within_sign a b w false n h = w.negative n h

pub covers_more : (a b : Support) (ps : List Pair) → IsWithinSupport a b → Covers a ps → Covers b ps
covers_more a b ps w c = record { literals = λ l h. within_sign a b w l.positive l.proposition (c.literals l h); rows = λ k h. w.targets k (c.rows k h) }

pub within_together_left : (a b : Support) → IsWithinSupport a (together a b)
within_together_left a b = record {
  positive = λ n h. union_left nat_linear a.positive b.positive n h;
  negative = λ n h. union_left nat_linear a.negative b.negative n h;
  targets = λ n h. union_left nat_linear a.targets b.targets n h;
}

pub within_together_right : (a b : Support) → IsWithinSupport b (together a b)
within_together_right a b = record {
  positive = λ n h. union_right nat_linear a.positive b.positive n h;
  negative = λ n h. union_right nat_linear a.negative b.negative n h;
  targets = λ n h. union_right nat_linear a.targets b.targets n h;
}

-- a literal's proposition is among those of its sign
pub Has-names : (ls : List Literal) (l : Literal) → Has ls l → Has (names_in l.positive ls) l.proposition
Has-names [] l h = absurd h
Has-names (m ∷ ls) l h =
    elim (beq l.positive m.positive) as (λ b. beq l.positive m.positive ≡ b → Has (cond b (m.proposition ∷ names_in l.positive ls) (names_in l.positive ls)) l.proposition) [
      | true ↦ λ e. elim h [ inl d ↦ inl (ap (λ (x : Literal). x.proposition) d) | inr k ↦ inr (Has-names ls l k) ]
      | false ↦ λ e. elim h [ inl d ↦ false_is_true (sym e ∙ ap (λ (x : Literal). beq l.positive x.positive) (sym d) ∙ beq_refl l.positive) | inr k ↦ Has-names ls l k ]
    ] refl

-- and each proposition there is that of such a literal
pub names_cases : (s : Bool) (ls : List Literal) (n : ℕ) → Has (names_in s ls) n → Has ls (record { proposition = n; positive = s })
names_cases s [] n h = absurd h
names_cases s (m ∷ ls) n h =
    elim (beq s m.positive) as (λ b. beq s m.positive ≡ b → Has (cond b (m.proposition ∷ names_in s ls) (names_in s ls)) n → Has (m ∷ ls) (record { proposition = n; positive = s })) [
      | true ↦ λ e. elim [ inl d ↦ inl (let c = beq_true s m.positive e in λ i. record { proposition = d i; positive = c i }) | inr k ↦ inr (names_cases s ls n k) ]
      | false ↦ λ e k. inr (names_cases s ls n k)
    ] refl h

pub names_of_sign : (p : Pair) (s : Bool) (n : ℕ) → Has (names_in s p.cube) n → Has (of_sign s (support_of p)) n
names_of_sign p true n h = h
names_of_sign p false n h = h

-- what one pair asks for
pub covers_one : (p : Pair) → Covers (support_of p) (p ∷ [])
covers_one p = record { literals = literals; rows = rows }
  where
    literals : (l : Literal) → Asks (p ∷ []) l → Has (of_sign l.positive (support_of p)) l.proposition
    literals l (q, inl e, k) = names_of_sign p l.positive l.proposition (Has-names p.cube l (subst (λ (x : Pair). Has x.cube l) e k))
    literals l (q, inr z, k) = absurd z

    rows : (k : ℕ) → Leads (p ∷ []) k → Has p.targets k
    rows k (q, inl e, h) = subst (λ (x : Pair). Has x.targets k) e h
    rows k (q, inr z, h) = absurd z

-- what lists in a row ask for
pub covers_append : (a b : Support) (ps qs : List Pair) → Covers a ps → Covers b qs → Covers (together a b) (ps ++ qs)
covers_append a b ps qs c d = record {
  literals = λ l w. elim (append_cases ps qs w.0 w.1) [
    | inl h ↦ within_sign a (together a b) (within_together_left a b) l.positive l.proposition (c.literals l (w.0, h, w.2))
    | inr h ↦ within_sign b (together a b) (within_together_right a b) l.positive l.proposition (d.literals l (w.0, h, w.2))
  ];
  rows = λ k w. elim (append_cases ps qs w.0 w.1) [
    | inl h ↦ union_left nat_linear a.targets b.targets k (c.rows k (w.0, h, w.2))
    | inr h ↦ union_right nat_linear a.targets b.targets k (d.rows k (w.0, h, w.2))
  ];
}

-- a number that is in both is shared
pub shares_sign : (v b : Support) (s : Bool) (x : ℕ) → Has (of_sign s v) x → Has (of_sign s b) x → shares_some v b ≡ true
shares_sign v b true x h k =
    or_left (meets v.positive b.positive || meets v.negative b.negative) (meets v.targets b.targets)
    (or_left (meets v.positive b.positive) (meets v.negative b.negative) (meets_from v.positive b.positive x h k))
shares_sign v b false x h k =
    or_left (meets v.positive b.positive || meets v.negative b.negative) (meets v.targets b.targets)
    (or_right (meets v.positive b.positive) (meets v.negative b.negative) (meets_from v.negative b.negative x h k))

pub shares_row : (v b : Support) (x : ℕ) → Has v.targets x → Has b.targets x → shares_some v b ≡ true
shares_row v b x h k = or_right (meets v.positive b.positive || meets v.negative b.negative) (meets v.targets b.targets) (meets_from v.targets b.targets x h k)

module _ (table : Table) (chosen : Normal → List Pair) where
  -- what fulfils the until rows among these that a list with such targets puts off
  abbrev pub fulfilling_of : RowSet → List Normal → Support
  fulfilling_of targets [] = no_support
  fulfilling_of targets (f ∷ fs) = if has nat_cmp (place table f) targets then together (asked_of (chosen f)) (fulfilling_of targets fs) else fulfilling_of targets fs

  -- all that fulfils those of these until rows that the list puts off is among it
  abbrev pub CoversFulfillingOf : List Normal → Support → List Pair → Type 0
  CoversFulfillingOf fs w ps = (f : Normal) → Has fs f → Leads ps (place table f) → Covers w (chosen f)

  -- the same of all until rows
  abbrev pub CoversFulfilling : Support → List Pair → Type 0
  CoversFulfilling w ps = CoversFulfillingOf table.untils w ps

  -- where nothing is shared, the one list is kept off the other
  keeps_off_by : (v b : Support) (ps qs : List Pair) → CoversFulfilling v ps → Covers b qs → not (shares_some v b) ≡ true → KeepsOff table chosen ps qs
  keeps_off_by v b ps qs t c n = record {
    literals = λ f h w l i j. not_cases (shares_some v b) n (shares_sign v b l.positive l.proposition ((t f h w).literals l i) (c.literals l j));
    rows = λ f h w k i j. not_cases (shares_some v b) n (shares_row v b k ((t f h w).rows k i) (c.rows k j));
  }

  -- the test is right
  pub independent_by_test : (a v b w : Support) (ps qs : List Pair) → Covers a ps → CoversFulfilling v ps → Covers b qs → CoversFulfilling w qs → is_independent a v b w ≡ true → AreIndependent table chosen ps qs
  independent_by_test a v b w ps qs ca av cb aw e = record {
    names = λ l m h k d. clash l.positive m.positive l.proposition (ca.literals l h) (subst (Has (of_sign m.positive b)) (sym d) (cb.literals m k));
    rows = λ k h m. not_cases (speaks_of_same a b) same (shared (shares_row a b k (ca.rows k h) (cb.rows k m)));
    left = keeps_off_by v b ps qs av cb (right_true (not (speaks_of_same a b)) (not (shares_some v b)) first);
    right = keeps_off_by w a qs ps aw ca (right_true (not (speaks_of_same a b) && not (shares_some v b)) (not (shares_some w a)) e);
  }
    where
      first : (not (speaks_of_same a b) && not (shares_some v b)) ≡ true
      first = left_true (not (speaks_of_same a b) && not (shares_some v b)) (not (shares_some w a)) e

      same : not (speaks_of_same a b) ≡ true
      same = left_true (not (speaks_of_same a b)) (not (shares_some v b)) first

      shared : shares_some a b ≡ true → speaks_of_same a b ≡ true
      shared d = or_left (shares_some a b || meets a.positive b.negative) (meets a.negative b.positive) (or_left (shares_some a b) (meets a.positive b.negative) d)

      clash : (s t : Bool) (x : ℕ) → Has (of_sign s a) x → Has (of_sign t b) x → ⊥
      clash true true x h k = not_cases (speaks_of_same a b) same (shared (shares_sign a b true x h k))
      clash false false x h k = not_cases (speaks_of_same a b) same (shared (shares_sign a b false x h k))
      clash true false x h k = not_cases (speaks_of_same a b) same
          (or_left (shares_some a b || meets a.positive b.negative) (meets a.negative b.positive)
          (or_right (shares_some a b) (meets a.positive b.negative) (meets_from a.positive b.negative x h k)))
      clash false true x h k = not_cases (speaks_of_same a b) same
          (or_right (shares_some a b || meets a.positive b.negative) (meets a.negative b.positive) (meets_from a.negative b.positive x h k))
