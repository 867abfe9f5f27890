-- Independent lists of pairs: each pair of their join is made in one way.
use Rattle.std.proofs.Common.{◌≡◌, ℕ, Bool, true, false, ◌⊎◌, inl, inr, List, [], ◌∷◌, refl, sym, ◌∙◌, subst}
use Rattle.ltl_spec.specs.Collections.Sets.{Has, has}
use Rattle.ltl_spec.specs.Transitions.Cubes.{Literal, literal_cmp, opposite, is_contradictory}
use Rattle.ltl_spec.specs.NormalForms.Normal.{Normal}
use Rattle.ltl_spec.specs.Transitions.Pairs.{Pair, join, empty_pair}
use Rattle.ltl_spec.specs.Transitions.RowTransitions.{Table, place}
use Rattle.ltl_spec.proofs.Collections.SetLaws.{has_Decides, union_cases}
use Rattle.ltl_spec.proofs.Collections.Orders.{nat_linear, literal_linear}
use Rattle.ltl_spec.proofs.Collections.MemberLaws.{any_cases, any_true}
use Rattle.ltl_spec.proofs.Collections.CaseLaws.{false_is_true}
use Rattle.ltl_spec.proofs.Transitions.JoinLaws.{Within, united, within_left, within_right, IsConsistent}
use Rattle.ltl_spec.proofs.Transitions.LeastPairs.{both_within}
use Rattle.ltl_spec.proofs.Transitions.SameJoins.{AreSound, united_parts}

-- what lists ask for

-- a pair of the list asks for the literal
abbrev pub Asks : List Pair → Literal → Type 0
Asks ps l = (p : Pair) × Has ps p × Has p.cube l

-- a pair of the list has the row as a target
abbrev pub Leads : List Pair → ℕ → Type 0
Leads ps k = (p : Pair) × Has ps p × Has p.targets k

-- a join asks for what its sides ask for
pub asks_join : (ps qs : List Pair) (l : Literal) → Asks (join ps qs) l → Asks ps l ⊎ Asks qs l
asks_join ps qs l (r, h, k) =
    let (p, q, i, j, e, c) = united_parts ps qs r h in
    elim (union_cases literal_linear p.cube q.cube l (subst (λ (x : Pair). Has x.cube l) e k)) [ inl m ↦ inl (p, i, m) | inr m ↦ inr (q, j, m) ]

pub leads_join : (ps qs : List Pair) (k : ℕ) → Leads (join ps qs) k → Leads ps k ⊎ Leads qs k
leads_join ps qs k (r, h, n) =
    let (p, q, i, j, e, c) = united_parts ps qs r h in
    elim (union_cases nat_linear p.targets q.targets k (subst (λ (x : Pair). Has x.targets k) e n)) [ inl m ↦ inl (p, i, m) | inr m ↦ inr (q, j, m) ]

-- the pair that asks for nothing
pub asks_nothing : (l : Literal) → Asks (empty_pair ∷ []) l → ⊥
asks_nothing l (p, inl e, k) = subst (λ (x : Pair). Has x.cube l) e k
asks_nothing l (p, inr z, k) = z

pub leads_nothing : (k : ℕ) → Leads (empty_pair ∷ []) k → ⊥
leads_nothing k (p, inl e, h) = subst (λ (x : Pair). Has x.targets k) e h
leads_nothing k (p, inr z, h) = z

-- `chosen` gives the pairs of an until row that are looked at: all its fulfilling pairs, or some that are enough
module _ (table : Table) (chosen : Normal → List Pair) where
  -- the second list asks for nothing that the pairs of an until row ask for which the first list puts off
  pub record KeepsOff (ps qs : List Pair) : Type 0 where
    pub literals : (f : Normal) → Has table.untils f → Leads ps (place table f) → (l : Literal) → Asks (chosen f) l → Asks qs l → ⊥
    pub rows : (f : Normal) → Has table.untils f → Leads ps (place table f) → (k : ℕ) → Leads (chosen f) k → Leads qs k → ⊥

  -- two lists have nothing to do with each other: no proposition of either sign is in both, no target is, and neither asks for what could fulfil an until row that the other puts off
  pub record AreIndependent (ps qs : List Pair) : Type 0 where
    pub names : (l m : Literal) → Asks ps l → Asks qs m → l.proposition ≡ m.proposition → ⊥
    pub rows : (k : ℕ) → Leads ps k → Leads qs k → ⊥
    pub left : KeepsOff ps qs
    pub right : KeepsOff qs ps

  -- the order of the two plays no part
  pub independent_sym : (ps qs : List Pair) → AreIndependent ps qs → AreIndependent qs ps
  independent_sym ps qs a = record { names = λ l m h k e. a.names m l k h (sym e); rows = λ k h m. a.rows k m h; left = a.right; right = a.left }

  -- where each of two lists is independent of a third one, their join is
  pub independent_join : (ps qs rs : List Pair) → AreIndependent ps rs → AreIndependent qs rs → AreIndependent (join ps qs) rs
  independent_join ps qs rs a b = record {
    names = λ l m h k e. elim (asks_join ps qs l h) [ inl i ↦ a.names l m i k e | inr i ↦ b.names l m i k e ];
    rows = λ k h m. elim (leads_join ps qs k h) [ inl i ↦ a.rows k i m | inr i ↦ b.rows k i m ];
    left = record {
      literals = λ f h w l i j. elim (leads_join ps qs (place table f) w) [ inl v ↦ a.left.literals f h v l i j | inr v ↦ b.left.literals f h v l i j ];
      rows = λ f h w k i j. elim (leads_join ps qs (place table f) w) [ inl v ↦ a.left.rows f h v k i j | inr v ↦ b.left.rows f h v k i j ];
    };
    right = record {
      literals = λ f h w l i j. elim (asks_join ps qs l j) [ inl v ↦ a.right.literals f h w l i v | inr v ↦ b.right.literals f h w l i v ];
      rows = λ f h w k i j. elim (leads_join ps qs k j) [ inl v ↦ a.right.rows f h w k i v | inr v ↦ b.right.rows f h w k i v ];
    };
  }

  -- what asks for nothing is independent of all
  pub independent_of_nothing : (qs : List Pair) → AreIndependent (empty_pair ∷ []) qs
  independent_of_nothing qs = record {
    names = λ l m h k e. asks_nothing l h;
    rows = λ k h m. leads_nothing k h;
    left = record { literals = λ f h w l i j. leads_nothing (place table f) w; rows = λ f h w k i j. leads_nothing (place table f) w };
    right = record { literals = λ f h w l i j. asks_nothing l j; rows = λ f h w k i j. leads_nothing k j };
  }

  -- so are lists of some of their pairs
  pub independent_some : (ps qs rs ss : List Pair) → ((p : Pair) → Has rs p → Has ps p) → ((q : Pair) → Has ss q → Has qs q) → AreIndependent ps qs → AreIndependent rs ss
  independent_some ps qs rs ss f g a = record {
    names = λ l m h k e. a.names l m (asks rs ps f l h) (asks ss qs g m k) e;
    rows = λ k h m. a.rows k (leads rs ps f k h) (leads ss qs g k m);
    left = record { literals = λ h i w l x j. a.left.literals h i (leads rs ps f (place table h) w) l x (asks ss qs g l j); rows = λ h i w k x j. a.left.rows h i (leads rs ps f (place table h) w) k x (leads ss qs g k j) };
    right = record { literals = λ h i w l x j. a.right.literals h i (leads ss qs g (place table h) w) l x (asks rs ps f l j); rows = λ h i w k x j. a.right.rows h i (leads ss qs g (place table h) w) k x (leads rs ps f k j) };
  }
    where
      asks : (us vs : List Pair) → ((p : Pair) → Has us p → Has vs p) → (l : Literal) → Asks us l → Asks vs l
      asks us vs more l (p, h, k) = (p, more p h, k)

      leads : (us vs : List Pair) → ((p : Pair) → Has us p → Has vs p) → (k : ℕ) → Leads us k → Leads vs k
      leads us vs more k (p, h, m) = (p, more p h, m)

  -- pairs of lists that are independent

  module _ (ps qs : List Pair) (independent : AreIndependent ps qs) where
    -- what of two united pairs is within two others, is within the other of its own side
    pub within_first : (p q a b : Pair) → Has ps p → Has qs b → Within p (united a b) → Within p a
    within_first p q a b h k w = record {
      cube = λ l m. elim (union_cases literal_linear a.cube b.cube l (w.cube l m)) [ inl n ↦ n | inr n ↦ absurd (independent.names l l (p, h, m) (b, k, n) refl) ];
      targets = λ i m. elim (union_cases nat_linear a.targets b.targets i (w.targets i m)) [ inl n ↦ n | inr n ↦ absurd (independent.rows i (p, h, m) (b, k, n)) ];
    }

    pub within_second : (p q a b : Pair) → Has qs q → Has ps a → Within q (united a b) → Within q b
    within_second p q a b h k w = record {
      cube = λ l m. elim (union_cases literal_linear a.cube b.cube l (w.cube l m)) [ inl n ↦ absurd (independent.names l l (a, k, n) (q, h, m) refl) | inr n ↦ n ];
      targets = λ i m. elim (union_cases nat_linear a.targets b.targets i (w.targets i m)) [ inl n ↦ absurd (independent.rows i (a, k, n) (q, h, m)) | inr n ↦ n ];
    }

    -- where two united pairs are within two others, each is within the other of its own side
    pub parts_within : (p q a b : Pair) → Has ps p → Has qs q → Has ps a → Has qs b → Within (united p q) (united a b) → Within p a × Within q b
    parts_within p q a b h k m n w = (
      within_first p q a b h n (record { cube = λ l i. w.cube l ((within_left p q).cube l i); targets = λ i j. w.targets i ((within_left p q).targets i j) }),
      within_second p q a b k m (record { cube = λ l i. w.cube l ((within_right p q).cube l i); targets = λ i j. w.targets i ((within_right p q).targets i j) }),
    )

    -- so a united pair comes about in one way
    pub parts_once : AreSound ps → AreSound qs → (p q a b : Pair) → Has ps p → Has qs q → Has ps a → Has qs b → united p q ≡ united a b → (p ≡ a) × (q ≡ b)
    parts_once s r p q a b h k m n e =
        let v = parts_within p q a b h k m n (subst (Within (united p q)) e (record { cube = λ l i. i; targets = λ i j. j })) in
        let w = parts_within a b p q m n h k (subst (Within (united a b)) (sym e) (record { cube = λ l i. i; targets = λ i j. j })) in
        (both_within p a (s.proper p h) (s.proper a m) v.0 w.0, both_within q b (r.proper q k) (r.proper b n) v.1 w.1)

    -- pairs of both never contradict each other
    pub never_contradict : AreSound ps → AreSound qs → (p q : Pair) → Has ps p → Has qs q → IsConsistent (united p q)
    never_contradict s r p q h k = at (is_contradictory (united p q).cube) refl
      where
        -- a literal and its opposite, each from one of the two
        clash : (l : Literal) → Has p.cube l ⊎ Has q.cube l → Has p.cube (opposite l) ⊎ Has q.cube (opposite l) → ⊥
        clash l (inl i) (inl j) = false_is_true (sym (s.consistent p h) ∙ any_true (λ m. has literal_cmp (opposite m) p.cube) p.cube l i ((has_Decides literal_linear (opposite l) p.cube).1 j))
        clash l (inl i) (inr j) = independent.names l (opposite l) (p, h, i) (q, k, j) refl
        clash l (inr i) (inl j) = independent.names (opposite l) l (p, h, j) (q, k, i) refl
        clash l (inr i) (inr j) = false_is_true (sym (r.consistent q k) ∙ any_true (λ m. has literal_cmp (opposite m) q.cube) q.cube l i ((has_Decides literal_linear (opposite l) q.cube).1 j))

        at : (b : Bool) → is_contradictory (united p q).cube ≡ b → b ≡ false
        at false e = refl
        at true e =
            let (l, i, t) = any_cases (λ m. has literal_cmp (opposite m) (united p q).cube) (united p q).cube e in
            absurd (clash l (union_cases literal_linear p.cube q.cube l i)
            (union_cases literal_linear p.cube q.cube (opposite l) ((has_Decides literal_linear (opposite l) (united p q).cube).0 t)))
